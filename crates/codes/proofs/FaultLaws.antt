-- No fault's number is 0. Assumes nothing.
use mathlib.Core.Path.{◌≡◌, refl}
use mathlib.Core.Bool.{false}
use lib.Dec.{eqb}
use Rattle.codes.specs.declared.fault.Fault.{Fault}
use Rattle.codes.specs.declared.fault.Fault.TheVariants as the
use Rattle.codes.specs.FaultNumbers.{number_of}

pub fault_some : (f : Fault) → eqb (number_of f) 0 ≡ false
fault_some the.UnexpectedCharacter = refl
fault_some _ = refl
