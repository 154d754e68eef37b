-- Quoted strings as the code reads them: the loop that takes one byte after another. Assumes nothing.
use mathlib.Core.Path.{◌≡◌}
use mathlib.Core.List.{List}
use Prim.Native.Nat.{ℕ, ◌+◌, ◌≤◌, ◌<◌}
use native.Mathlib.Nat.{add-zero, add_assoc}
use native.Mathlib.Numerals.{add-one}
use lib.ListN.{length, get_or, drop, drop_of_length-le}
use lib.Seq.{drop-cons}
use Rattle.std.specs.Prelude.{Option}
use Rattle.codes.specs.declared.fault.Fault.{Fault}
use Rattle.base.specs.Item.{lexeme}
use Rattle.strings.specs.declared.StringState.{StringState}
use Rattle.strings.specs.declared.StringStep.TheVariants.{Go, Close}
use Rattle.strings.specs.String.{end_of, string_step, later_of, done_code, further, quoted_from}

module _ (s : StringState) (err : Option Fault) (i : ℕ) (t : List ℕ) where
  -- the byte at i leads to another state
  pub quoted_goes : (next : StringState) (fault : Option Fault) → i < length t → string_step s (get_or t i 0) ≡ Go next fault
      → further i (quoted_from s err (drop i t)) ≡ further (i + 1) (quoted_from next (later_of err fault) (drop (i + 1) t))
  unfolding quoted_from
  quoted_goes next fault h e = rw (drop-cons t i 0 h, e, add_assoc, add-one)

  -- the byte at i closes the string
  pub quoted_closes : (fault : Option Fault) → i < length t → string_step s (get_or t i 0) ≡ Close fault
      → further i (quoted_from s err (drop i t)) ≡ lexeme (done_code (later_of err fault)) (i + 1)
  unfolding quoted_from
  quoted_closes fault h e = rw (drop-cons t i 0 h, e)

  -- the text ends
  pub quoted_ends : length t ≤ i → further i (quoted_from s err (drop i t)) ≡ lexeme (end_of s) i
  unfolding quoted_from
  quoted_ends h = rw (drop_of_length-le t h, add-zero)
