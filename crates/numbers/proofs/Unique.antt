-- The contract of `number` leaves one result. Assumes nothing.
use mathlib.Core.Path.{◌≡◌, sym, ◌∙◌}
use Rattle.base.proofs.Results.{Unique}
use Rattle.numbers.proofs.number.Kinds as number_kinds
use Rattle.numbers.proofs.number.Reads as number

-- the token or the error, and its size
pub number_unique : Unique 1 number_kinds.ps number_kinds.r number.Post (λ κs r q s z. r ≡ q)
number_unique κs a r q s z e f = e ∙ sym f
