-- The contract of `string` leaves one result. Assumes nothing.
use mathlib.Core.Path.{◌≡◌, sym, ◌∙◌}
use Rattle.base.proofs.Results.{Unique}
use Rattle.strings.proofs.string.Kinds as string_kinds
use Rattle.strings.proofs.string.Reads as string

-- the token or the error, and its size
pub string_unique : Unique 1 string_kinds.ps string_kinds.r string.Post (λ κs r q s z. r ≡ q)
string_unique κs a r q s z e f = e ∙ sym f
