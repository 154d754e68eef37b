-- The contract of `read` leaves one result. Assumes nothing.
use mathlib.Core.Path.{◌≡◌, sym, ◌∙◌}
use Rattle.base.proofs.Results.{Unique}
use Rattle.grammar.proofs.read.Kinds as read_kinds
use Rattle.grammar.proofs.read.Reads as read

-- the answer; then, at exit, the item tape and the event tape (parameters 4 and 5, counted from 0)
pub read_unique : Unique 3 read_kinds.ps read_kinds.r read.Post (λ κs r q s z.
    (r ≡ q) × (s.1.1.1.1.0.now ≡ z.1.1.1.1.0.now) × (s.1.1.1.1.1.0.now ≡ z.1.1.1.1.1.0.now))
read_unique κs a r q s z e f = (e.0 ∙ sym f.0, e.1.0 ∙ sym f.1.0, e.1.1 ∙ sym f.1.1)
