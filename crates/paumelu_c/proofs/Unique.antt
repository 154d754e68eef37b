-- The contract of what C calls leaves one result. Assumes nothing.
use Rattle.std.proofs.Common.{◌≡◌, sym, ◌∙◌}
use Rattle.base.proofs.Results.{Unique}
use Rattle.paumelu_c.proofs.paumelu_read.Kinds as paumelu_read_kinds
use Rattle.paumelu_c.proofs.paumelu_read.Reads as paumelu_read

-- the number; then, at exit, place, items and events (parameters 4, 5 and 6, counted from 0) and the tape (parameter 3)
pub paumelu_read_unique : Unique 5 paumelu_read_kinds.ps paumelu_read_kinds.r paumelu_read.Post (λ κs r q s z.
    (r ≡ q)
    × (s.1.1.1.1.0.now ≡ z.1.1.1.1.0.now)
    × (s.1.1.1.1.1.0.now ≡ z.1.1.1.1.1.0.now)
    × (s.1.1.1.1.1.1.0.now ≡ z.1.1.1.1.1.1.0.now)
    × (s.1.1.1.0.now ≡ z.1.1.1.0.now))
paumelu_read_unique κs a r q s z e f = (
  e.0 ∙ sym f.0,
  e.1.0 ∙ sym f.1.0,
  e.1.1.0 ∙ sym f.1.1.0,
  e.1.1.1.0 ∙ sym f.1.1.1.0,
  e.1.1.1.1 ∙ sym f.1.1.1.1,
)
