-- The contracts of the public functions leave one result. Assumes nothing.
use mathlib.Core.Path.{◌≡◌, sym, ◌∙◌}
use Rattle.base.proofs.Results.{Unique}
use Rattle.reader.proofs.read_items.Kinds as read_items_kinds
use Rattle.reader.proofs.read_items.Reads as read_items
use Rattle.reader.proofs.part.Kinds as part_kinds
use Rattle.reader.proofs.part.Reads as part

-- the answer, and the tape at exit: parameter 2, counted from 0
pub read_items_unique : Unique 2 read_items_kinds.ps read_items_kinds.r read_items.Post (λ κs r q s z. (r ≡ q) × (s.1.1.0.now ≡ z.1.1.0.now))
read_items_unique κs a r q s z e f = (e.0 ∙ sym f.0, e.1 ∙ sym f.1)

-- the bytes of the part
pub part_unique : Unique 1 part_kinds.ps part_kinds.r part.Post (λ κs r q s z. r.now ≡ q.now)
part_unique κs a r q s z e f = e ∙ sym f
