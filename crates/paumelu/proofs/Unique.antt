-- The contracts of the grammar's entries and of the C interface leave one result. Assumes nothing.
use mathlib.Core.Path.{◌≡◌, sym, ◌∙◌}
use Rattle.base.proofs.Results.{Unique}
use Rattle.paumelu.proofs.read_value.Kinds as read_value_kinds
use Rattle.paumelu.proofs.read_value.Reads as read_value_fn
use Rattle.paumelu.proofs.read_constant.Kinds as read_constant_kinds
use Rattle.paumelu.proofs.read_constant.Reads as read_constant_fn
use Rattle.paumelu.proofs.read_type.Kinds as read_type_kinds
use Rattle.paumelu.proofs.read_type.Reads as read_type_fn
use Rattle.paumelu.proofs.read_selection_set.Kinds as read_selection_set_kinds
use Rattle.paumelu.proofs.read_selection_set.Reads as read_selection_set_fn
use Rattle.paumelu.proofs.paumelu_read.Kinds as paumelu_read_kinds
use Rattle.paumelu.proofs.paumelu_read.Reads as paumelu_read

-- the answer; then, at exit, the item tape and the event tape (parameters 3 and 4, counted from 0)
pub read_value_unique : Unique 3 read_value_kinds.ps read_value_kinds.r read_value_fn.Post (λ κs r q s z.
    (r ≡ q) × (s.1.1.1.0.now ≡ z.1.1.1.0.now) × (s.1.1.1.1.0.now ≡ z.1.1.1.1.0.now))
read_value_unique κs a r q s z e f = (e.0 ∙ sym f.0, e.1.0 ∙ sym f.1.0, e.1.1 ∙ sym f.1.1)

pub read_constant_unique : Unique 3 read_constant_kinds.ps read_constant_kinds.r read_constant_fn.Post (λ κs r q s z.
    (r ≡ q) × (s.1.1.1.0.now ≡ z.1.1.1.0.now) × (s.1.1.1.1.0.now ≡ z.1.1.1.1.0.now))
read_constant_unique κs a r q s z e f = (e.0 ∙ sym f.0, e.1.0 ∙ sym f.1.0, e.1.1 ∙ sym f.1.1)

pub read_type_unique : Unique 3 read_type_kinds.ps read_type_kinds.r read_type_fn.Post (λ κs r q s z.
    (r ≡ q) × (s.1.1.1.0.now ≡ z.1.1.1.0.now) × (s.1.1.1.1.0.now ≡ z.1.1.1.1.0.now))
read_type_unique κs a r q s z e f = (e.0 ∙ sym f.0, e.1.0 ∙ sym f.1.0, e.1.1 ∙ sym f.1.1)

pub read_selection_set_unique : Unique 3 read_selection_set_kinds.ps read_selection_set_kinds.r read_selection_set_fn.Post (λ κs r q s z.
    (r ≡ q) × (s.1.1.1.0.now ≡ z.1.1.1.0.now) × (s.1.1.1.1.0.now ≡ z.1.1.1.1.0.now))
read_selection_set_unique κs a r q s z e f = (e.0 ∙ sym f.0, e.1.0 ∙ sym f.1.0, e.1.1 ∙ sym f.1.1)

-- the number; then, at exit, place, items and events (parameters 4, 5 and 6, counted from 0) and the tape (parameter 3)
pub paumelu_read_unique : Unique 5 paumelu_read_kinds.ps paumelu_read_kinds.r paumelu_read.Post (λ κs r q s z.
    (r ≡ q)
    × (s.1.1.1.1.0.now ≡ z.1.1.1.1.0.now)
    × (s.1.1.1.1.1.0.now ≡ z.1.1.1.1.1.0.now)
    × (s.1.1.1.1.1.1.0.now ≡ z.1.1.1.1.1.1.0.now)
    × (s.1.1.1.0.now ≡ z.1.1.1.0.now))
paumelu_read_unique κs a r q s z e f = (
  e.0 ∙ sym f.0,
  e.1.0 ∙ sym f.1.0,
  e.1.1.0 ∙ sym f.1.1.0,
  e.1.1.1.0 ∙ sym f.1.1.1.0,
  e.1.1.1.1 ∙ sym f.1.1.1.1,
)
