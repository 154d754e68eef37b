-- The contracts of the public functions that print nothing leave one result. Assumes nothing.
use mathlib.Core.Path.{◌≡◌, sym, ap, ◌∙◌}
use Rattle.base.specs.Item.{Item}
use Rattle.base.proofs.Results.{Unique}
use Rattle.tape.specs.declared.Entry.{Entry}
use Rattle.print.proofs.output.less.Kinds as less_kinds
use Rattle.print.proofs.output.less.Reads as less
use Rattle.print.proofs.output.sum.Kinds as sum_kinds
use Rattle.print.proofs.output.sum.Reads as sum
use Rattle.print.proofs.entries.entry_at.Kinds as entry_at_kinds
use Rattle.print.proofs.entries.entry_at.Reads as entry_at
use Rattle.print.proofs.entries.first_error.Kinds as first_error_kinds
use Rattle.print.proofs.entries.first_error.Reads as first_error_fn

-- the difference
pub less_unique : Unique 0 less_kinds.ps less_kinds.r less.Post (λ κs r q s z. r ≡ q)
less_unique κs a r q s z e f = e ∙ sym f

-- the sum
pub sum_unique : Unique 0 sum_kinds.ps sum_kinds.r sum.Post (λ κs r q s z. r ≡ q)
sum_unique κs a r q s z e f = e ∙ sym f

-- the entry: the contract is of the item that it holds, whose three fields are all that it has
pub entry_at_unique : Unique 1 entry_at_kinds.ps entry_at_kinds.r entry_at.Post (λ κs r q s z. r ≡ q)
entry_at_unique κs a r q s z e f = ap fields (e ∙ sym f)
  where
    fields : Item → Entry
    fields x = record { code = x.code; start = x.start; size = x.size }

-- the error
pub first_error_unique : Unique 1 first_error_kinds.ps first_error_kinds.r first_error_fn.Post (λ κs r q s z. r ≡ q)
first_error_unique κs a r q s z e f = e ∙ sym f
