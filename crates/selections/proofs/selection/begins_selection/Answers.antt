-- `begins_selection` meets its contract. Assumes nothing.
use mathlib.Core.Path.{sym, ◌∙◌}
use Rattle.selections.specs.Follows.{begins_selection}
use Rattle.selections.proofs.selection.begins_selection.Goals as goal

pub returns-then-is : goal.returns-then-is
unfolding begins_selection
returns-then-is c = let e = sym c.is.ensures ∙ c.if-is.true in c.if-is.true ∙ rw e

pub returns-else-is : goal.returns-else-is
unfolding begins_selection
returns-else-is c = let e = sym c.is.ensures ∙ c.if-is.false in c.is_name.ensures ∙ rw e
