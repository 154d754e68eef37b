-- `arguments` meets its contract. The invariant: what was read since the `(` are arguments. Assumes nothing.
use Rattle.std.proofs.Common.{false, [], ◌∷◌, ◌-◌, length}
use Rattle.rules.specs.Items.{items as items_of}
use Rattle.syntax.specs.Machine.{arguments}
use Rattle.parser.specs.Promise.{Ready}
use Rattle.parser.proofs.Moves.{Passed}
use Rattle.selections.proofs.argument.arguments.Given as goal

abbrev pub invariant-loop-events : goal.invariant-loop-events
invariant-loop-events l = Ready l.tokens.text.now l.at × Passed false l.tokens.text.now (arguments l.depth l.token.start ∷ []) l.initial.events l.initial.at l.events l.at

abbrev pub decreases-loop-events : goal.decreases-loop-events
decreases-loop-events l = length (items_of l.tokens.text.now) - l.at.next
