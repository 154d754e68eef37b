-- `directives` meets its contract. The invariant: what was read are directives. Assumes nothing.
use Rattle.std.proofs.Common.{false, [], ◌∷◌, ◌-◌, length}
use Rattle.rules.specs.Items.{items as items_of}
use Rattle.syntax.specs.Machine.{directives}
use Rattle.parser.specs.Promise.{Ready}
use Rattle.parser.proofs.Moves.{Passed}
use Rattle.selections.proofs.directive.directives.Given as goal

abbrev pub invariant-loop-token : goal.invariant-loop-token
invariant-loop-token l = Ready l.tokens.text.now l.at × Passed false l.tokens.text.now (directives l.depth l.first.start ∷ []) l.initial.events l.initial.at l.events l.at

abbrev pub decreases-loop-token : goal.decreases-loop-token
decreases-loop-token l = length (items_of l.tokens.text.now) - l.at.next
