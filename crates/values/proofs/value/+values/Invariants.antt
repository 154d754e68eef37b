-- Depth falls from a value to the values in it; at one depth a list or an object comes after the value that it is, and a field after its object. Assumes nothing.
use Rattle.std.proofs.Common.{[], ◌∷◌, ◌+◌, ◌-◌, ◌*◌, length}
use Rattle.rules.specs.Items.{items as items_of}
use Rattle.syntax.specs.Machine.{items as items_due, fields}
use Rattle.parser.specs.Promise.{Ready}
use Rattle.parser.proofs.Moves.{Passed}
use Rattle.values.proofs.value.+values.Given as goal

abbrev pub decreases-list_value : goal.decreases-list_value
decreases-list_value l = 3 * l.depth + 1

abbrev pub decreases-object_field : goal.decreases-object_field
decreases-object_field l = 3 * l.depth

abbrev pub decreases-object_value : goal.decreases-object_value
decreases-object_value l = 3 * l.depth + 1

abbrev pub decreases-value : goal.decreases-value
decreases-value l = 3 * l.depth + 2

abbrev pub invariant-list_value-loop-at : goal.invariant-list_value-loop-at
invariant-list_value-loop-at l =
    Ready l.tokens.text.now l.at × Passed l.constant l.tokens.text.now (items_due l.depth l.token.start ∷ []) l.initial.events l.initial.at l.events l.at

abbrev pub decreases-list_value-loop-at : goal.decreases-list_value-loop-at
decreases-list_value-loop-at l = length (items_of l.tokens.text.now) - l.at.next

abbrev pub invariant-object_value-loop-events : goal.invariant-object_value-loop-events
invariant-object_value-loop-events l =
    Ready l.tokens.text.now l.at × Passed l.constant l.tokens.text.now (fields l.depth l.token.start ∷ []) l.initial.events l.initial.at l.events l.at

abbrev pub decreases-object_value-loop-events : goal.decreases-object_value-loop-events
decreases-object_value-loop-events l = length (items_of l.tokens.text.now) - l.at.next
