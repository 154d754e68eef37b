-- Depth falls from a selection set to its selections; at one depth a selection comes after the field or the fragment that it is, and these after their
-- selection set. Assumes nothing.
use Rattle.std.proofs.Common.{false, [], ◌∷◌, ◌+◌, ◌-◌, ◌*◌, length}
use Rattle.rules.specs.Items.{items as items_of}
use Rattle.syntax.specs.Machine.{selections}
use Rattle.parser.specs.Promise.{Ready}
use Rattle.parser.proofs.Moves.{Passed}
use Rattle.selections.proofs.+selections.Given as goal

abbrev pub decreases-field::field : goal.decreases-field::field
decreases-field::field l = 4 * l.depth + 2

abbrev pub decreases-fragment::inline_fragment : goal.decreases-fragment::inline_fragment
decreases-fragment::inline_fragment l = 4 * l.depth + 2

abbrev pub decreases-selection::selection : goal.decreases-selection::selection
decreases-selection::selection l = 4 * l.depth + 3

abbrev pub decreases-selection::selections : goal.decreases-selection::selections
decreases-selection::selections l = 4 * l.depth

abbrev pub decreases-selection::selection_set : goal.decreases-selection::selection_set
decreases-selection::selection_set l = 4 * l.depth + 1

abbrev pub decreases-selection::opt_selection_set : goal.decreases-selection::opt_selection_set
decreases-selection::opt_selection_set l = 4 * l.depth + 1

abbrev pub invariant-selection::selections-loop-events : goal.invariant-selection::selections-loop-events
invariant-selection::selections-loop-events l =
    Ready l.tokens.text.now l.at × Passed false l.tokens.text.now (selections (l.depth - 1) l.token.start ∷ []) l.initial.events l.initial.at l.events l.at

abbrev pub decreases-selection::selections-loop-events : goal.decreases-selection::selections-loop-events
decreases-selection::selections-loop-events l = length (items_of l.tokens.text.now) - l.at.next
