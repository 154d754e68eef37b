-- Depth falls from a list to what it lists; at one depth a walk comes after its base type. Assumes nothing.
use Rattle.std.proofs.Common.{◌+◌, ◌*◌}
use Rattle.typerefs.proofs.ty.+types.Given as goal

abbrev pub decreases-base_type : goal.decreases-base_type
decreases-base_type l = 2 * l.depth

abbrev pub decreases-walk : goal.decreases-walk
decreases-walk l = 2 * l.depth + 1
