-- `strings::block_string_literal` meets its contract. The invariant: the block string is that which is read on from i. Assumes nothing.
use mathlib.Core.Path.{◌≡◌}
use Prim.Native.Nat.{◌-◌, ◌≤◌}
use lib.ListN.{length}
use Rattle.strings.specs.String.{block_of}
use Rattle.strings.proofs.Block.{block_from}
use Rattle.strings.proofs.block_string_literal.Given as goal

abbrev pub invariant-loop-i : goal.invariant-loop-i
invariant-loop-i l = (l.i ≤ length l.rest) × (block_of l.rest ≡ block_from l.i l.rest)

abbrev pub decreases-loop-i : goal.decreases-loop-i
decreases-loop-i l = length l.rest - l.i
