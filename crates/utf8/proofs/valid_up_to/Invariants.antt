-- `utf8::valid_up_to` meets its contract. The invariant: up to i all is well-formed, and what is left is counted from i on.
-- Assumes nothing.
use Prim.Native.Nat.{◌-◌}
use lib.ListN.{length}
use Rattle.utf8.proofs.Turn.{Passed}
use Rattle.utf8.proofs.valid_up_to.Given as goal

abbrev pub invariant-loop-n : goal.invariant-loop-n
invariant-loop-n l = Passed l.text l.i

abbrev pub decreases-loop-n : goal.decreases-loop-n
decreases-loop-n l = length l.text - l.i
