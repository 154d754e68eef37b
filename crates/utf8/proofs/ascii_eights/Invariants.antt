-- `utf8::ascii_eights` meets its contract. The invariant: what is read on from i is read on from j. Assumes nothing.
use Prim.Native.Nat.{◌-◌}
use lib.ListN.{length}
use Rattle.utf8.specs.Sequence.{Passes}
use Rattle.utf8.proofs.ascii_eights.Given as goal

abbrev pub invariant-loop-j : goal.invariant-loop-j
invariant-loop-j l = Passes l.text l.i l.j

abbrev pub decreases-loop-j : goal.decreases-loop-j
decreases-loop-j l = length l.text - l.j
