-- `tape::put_entry` meets its contract. The invariant: the first k bytes are written. Assumes nothing.
use mathlib.Core.Path.{◌≡◌}
use lib.ListN.{take}
use Rattle.tape.specs.Entry.{bytes8, over_at}
use Rattle.tape.proofs.put_entry.Given as goal

abbrev pub invariant-loop-k : goal.invariant-loop-k
invariant-loop-k l = l.tape ≡ over_at l.at l.fn.tape (take l.k (bytes8 l.word))
