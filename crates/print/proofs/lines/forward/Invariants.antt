-- `print::lines::forward` meets its contract: it goes byte after byte. Assumes nothing.
use Prim.Native.Nat.{◌≤◌, max}
use mathlib.Core.Path.{◌≡◌}
use Rattle.print.proofs.lines.forward.Given as goal

abbrev pub invariant-loop : goal.invariant-loop
invariant-loop l = (l.spot.byte ≡ l.counter) × (l.counter ≤ max l.fn.from.byte l.to)
