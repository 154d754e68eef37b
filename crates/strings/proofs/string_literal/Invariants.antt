-- `strings::string_literal` meets its contract. The invariant: the string is that which is read on from the state at i, i bytes further on.
-- Assumes nothing.
use mathlib.Core.Path.{◌≡◌}
use Prim.Native.Nat.{◌-◌, ◌≤◌}
use lib.ListN.{length, drop}
use Rattle.std.specs.Prelude.{None}
use Rattle.strings.specs.String.{further, begun, quoted_from}
use Rattle.strings.proofs.string_literal.Given as goal

abbrev pub invariant-loop-i : goal.invariant-loop-i
invariant-loop-i l = (l.i ≤ length l.rest) × (further 1 (quoted_from begun None (drop 1 l.rest)) ≡ further l.i (quoted_from l.state l.err (drop l.i l.rest)))

abbrev pub decreases-loop-i : goal.decreases-loop-i
decreases-loop-i l = length l.rest - l.i
