-- `lexer::scan::blank_run` meets its contract. The invariant: the run of the whole is i and the run of what is left from i on. Assumes nothing.
use Prim.Native.Nat.{◌+◌, ◌-◌, ◌≤◌}
use mathlib.Core.Path.{◌≡◌}
use lib.ListN.{length, drop}
use Rattle.base.specs.Span.{span}
use Rattle.rules.specs.Tokens.{blank, blanks}
use Rattle.lexer.proofs.scan.blank_run.Given as goal

abbrev pub invariant-loop-n : goal.invariant-loop-n
invariant-loop-n l = (l.i ≤ length l.s) × (blanks l.s ≡ l.i + span blank 0 (drop l.i l.s))

abbrev pub decreases-loop-n : goal.decreases-loop-n
decreases-loop-n l = length l.s - l.i
