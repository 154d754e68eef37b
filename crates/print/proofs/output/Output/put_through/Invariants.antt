-- What the loop of `put_through` keeps: a write that failed stays one. Assumes nothing: these are definitions.
use mathlib.Core.Path.{◌≡◌}
use mathlib.Core.Bool.{true}
use Rattle.print.proofs.output.Output.put_through.Given as goal

abbrev pub invariant-loop-b : goal.invariant-loop-b
invariant-loop-b l = l.fn.self.failed ≡ true → l.self.failed ≡ true
