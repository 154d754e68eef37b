-- `numbers::number_from` meets its contract. The invariant: what is left to be read from here is what was to be read at the start.
-- Assumes nothing.
use Rattle.numbers.proofs.Turn.{Passed}
use Rattle.numbers.proofs.number_from.Given as goal

abbrev pub invariant-loop-i : goal.invariant-loop-i
invariant-loop-i l = Passed l.rest l.fn.start l.state l.i
