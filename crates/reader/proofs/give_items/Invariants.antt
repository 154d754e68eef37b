-- `reader::give_items` meets its contract: the invariant is `Head` of proofs/Reading, whose laws say what each way out and a turn make of it. Assumes nothing.
use Rattle.reader.proofs.Reading.{Head}
use Rattle.reader.proofs.give_items.Given as goal

abbrev pub invariant-loop-n : goal.invariant-loop-n
invariant-loop-n l = Head l.text l.initial.tape l.limit l.tape l.cursor l.n
