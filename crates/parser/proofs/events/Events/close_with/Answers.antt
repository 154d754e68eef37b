-- `Events::close_with` meets its contract. Assumes nothing.
use Rattle.parser.proofs.Writing.{wrote_then}
use Rattle.parser.proofs.events.Events.close_with.Goals as goal

pub returns : goal.returns
returns c = rw c.end.ensures at (wrote_then c.token.ensures c.close.ensures)
