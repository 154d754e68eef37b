-- `Events::named` meets its contract. Assumes nothing.
use Rattle.parser.proofs.Writing.{wrote_then}
use Rattle.parser.proofs.events.Events.named.Goals as goal

pub returns : goal.returns
returns c = rw c.end.ensures at (wrote_then (wrote_then c.open.ensures c.leaf.ensures) c.close.ensures)
