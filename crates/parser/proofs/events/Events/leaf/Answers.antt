-- `Events::leaf` meets its contract. Assumes nothing.
use Rattle.parser.proofs.Writing.{wrote_then}
use Rattle.parser.proofs.events.Events.leaf.Goals as goal

pub returns : goal.returns
returns c = wrote_then c.open.ensures c.close_with.ensures
