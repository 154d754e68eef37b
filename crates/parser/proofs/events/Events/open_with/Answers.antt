-- `Events::open_with` meets its contract. Assumes nothing.
use Rattle.parser.proofs.Writing.{wrote_then}
use Rattle.parser.proofs.events.Events.open_with.Goals as goal

pub returns : goal.returns
returns c = wrote_then c.open.ensures c.token.ensures
