-- `Events::token` meets its contract. Assumes nothing.
use Rattle.parser.proofs.events.Events.token.Goals as goal

pub returns : goal.returns
returns c = rw c.code_of.ensures at c.put.ensures
