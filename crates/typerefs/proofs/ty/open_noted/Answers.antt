-- `open_noted` meets its contract. Assumes nothing.
use Rattle.parser.proofs.Writing.{wrote_none}
use Rattle.typerefs.proofs.ty.open_noted.Goals as goal

pub returns-else-follows : goal.returns-else-follows
returns-else-follows c = rw c.if-follows.false (wrote_none c.args.events.now)
