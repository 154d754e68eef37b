-- `alias` meets its contract. Assumes nothing.
use Rattle.parser.proofs.Writing.{wrote_then}
use Rattle.selections.proofs.field.alias.Goals as goal

pub returns : goal.returns
returns c = wrote_then (wrote_then c.open.ensures c.leaf.ensures) c.close_with.ensures
