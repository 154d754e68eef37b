-- `is_ignored` meets its contract. Assumes nothing.
use Rattle.syntax.specs.Words.{ignored}
use Rattle.parser.proofs.tokens.is_ignored.Goals as goal

pub returns : goal.returns
unfolding ignored
returns c = c.within.ensures
