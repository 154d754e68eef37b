-- `lexer::scan::other` meets its contract. Assumes nothing.
use mathlib.Core.Path.{sym, ap}
use Rattle.base.specs.Lexed.{lexed_of}
use Rattle.lexer.proofs.Fronts.{other_item}
use Rattle.lexer.proofs.scan.other.Goals as goal

pub returns-in-None : goal.returns-in-None
unfolding lexed_of
returns-in-None c =
    rw (c.error.ensures, c.size_at.ensures) (sym (ap lexed_of (other_item c.args.rest.now c.requires.rest_nonzero c.requires.rest_value c.in-None.ensures)))
