-- `lexer::scan::whitespace` meets its contract. Assumes nothing.
use mathlib.Core.Path.{sym, ap}
use Rattle.base.specs.Lexed.{lexed_of}
use Rattle.lexer.proofs.Fronts.{blank_item}
use Rattle.lexer.proofs.scan.whitespace.Goals as goal

pub returns : goal.returns
unfolding lexed_of
returns c = rw (c.token.ensures, c.blank_run.ensures) (sym (ap lexed_of (blank_item c.args.rest.now c.requires)))
