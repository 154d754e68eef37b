-- `TokenKind::is_name` meets its contract. Assumes nothing.
use mathlib.Core.Path.{sym, ◌∙◌}
use Rattle.syntax.specs.Token.{is_name}
use Rattle.parser.proofs.Codes.{or_none, no_word, word_name}
use Rattle.parser.proofs.token.TokenKind.is_name.Goals as goal

pub returns-in-Word : goal.returns-in-Word
returns-in-Word c = rw c.in-Word.is (word_name c.in-Word.field-0)

pub returns-in_default : goal.returns-in_default
unfolding is_name
returns-in_default c = c.is.ensures ∙ sym (rw ((no_word c.args.self c.in_default.not-Word).0) (or_none _))
