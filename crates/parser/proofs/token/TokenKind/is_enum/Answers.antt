-- `TokenKind::is_enum` meets its contract. Assumes nothing.
use mathlib.Core.Path.{◌≡◌, refl, sym, ◌∙◌}
use denote.Enum.Bare.{sameb}
use Rattle.parser.specs.contracts.token.Word.{the_type}
use Rattle.syntax.specs.Token.{is_enum}
use Rattle.parser.specs.Kinds.{number_of}
use Rattle.parser.specs.declared.token.Word.{Word}
use Rattle.parser.specs.declared.token.Word.TheVariants as words
use Rattle.parser.specs.declared.token.TokenKind.TheVariants as token
use Rattle.parser.proofs.Codes.{or_none, no_word}
use Rattle.parser.proofs.token.TokenKind.is_enum.Goals as goal

-- of the words `on` alone
only_on : (w : Word) → sameb the_type w words.On ≡ is_enum (number_of (token.Word w))
unfolding is_enum
only_on words.True = refl
only_on words.False = refl
only_on words.Null = refl
only_on words.On = refl

pub returns-in-Word : goal.returns-in-Word
returns-in-Word c = c.eq.ensures ∙ rw c.in-Word.is (only_on c.in-Word.word)

pub returns-in_default : goal.returns-in_default
unfolding is_enum
returns-in_default c = c.is.ensures ∙ sym (rw ((no_word c.args.self c.in_default.not-Word).1) (or_none _))
