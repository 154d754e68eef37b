-- `is_fragment_name` meets its contract. Assumes nothing.
use mathlib.Core.Path.{◌≡◌, refl, sym, ◌∙◌}
use mathlib.Core.Bool.{false}
use native.Mathlib.Omega.{arith}
use borrow.Author.Tests.{le-leb, lt-leb}
use Rattle.base.specs.Text.{from}
use Rattle.parser.specs.declared.token.TokenKind.{TokenKind}
use Rattle.syntax.specs.Token.{is_fragment_name}
use Rattle.parser.specs.Kinds.{number_of}
use Rattle.parser.specs.declared.token.Word.{Word}
use Rattle.parser.specs.declared.token.TokenKind.TheVariants as token
use Rattle.parser.proofs.Codes.{or_none, kind_small, error_large}
use Rattle.selections.proofs.fragment.is_fragment_name.Goals as goal

-- what is no word has no word's number
no_fragment : (k : TokenKind) → ((w : Word) → k ≡ token.Word w → ⊥) → from 22 24 (number_of k) ≡ false
no_fragment (token.Kind k) f = let s = kind_small k in rw (lt-leb 22 (number_of (token.Kind k)) (omega arith))
no_fragment (token.Word w) f = absurd (f w refl)
no_fragment (token.Error e) f = let s = error_large e in rw (le-leb 22 (number_of (token.Error e)) (omega arith), lt-leb (number_of (token.Error e)) 24 (omega arith))

pub returns-in-Word : goal.returns-in-Word
returns-in-Word c = c.is_fragment_word.ensures ∙ rw c.in-Word.is refl

pub returns-in_default : goal.returns-in_default
unfolding is_fragment_name
returns-in_default c = c.is.ensures ∙ sym (rw (no_fragment c.args.kind c.in_default.not-Word) (or_none _))
