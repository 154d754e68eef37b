-- The kinds of tokens, by their numbers. Assumes nothing: these are definitions.
use Rattle.std.specs.Prelude.{ℕ}
use Rattle.codes.specs.ItemCodes as codes
use Rattle.codes.specs.KindNumbers as kinds
use Rattle.codes.specs.FaultNumbers as faults
use Rattle.syntax.specs.Token.{word_true, word_false, word_null, word_on}
use Rattle.parser.specs.declared.token.Word.TheVariants as words
use Rattle.parser.specs.declared.token.TokenKind.{TokenKind}
use Rattle.parser.specs.declared.token.TokenKind.TheVariants.{Kind, Word, Error}

-- an item code, or a word's number, which is past all of these
abbrev pub number_of : TokenKind → ℕ
number_of (Kind k) = kinds.number_of k
number_of (Word words.True) = word_true
number_of (Word words.False) = word_false
number_of (Word words.Null) = word_null
number_of (Word words.On) = word_on
number_of (Error f) = codes.error (faults.number_of f)
