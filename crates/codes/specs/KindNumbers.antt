-- Kinds of items that are no errors, by their item codes. Assumes nothing: these are definitions.
use Rattle.std.specs.Prelude.{ℕ, ◌≡◌, Result, MatchResult}
use Rattle.codes.specs.ItemCodes as numbers
use Rattle.codes.specs.declared.kind.Kind.{Kind}
use Rattle.codes.specs.declared.kind.Kind.TheVariants as the
use Rattle.codes.specs.declared.UnknownNumber.{UnknownNumber}

abbrev pub number_of : Kind → ℕ
number_of the.Eof = numbers.eof
number_of the.Whitespace = numbers.whitespace
number_of the.Comment = numbers.comment
number_of the.Comma = numbers.comma
number_of the.Bang = numbers.bang
number_of the.Dollar = numbers.dollar
number_of the.Amp = numbers.amp
number_of the.LParen = numbers.paren_l
number_of the.RParen = numbers.paren_r
number_of the.Spread = numbers.dots
number_of the.Colon = numbers.colon
number_of the.Eq = numbers.equals
number_of the.At = numbers.at
number_of the.LBracket = numbers.bracket_l
number_of the.RBracket = numbers.bracket_r
number_of the.LCurly = numbers.brace_l
number_of the.Pipe = numbers.pipe
number_of the.RCurly = numbers.brace_r
number_of the.Name = numbers.name
number_of the.StringValue = numbers.string
number_of the.Int = numbers.int
number_of the.Float = numbers.float

-- what `From` gives
abbrev pub Gives : Kind → ℕ → Type 0
Gives x n = n ≡ number_of x

-- what `TryFrom` gives: the one with this number, if there is one
abbrev pub Names : ℕ → Result Kind UnknownNumber → Type 0
Names n r = MatchResult r (λ x. number_of x ≡ n) (λ e. (x : Kind) → number_of x ≡ n → ⊥)
