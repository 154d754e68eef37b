-- Errors, by their numbers. Assumes nothing: these are definitions.
use Rattle.std.specs.Prelude.{ℕ, ◌≡◌, Result, MatchResult}
use Rattle.codes.specs.Errors as numbers
use Rattle.codes.specs.declared.fault.Fault.{Fault}
use Rattle.codes.specs.declared.fault.Fault.TheVariants as the
use Rattle.codes.specs.declared.UnknownNumber.{UnknownNumber}

abbrev pub number_of : Fault → ℕ
number_of the.UnexpectedCharacter = numbers.unexpected_character
number_of the.SecondDigit = numbers.second_digit
number_of the.IntegerSuffix = numbers.integer_suffix
number_of the.NoFractionDigit = numbers.no_fraction_digit
number_of the.FloatSuffix = numbers.float_suffix
number_of the.NoExponent = numbers.no_exponent
number_of the.NoDigitAfterSign = numbers.no_digit_after_sign
number_of the.MinusWithoutDigit = numbers.minus_without_digit
number_of the.EndsInsideFloat = numbers.ends_inside_float
number_of the.BadSpread = numbers.bad_spread
number_of the.LoneQuote = numbers.lone_quote
number_of the.UnterminatedString = numbers.unterminated_string
number_of the.LineTerminator = numbers.line_terminator
number_of the.BadEscape = numbers.bad_escape
number_of the.NonHex = numbers.non_hex
number_of the.QuoteInsideEscape = numbers.quote_inside_escape
number_of the.UnpairedSurrogate = numbers.unpaired_surrogate
number_of the.BadBracedEscape = numbers.bad_braced_escape

-- what `From` gives
abbrev pub Gives : Fault → ℕ → Type 0
Gives x n = n ≡ number_of x

-- what `TryFrom` gives: the one with this number, if there is one
abbrev pub Names : ℕ → Result Fault UnknownNumber → Type 0
Names n r = MatchResult r (λ x. number_of x ≡ n) (λ e. (x : Fault) → number_of x ≡ n → ⊥)
