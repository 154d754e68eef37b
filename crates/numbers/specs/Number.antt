-- The machine of numbers that the code runs: proved to give the items of document 01, the machine need not be
-- believed. Assumes nothing: these are definitions.
use Rattle.std.specs.Prelude.{ℕ, suc, ◌+◌, List, [], ◌∷◌, eqb}
use Rattle.base.specs.Text.{pick}
use Rattle.base.specs.Item.{Lexeme, lexeme}
use Rattle.codes.specs.Errors as errors
use Rattle.codes.specs.ItemCodes as codes
use Rattle.codes.specs.FaultNumbers.{number_of}
use Rattle.codes.specs.declared.fault.Fault.TheVariants as fault
use Rattle.utf8.specs.Sequence as utf8
use Rattle.rules.specs.Classes.{digit, name_start, exponent_mark}
use Rattle.numbers.specs.declared.NumberState.{NumberState}
use Rattle.numbers.specs.declared.NumberState.TheVariants.{MinusSign, LeadingZero, IntegerPart, DecimalPoint, FractionalPart, ExponentIndicator, ExponentSign, ExponentDigit}
use Rattle.numbers.specs.declared.NumberStep.{NumberStep}
use Rattle.numbers.specs.declared.NumberStep.TheVariants.{Go, Done, Error}

-- the code of the item that a number is which ends in a state, with the text or before a byte: 8 after `-`, 9 where a float lacks a digit
abbrev pub end_of : NumberState → ℕ
end_of MinusSign = codes.error errors.minus_without_digit
end_of LeadingZero = codes.int
end_of IntegerPart = codes.int
end_of DecimalPoint = codes.error errors.ends_inside_float
end_of FractionalPart = codes.float
end_of ExponentIndicator = codes.error errors.ends_inside_float
end_of ExponentSign = codes.error errors.ends_inside_float
end_of ExponentDigit = codes.float

-- after the integer part, of which the byte does not continue the digits
unfoldable pub after_integer : ℕ → NumberStep
after_integer b =
    pick (eqb b 46) (Go DecimalPoint)
    (pick (exponent_mark b) (Go ExponentIndicator)
    (pick (name_start b) (Error fault.IntegerSuffix) Done))

-- after a fraction or an exponent, of which the byte does not continue the digits
unfoldable pub after_float : ℕ → NumberStep
after_float b = pick (eqb b 46) (Error fault.FloatSuffix) (pick (name_start b) (Error fault.FloatSuffix) Done)

-- what a digit does
unfoldable pub digit_step : NumberState → ℕ → NumberStep
digit_step MinusSign b = pick (eqb b 48) (Go LeadingZero) (Go IntegerPart)
digit_step LeadingZero b = Error fault.SecondDigit
digit_step IntegerPart b = Go IntegerPart
digit_step DecimalPoint b = Go FractionalPart
digit_step FractionalPart b = Go FractionalPart
digit_step ExponentIndicator b = Go ExponentDigit
digit_step ExponentSign b = Go ExponentDigit
digit_step ExponentDigit b = Go ExponentDigit

-- what any other byte does
unfoldable pub other_step : NumberState → ℕ → NumberStep
other_step MinusSign b = Error fault.MinusWithoutDigit
other_step LeadingZero b = after_integer b
other_step IntegerPart b = after_integer b
other_step DecimalPoint b = Error fault.NoFractionDigit
other_step FractionalPart b = pick (exponent_mark b) (Go ExponentIndicator) (after_float b)
other_step ExponentIndicator b = pick (eqb b 43) (Go ExponentSign) (pick (eqb b 45) (Go ExponentSign) (Error fault.NoExponent))
other_step ExponentSign b = Error fault.NoDigitAfterSign
other_step ExponentDigit b = after_float b

unfoldable pub step_of : NumberState → ℕ → NumberStep
step_of s b = pick (digit b) (digit_step s b) (other_step s b)

-- what a step makes of a number of which n bytes led to the state s, where r follows them; k reads on
abbrev pub scan_by : NumberStep → NumberState → (n : ℕ) → List ℕ → (NumberState → Lexeme) → Lexeme
scan_by (Go next) s n r k = k next
scan_by Done s n r k = lexeme (end_of s) n
scan_by (Error f) s n r k = lexeme (codes.error (number_of f)) (n + utf8.size r)

-- the item of a number of which n bytes led to the state s, and what follows them
unfoldable pub scan_from : NumberState → (n : ℕ) → List ℕ → Lexeme
scan_from s n [] = lexeme (end_of s) n
scan_from s n (b ∷ t) = scan_by (step_of s b) s n (b ∷ t) (λ next. scan_from next (suc n) t)
