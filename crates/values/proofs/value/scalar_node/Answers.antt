-- `scalar_node` meets its contract. Assumes nothing.
use mathlib.Core.Path.{◌≡◌, refl}
use Rattle.codes.specs.declared.fault.Fault.{Fault}
use Rattle.codes.specs.declared.fault.Fault.TheVariants as the
use Rattle.parser.specs.declared.token.TokenKind.TheVariants as token
use Rattle.parser.specs.Kinds.{number_of}
use Rattle.values.specs.Scalars.{scalar_node}
use Rattle.values.proofs.value.scalar_node.Goals as goal

no_error : (f : Fault) → scalar_node (number_of (token.Error f)) ≡ 0
unfolding scalar_node
no_error the.UnexpectedCharacter = refl
no_error the.SecondDigit = refl
no_error the.IntegerSuffix = refl
no_error the.NoFractionDigit = refl
no_error the.FloatSuffix = refl
no_error the.NoExponent = refl
no_error the.NoDigitAfterSign = refl
no_error the.MinusWithoutDigit = refl
no_error the.EndsInsideFloat = refl
no_error the.BadSpread = refl
no_error the.LoneQuote = refl
no_error the.UnterminatedString = refl
no_error the.LineTerminator = refl
no_error the.BadEscape = refl
no_error the.NonHex = refl
no_error the.QuoteInsideEscape = refl
no_error the.UnpairedSurrogate = refl
no_error the.BadBracedEscape = refl

pub returns-in-Error : goal.returns-in-Error
returns-in-Error c = rw c.in-Error.is (no_error c.in-Error.field-0)
