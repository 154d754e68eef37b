-- The machine of strings that the code runs: proved to give the items of document 01, it need not be believed. Assumes nothing: these are
-- definitions.
use Rattle.std.specs.Prelude.{ℕ, ◌+◌, ◌-◌, min, Bool, true, false, not, ◌&&◌, List, [], ◌∷◌, Option, None, Some, unwrap_or, eqb, ltb}
use Rattle.std.specs.Option.{option_or}
use Rattle.base.specs.Text.{pick}
use Rattle.base.specs.Run.{run}
use Rattle.base.specs.Item.{Lexeme, lexeme}
use Rattle.codes.specs.Errors as errors
use Rattle.codes.specs.ItemCodes as codes
use Rattle.codes.specs.FaultNumbers.{number_of}
use Rattle.codes.specs.declared.fault.Fault.{Fault}
use Rattle.codes.specs.declared.fault.Fault.TheVariants as fault
use Rattle.utf8.specs.Encode.{scalar}
use Rattle.rules.specs.Classes.{line_end, escaped_character, plain_character, hex_digit, with_digit, lead_surrogate, trail_surrogate}
use Rattle.rules.specs.Faults.{block_scan}
use Rattle.strings.specs.declared.StringState.{StringState}
use Rattle.strings.specs.declared.StringState.TheVariants.{StringLiteralStart, StringLiteral, StringLiteralBackslash, StringLiteralEscapedUnicode, StringLiteralEscapedUnicodeVariable, StringLiteralLeadSurrogate, StringLiteralLeadSurrogateBackslash}
use Rattle.strings.specs.declared.StringStep.{StringStep}
use Rattle.strings.specs.declared.StringStep.TheVariants.{Go, Close}

-- the code of the item that the text's end leaves of a quoted string: 11 for a lone quote, 12 for any other
abbrev pub end_of : StringState → ℕ
end_of StringLiteralStart = codes.error errors.lone_quote
end_of _ = codes.error errors.unterminated_string

-- the number with one hex digit more, which stays at 110000 once there
unfoldable pub capped : ℕ → ℕ → ℕ
capped v b = min (with_digit v b) 0x110000

-- where a character, an escape or the closing quote may stand
unfoldable pub in_text : ℕ → StringStep
in_text b =
    pick (eqb b 34) (Close None)
    (pick (eqb b 92) (Go StringLiteralBackslash None)
    (pick (line_end b) (Go StringLiteral (Some fault.LineTerminator)) (Go StringLiteral None)))

-- straight after the opening quote
unfoldable pub start_step : ℕ → StringStep
start_step b = pick (line_end b) (Go StringLiteral None) (in_text b)

-- after a backslash
unfoldable pub backslash_step : ℕ → StringStep
backslash_step b =
    pick (escaped_character b) (Go StringLiteral None)
    (pick (eqb b 117) (Go (StringLiteralEscapedUnicode 4 0 false) None) (Go StringLiteral (Some fault.BadEscape)))

-- a hex digit is due and another character stands there
unfoldable pub no_digit : ℕ → StringStep
no_digit b = pick (eqb b 34) (Close (Some fault.QuoteInsideEscape)) (Go StringLiteral (Some fault.NonHex))

-- a four-digit escape is whole
unfoldable pub whole_unicode : ℕ → Bool → StringStep
whole_unicode v true = pick (trail_surrogate v) (Go StringLiteral None) (Go StringLiteral (Some fault.UnpairedSurrogate))
whole_unicode v false =
    pick (lead_surrogate v) (Go StringLiteralLeadSurrogate None)
    (pick (trail_surrogate v) (Go StringLiteral (Some fault.UnpairedSurrogate)) (Go StringLiteral None))

-- in a four-digit escape
unfoldable pub unicode_step : ℕ → ℕ → Bool → ℕ → StringStep
unicode_step r v p b =
    pick (hex_digit b)
    (pick (ltb 1 r) (Go (StringLiteralEscapedUnicode (r - 1) (capped v b) p) None) (whole_unicode (capped v b) p))
    (pick (eqb b 123 && (eqb r 4 && not p)) (Go (StringLiteralEscapedUnicodeVariable None) None) (no_digit b))

-- a braced escape is whole
abbrev pub whole_variable : Option ℕ → StringStep
whole_variable None = Go StringLiteral (Some fault.BadBracedEscape)
whole_variable (Some v) = pick (scalar v) (Go StringLiteral None) (Go StringLiteral (Some fault.BadBracedEscape))

-- in a braced escape
unfoldable pub variable_step : Option ℕ → ℕ → StringStep
variable_step v b =
    pick (hex_digit b) (Go (StringLiteralEscapedUnicodeVariable (Some (capped (unwrap_or v 0) b))) None)
    (pick (eqb b 125) (whole_variable v) (no_digit b))

-- after a lead surrogate
unfoldable pub lead_step : ℕ → StringStep
lead_step b =
    pick (eqb b 92) (Go StringLiteralLeadSurrogateBackslash None)
    (pick (eqb b 34) (Close (Some fault.UnpairedSurrogate)) (Go StringLiteral (Some fault.UnpairedSurrogate)))

-- after a lead surrogate and a backslash
unfoldable pub lead_backslash_step : ℕ → StringStep
lead_backslash_step b = pick (eqb b 117) (Go (StringLiteralEscapedUnicode 4 0 true) None) (Go StringLiteral (Some fault.UnpairedSurrogate))

unfoldable pub string_step : StringState → ℕ → StringStep
string_step StringLiteralStart b = start_step b
string_step StringLiteral b = in_text b
string_step StringLiteralBackslash b = backslash_step b
string_step (StringLiteralEscapedUnicode r v p) b = unicode_step r v p b
string_step (StringLiteralEscapedUnicodeVariable v) b = variable_step v b
string_step StringLiteralLeadSurrogate b = lead_step b
string_step StringLiteralLeadSurrogateBackslash b = lead_backslash_step b

-- the later fault counts
unfoldable pub later_of : Option Fault → Option Fault → Option Fault
later_of err fault = option_or fault err

-- the code of a string that closes, by its last fault
unfoldable pub done_code : Option Fault → ℕ
done_code None = codes.string
done_code (Some f) = codes.error (number_of f)

-- what began n bytes earlier
abbrev pub further : ℕ → Lexeme → Lexeme
further n x = lexeme x.code (n + x.size)

-- where a quoted string begins
abbrev pub begun : StringState
begun = StringLiteralStart

-- what a step makes of a string, with its last fault so far; k reads on
abbrev pub quoted_by : StringStep → Option Fault → (StringState → Option Fault → Lexeme) → Lexeme
quoted_by (Go next fault) err k = further 1 (k next (later_of err fault))
quoted_by (Close fault) err k = lexeme (done_code (later_of err fault)) 1

-- a quoted string, read on from a state, with its last fault so far
unfoldable pub quoted_from : StringState → Option Fault → List ℕ → Lexeme
quoted_from s err [] = lexeme (end_of s) 0
quoted_from s err (b ∷ t) = quoted_by (string_step s b) err (λ next fault. quoted_from next fault t)

-- how many bytes at the front leave a string in the state as it is, by being plain
unfoldable pub plain_run : StringState → List ℕ → ℕ
plain_run StringLiteral t = run plain_character t
plain_run _ t = 0

-- a block string: it has no faults, but may be cut off
unfoldable pub block_of : List ℕ → Lexeme
block_of t = lexeme (pick (block_scan t).closed codes.string (codes.error errors.unterminated_string)) (block_scan t).size
