-- Document 01, "Cases to prove, in a single list", then what it says of `{a}` on the tape and of `a` with a limit: antt computes each.
-- Assumes nothing.
use Prim.Native.Nat.{ℕ, ◌+◌}
use mathlib.Core.Path.{◌≡◌, refl}
use mathlib.Core.List.{List, [], ◌∷◌, ◌++◌}
use lib.ListN.{replicate}
use Rattle.base.specs.Item.{item}
use Rattle.base.specs.Run.{run}
use Rattle.base.specs.Span.{span}
use Rattle.utf8.specs.Sequence.{sequence_by, sequence, well_formed, width, size}
use Rattle.utf8.specs.Encode.{scalar}
use Rattle.utf8.specs.Answers.{checked_of}
use Rattle.tape.specs.Entry.{bytes8, entries}
use Rattle.tiles.specs.Tiles.{tiles, eof}
use Rattle.rules.specs.Classes.{digit, nonzero, letter, name_start, name_continue, line_end, exponent_mark, sign, after_number, escaped_character, hex_digit, hex_value, lead_surrogate, trail_surrogate}
use Rattle.rules.specs.Faults.{in_text, no_digit, whole, whole_trail, whole_braced, after, scan, quotes, escaped, block, string_scan}
use Rattle.rules.specs.StringAt.{code_of, string_at}
use Rattle.rules.specs.Tokens.{blank_by, blank, whole_size, integer_size, fraction_size, signed_size, exponent_size, number_by, number_token, punctuator_at, spread_at, string_token, token_at}
use Rattle.rules.specs.Items.{fraction_fault, exponent_fault, number_fault, dot_fault, error_at, item_at, items}
use Rattle.reader.specs.Answers.{answer, given_answer, given_tape, answer_of, tape_of}
use Rattle.syntax.specs.Token.{is_name, is_enum}
use Rattle.syntax.specs.Words.{same, word_of, token_of, ignored, significant}
use Rattle.syntax.specs.Machine.{at_value, at_items, at_fields, at_name, at_colon, step, run as machine_run}
use Rattle.grammar.specs.declared.Entry.TheVariants.{Value, Constant}
use Rattle.grammar.specs.Answers.{read_of, is_error, first_error, read_answer, items_answer, grammar_answer, counted_events, grammar_events}

-- a tape with room for five entries
abbrev lent : List ℕ
lent = replicate 40 0xA5

pub cases :
    -- empty: Eof at 0
    (items [] ≡ eof 0 ∷ [])
    -- `.{`: error 10 at 0, length 2; Eof at 2
    × (items (46 ∷ 123 ∷ []) ≡ item (64 + 10) 0 2 ∷ eof 2 ∷ [])
    -- `00`: error 2, length 2
    × (items (48 ∷ 48 ∷ []) ≡ item (64 + 2) 0 2 ∷ eof 2 ∷ [])
    -- `1.a`: error 4, length 3
    × (items (49 ∷ 46 ∷ 97 ∷ []) ≡ item (64 + 4) 0 3 ∷ eof 3 ∷ [])
    -- `""""""`: StringValue, length 6
    × (items (34 ∷ 34 ∷ 34 ∷ 34 ∷ 34 ∷ 34 ∷ []) ≡ item 19 0 6 ∷ eof 6 ∷ [])
    -- `""""`: error 12, length 4
    × (items (34 ∷ 34 ∷ 34 ∷ 34 ∷ []) ≡ item (64 + 12) 0 4 ∷ eof 4 ∷ [])
    -- `"\u{}"`: error 18, length 6
    × (items (34 ∷ 92 ∷ 117 ∷ 123 ∷ 125 ∷ 34 ∷ []) ≡ item (64 + 18) 0 6 ∷ eof 6 ∷ [])
    -- `"\uD83D"`: error 17, length 8
    × (items (34 ∷ 92 ∷ 117 ∷ 68 ∷ 56 ∷ 51 ∷ 68 ∷ 34 ∷ []) ≡ item (64 + 17) 0 8 ∷ eof 8 ∷ [])
    -- `"\u\"`: error 15, length 5
    × (items (34 ∷ 92 ∷ 117 ∷ 92 ∷ 34 ∷ []) ≡ item (64 + 15) 0 5 ∷ eof 5 ∷ [])
    -- value `[]`, depth 0: done
    × (grammar_answer Value (91 ∷ 93 ∷ []) 5 0 lent lent ≡ answer 0 2 3 4)
    -- value `[1]`, depth 0: 7 at 1
    × (grammar_answer Value (91 ∷ 49 ∷ 93 ∷ []) 5 0 lent lent ≡ answer 7 1 4 0)
    -- value `{a}`: 9 at 2
    × (grammar_answer Value (123 ∷ 97 ∷ 125 ∷ []) 5 5 lent lent ≡ answer 9 2 4 0)
    -- constant `$a`: 8 at 0
    × (grammar_answer Constant (36 ∷ 97 ∷ []) 5 5 lent lent ≡ answer 8 0 3 0)
    -- `{a}` gives exactly 0F00000000000001 1200000010000001 1100000020000001 0000000030000000; what stood past them stays
    × (tape_of (123 ∷ 97 ∷ 125 ∷ []) 4 lent
    ≡ (0x0F ∷ 0x00 ∷ 0x00 ∷ 0x00 ∷ 0x00 ∷ 0x00 ∷ 0x00 ∷ 0x01 ∷ [])
    ++ (0x12 ∷ 0x00 ∷ 0x00 ∷ 0x00 ∷ 0x10 ∷ 0x00 ∷ 0x00 ∷ 0x01 ∷ [])
    ++ (0x11 ∷ 0x00 ∷ 0x00 ∷ 0x00 ∷ 0x20 ∷ 0x00 ∷ 0x00 ∷ 0x01 ∷ [])
    ++ (0x00 ∷ 0x00 ∷ 0x00 ∷ 0x00 ∷ 0x30 ∷ 0x00 ∷ 0x00 ∷ 0x00 ∷ [])
    ++ (0xA5 ∷ 0xA5 ∷ 0xA5 ∷ 0xA5 ∷ 0xA5 ∷ 0xA5 ∷ 0xA5 ∷ 0xA5 ∷ []))
    -- value `[1]` gives events 0800000000000000 8D00000000000001 0200000010000000 9400000010000001 4200000010000001 8E00000020000001
    -- 4800000000000003; what stood past them stays
    × (grammar_events Value (91 ∷ 49 ∷ 93 ∷ []) 5 1 lent (replicate 64 0xA5)
    ≡ (0x08 ∷ 0x00 ∷ 0x00 ∷ 0x00 ∷ 0x00 ∷ 0x00 ∷ 0x00 ∷ 0x00 ∷ [])
    ++ (0x8D ∷ 0x00 ∷ 0x00 ∷ 0x00 ∷ 0x00 ∷ 0x00 ∷ 0x00 ∷ 0x01 ∷ [])
    ++ (0x02 ∷ 0x00 ∷ 0x00 ∷ 0x00 ∷ 0x10 ∷ 0x00 ∷ 0x00 ∷ 0x00 ∷ [])
    ++ (0x94 ∷ 0x00 ∷ 0x00 ∷ 0x00 ∷ 0x10 ∷ 0x00 ∷ 0x00 ∷ 0x01 ∷ [])
    ++ (0x42 ∷ 0x00 ∷ 0x00 ∷ 0x00 ∷ 0x10 ∷ 0x00 ∷ 0x00 ∷ 0x01 ∷ [])
    ++ (0x8E ∷ 0x00 ∷ 0x00 ∷ 0x00 ∷ 0x20 ∷ 0x00 ∷ 0x00 ∷ 0x01 ∷ [])
    ++ (0x48 ∷ 0x00 ∷ 0x00 ∷ 0x00 ∷ 0x00 ∷ 0x00 ∷ 0x00 ∷ 0x03 ∷ [])
    ++ (0xA5 ∷ 0xA5 ∷ 0xA5 ∷ 0xA5 ∷ 0xA5 ∷ 0xA5 ∷ 0xA5 ∷ 0xA5 ∷ []))
    -- `{a}`'s items are done, at its end: four
    × (answer_of (123 ∷ 97 ∷ 125 ∷ []) 4 lent ≡ answer 0 3 4 0)
    -- `a` with limit 1: 4, place 1
    × (answer_of (97 ∷ []) 1 lent ≡ answer 4 1 1 0)
    -- `a` with limit 2: done
    × (answer_of (97 ∷ []) 2 lent ≡ answer 0 1 2 0)
unfolding tiles item_at error_at token_at number_by number_token number_fault fraction_fault exponent_fault dot_fault punctuator_at spread_at string_token
    string_at code_of string_scan quotes escaped block scan after in_text no_digit whole whole_trail whole_braced run span blank_by blank whole_size
    integer_size fraction_size signed_size exponent_size size width scalar digit nonzero letter name_start name_continue line_end exponent_mark sign
    after_number escaped_character hex_digit hex_value lead_surrogate trail_surrogate bytes8 entries sequence_by sequence well_formed checked_of
    given_answer given_tape answer_of tape_of same word_of token_of ignored significant is_name is_enum at_value at_items at_fields at_name at_colon step machine_run
    read_of is_error first_error read_answer items_answer grammar_answer counted_events grammar_events
cases = (refl, refl, refl, refl, refl, refl, refl, refl, refl, refl, refl, refl, refl, refl, refl, refl, refl, refl)
