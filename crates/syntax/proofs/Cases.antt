-- Readings of document 01 on the grammar that are easy to get wrong: antt computes each. Assumes nothing.
use mathlib.Core.Path.{◌≡◌, refl}
use mathlib.Core.List.{[], ◌∷◌}
use Rattle.base.specs.Item.{item}
use Rattle.base.specs.Run.{run as run_of}
use Rattle.base.specs.Span.{span}
use Rattle.utf8.specs.Sequence.{width, size}
use Rattle.tiles.specs.Tiles.{tiles}
use Rattle.rules.specs.Classes.{digit, nonzero, letter, name_start, name_continue, line_end, exponent_mark, sign, after_number}
use Rattle.rules.specs.Tokens.{blank_by, blank, whole_size, integer_size, fraction_size, signed_size, exponent_size, number_by, number_token, punctuator_at, spread_at, string_token, token_at}
use Rattle.rules.specs.Items.{fraction_fault, exponent_fault, number_fault, dot_fault, error_at, item_at}
use Rattle.syntax.specs.Token.{is_name, is_enum, is_fragment_name}
use Rattle.syntax.specs.Words.{same, word_of, token_of, ignored, significant, tokens}
use Rattle.syntax.specs.Machine.{at_value, at_items, at_fields, at_name, at_colon, at_named_type, or_selection_set, or_selection, at_selections, or_arguments, or_argument, at_arguments, or_directive, at_spread, step, refused, accepted, run, read_value, read_constant, read_selection_set}
use Rattle.syntax.specs.TypeReading.{with_bang, with_bracket, type_at, whole_type, read_type}

readings :
    -- Value `[]`, depth 0
    (read_value 0 (tokens (91 ∷ 93 ∷ [])) ≡ accepted (item 8 0 0 ∷ item 141 0 1 ∷ item 142 1 1 ∷ item 72 0 2 ∷ []))
    -- Value `[1]`, depth 0
    × (read_value 0 (tokens (91 ∷ 49 ∷ 93 ∷ [])) ≡ refused 7 1)
    -- Value `{a}`, depth 5
    × (read_value 5 (tokens (123 ∷ 97 ∷ 125 ∷ [])) ≡ refused 9 2)
    -- Constant `$a`, depth 5
    × (read_constant 5 (tokens (36 ∷ 97 ∷ [])) ≡ refused 8 0)
    -- Constant `{$a:1}`, depth 5
    × (read_constant 5 (tokens (123 ∷ 36 ∷ 97 ∷ 58 ∷ 49 ∷ 125 ∷ [])) ≡ refused 9 1)
    -- Constant `{a:1 $b}`, depth 5
    × (read_constant 5 (tokens (123 ∷ 97 ∷ 58 ∷ 49 ∷ 32 ∷ 36 ∷ 98 ∷ 125 ∷ [])) ≡ refused 9 5)
    -- Constant `1 $a`, depth 5
    × (read_constant 5 (tokens (49 ∷ 32 ∷ 36 ∷ 97 ∷ [])) ≡ refused 9 2)
    -- Constant `$1`, depth 5
    × (read_constant 5 (tokens (36 ∷ 49 ∷ [])) ≡ refused 8 0)
    -- Value `{a:`, depth 0
    × (read_value 0 (tokens (123 ∷ 97 ∷ 58 ∷ [])) ≡ refused 7 3)
    -- Value `[`, depth 0
    × (read_value 0 (tokens (91 ∷ [])) ≡ refused 9 1)
    -- Value `[!`, depth 0
    × (read_value 0 (tokens (91 ∷ 33 ∷ [])) ≡ refused 7 1)
    -- Constant `[$a]`, depth 0
    × (read_constant 0 (tokens (91 ∷ 36 ∷ 97 ∷ 93 ∷ [])) ≡ refused 7 1)
    -- Value `{a`, depth 5
    × (read_value 5 (tokens (123 ∷ 97 ∷ [])) ≡ refused 9 2)
    -- SelectionSet `{`, depth 0
    × (read_selection_set 0 (tokens (123 ∷ [])) ≡ refused 7 1)
    -- SelectionSet `{}`, depth 0
    × (read_selection_set 0 (tokens (123 ∷ 125 ∷ [])) ≡ refused 7 1)
    -- SelectionSet `{...}`, depth 5
    × (read_selection_set 5 (tokens (123 ∷ 46 ∷ 46 ∷ 46 ∷ 125 ∷ [])) ≡ refused 9 4)
    -- SelectionSet `{}`, depth 1
    × (read_selection_set 1 (tokens (123 ∷ 125 ∷ [])) ≡ refused 9 1)
    -- SelectionSet `{a(b:[1])}`, depth 1
    × (read_selection_set 1 (tokens (123 ∷ 97 ∷ 40 ∷ 98 ∷ 58 ∷ 91 ∷ 49 ∷ 93 ∷ 41 ∷ 125 ∷ [])) ≡ refused 7 6)
    -- Type `[`, depth 0
    × (read_type 0 (tokens (91 ∷ [])) ≡ refused 7 1)
    -- Type `[`, depth 1
    × (read_type 1 (tokens (91 ∷ [])) ≡ refused 9 1)
    -- Type ``, depth 1
    × (read_type 1 (tokens ([])) ≡ refused 9 0)
    -- Type `a!!`, depth 1
    × (read_type 1 (tokens (97 ∷ 33 ∷ 33 ∷ [])) ≡ refused 9 2)
    -- Value `[1]`, depth 1
    × (read_value 1 (tokens (91 ∷ 49 ∷ 93 ∷ [])) ≡ accepted (item 8 0 0 ∷ item 141 0 1 ∷ item 2 1 0 ∷ item 148 1 1 ∷ item 66 1 1 ∷ item 142 2 1 ∷ item 72 0 3 ∷ []))
unfolding tiles item_at error_at token_at number_by number_token number_fault fraction_fault exponent_fault dot_fault punctuator_at spread_at string_token run_of span
    blank_by blank whole_size integer_size fraction_size signed_size exponent_size size width digit nonzero letter name_start name_continue line_end
    exponent_mark sign after_number is_name is_enum is_fragment_name same word_of token_of ignored significant at_value at_items at_fields at_name at_colon at_named_type
    or_selection_set or_selection at_selections or_arguments or_argument at_arguments or_directive at_spread step run with_bang with_bracket type_at whole_type
readings = (refl, refl, refl, refl, refl, refl, refl, refl, refl, refl, refl, refl, refl, refl, refl, refl, refl, refl, refl, refl, refl, refl, refl)
