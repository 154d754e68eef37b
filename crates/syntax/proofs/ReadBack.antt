-- Print and read back: a tree's tokens, spelt and written with a space between, are read to the tree's events. Assumes nothing.
use Prim.Native.Nat.{ℕ, ◌+◌, ◌≤◌}
use native.Mathlib.Omega.{arith}
use mathlib.Core.Path.{◌≡◌, refl}
use mathlib.Core.Bool.{true, false}
use mathlib.Core.List.{List, [], ◌∷◌}
use lib.ListN.{length}
use Rattle.base.specs.Item.{Item}
use Rattle.base.specs.Run.{run as run_of}
use Rattle.base.specs.Span.{span}
use Rattle.tiles.specs.Tiles.{tiles}
use Rattle.rules.specs.Classes.{digit, nonzero, letter, name_start, name_continue, line_end, exponent_mark, sign, after_number}
use Rattle.rules.specs.Tokens.{blank_by, blank, whole_size, integer_size, fraction_size, signed_size, exponent_size, number_by, number_token, punctuator_at, spread_at, string_token, token_at}
use Rattle.rules.specs.Faults.{after, block, escaped, in_text, quotes, scan, string_scan}
use Rattle.rules.specs.StringAt.{code_of, string_at}
use Rattle.rules.specs.Items.{item_at}
use Rattle.syntax.specs.Token.{eof, bang, dollar, paren_l, paren_r, dots, colon, at, bracket_l, bracket_r, brace_l, brace_r, plain, string, int, float, word_true, word_false, word_null, word_on, Token, token}
use Rattle.syntax.specs.Words.{same, word_of, token_of, ignored, significant, tokens}
use Rattle.syntax.specs.Grammar.{Value, int_value, list_value, no_value, a_value, value_tokens, value_events, value_depth}
use Rattle.syntax.specs.Types.{Ty, ty_tokens, ty_events, ty_depth}
use Rattle.syntax.specs.Selections.{SelectionSet, set_tokens, set_events, set_depth}
use Rattle.syntax.specs.Machine.{Read, accepted, read_value, read_constant, read_selection_set}
use Rattle.syntax.specs.TypeReading.{read_type}
use Rattle.syntax.specs.Written.{Spelling, spelling, AllSpell, SpellEach, codes, written, standing}
use Rattle.syntax.proofs.ValueComplete.{value_complete, constant_complete}
use Rattle.syntax.proofs.TypeComplete.{type_complete}
use Rattle.syntax.proofs.SetComplete.{set_complete}
use Rattle.syntax.proofs.Written.{written_tokens}
use Rattle.syntax.proofs.Twins.{Like, Twin, value_twin, ty_twin}
use Rattle.syntax.proofs.TwinSets.{set_twin}

-- a value
pub value_back : (d : ℕ) (x : Value false) (ws : List Spelling) → AllSpell ws → value_tokens x ≡ standing 0 ws → value_depth x ≤ d
    → read_value d (tokens (written ws)) ≡ accepted (value_events x)
value_back d x ws h e l = rw (written_tokens ws h, ← e) (value_complete d x (token eof (length (written ws)) 0) [] l refl)

-- a constant
pub constant_back : (d : ℕ) (x : Value true) (ws : List Spelling) → AllSpell ws → value_tokens x ≡ standing 0 ws → value_depth x ≤ d
    → read_constant d (tokens (written ws)) ≡ accepted (value_events x)
constant_back d x ws h e l = rw (written_tokens ws h, ← e) (constant_complete d x (token eof (length (written ws)) 0) [] l refl)

-- a type
pub type_back : (d : ℕ) (x : Ty) (ws : List Spelling) → AllSpell ws → ty_tokens x ≡ standing 0 ws → ty_depth x ≤ d
    → read_type d (tokens (written ws)) ≡ accepted (ty_events x)
type_back d x ws h e l = rw (written_tokens ws h, ← e) (type_complete d x (token eof (length (written ws)) 0) [] l refl)

-- a selection set
pub set_back : (d : ℕ) (x : SelectionSet) (ws : List Spelling) → AllSpell ws → set_tokens x ≡ standing 0 ws → set_depth x ≤ d
    → read_selection_set d (tokens (written ws)) ≡ accepted (set_events x)
set_back d x ws h e l = rw (written_tokens ws h, ← e) (set_complete d x (token eof (length (written ws)) 0) [] l refl)

-- ---- any tree, wherever its tokens stand

-- the text of the spellings ws of the tree x is read to the events of x where its tokens now stand: of a tree that has the text's tokens, as
-- no other tree has, and the events of x but for their places
pub record Back {A : Type 0} (tokens_of : A → List Token) (events_of : A → List Item) (reading : List Token → Read) (x : A) (ws : List Spelling) : Type 0 where
  pub there : A
  pub placed : tokens_of there ≡ standing 0 ws
  pub alike : codes (events_of there) ≡ codes (events_of x)
  pub reads : reading (tokens (written ws)) ≡ accepted (events_of there)

all_spell : (ws : List Spelling) (ts : List Token) → SpellEach ws ts → AllSpell ws
all_spell [] ts h = tt
all_spell (w ∷ ws) [] h = absurd h
all_spell (w ∷ ws) (t ∷ ts) h = (h.0, all_spell ws ts h.2)

like : (at : ℕ) (ws : List Spelling) (ts : List Token) → SpellEach ws ts → Like (standing at ws) ts
like at [] [] h = tt
like at [] (t ∷ ts) h = absurd h
like at (w ∷ ws) [] h = absurd h
like at (w ∷ ws) (t ∷ ts) h = (h.1, like (at + length w.bytes + 1) ws ts h.2)

by_twin : {A : Type 0} {tokens_of : A → List Token} {events_of : A → List Item} {depth_of : A → ℕ} {reading : List Token → Read} {x : A} {ws : List Spelling}
    (t : Twin tokens_of events_of depth_of x (standing 0 ws)) → reading (tokens (written ws)) ≡ accepted (events_of t.to) → Back tokens_of events_of reading x ws
by_twin t e = record { there = t.to; placed = t.tokens; alike = t.events.same; reads = e }

-- a value
pub any_value_back : (d : ℕ) (x : Value false) (ws : List Spelling) → SpellEach ws (value_tokens x) → value_depth x ≤ d → Back value_tokens value_events (read_value d) x ws
any_value_back d x ws h l =
    let t = value_twin x (standing 0 ws) (like 0 ws (value_tokens x) h) in
    by_twin t (value_back d t.to ws (all_spell ws (value_tokens x) h) t.tokens (omega (arith, t.depth)))

-- a constant
pub any_constant_back : (d : ℕ) (x : Value true) (ws : List Spelling) → SpellEach ws (value_tokens x) → value_depth x ≤ d → Back value_tokens value_events (read_constant d) x ws
any_constant_back d x ws h l =
    let t = value_twin x (standing 0 ws) (like 0 ws (value_tokens x) h) in
    by_twin t (constant_back d t.to ws (all_spell ws (value_tokens x) h) t.tokens (omega (arith, t.depth)))

-- a type
pub any_type_back : (d : ℕ) (x : Ty) (ws : List Spelling) → SpellEach ws (ty_tokens x) → ty_depth x ≤ d → Back ty_tokens ty_events (read_type d) x ws
any_type_back d x ws h l =
    let t = ty_twin x (standing 0 ws) (like 0 ws (ty_tokens x) h) in
    by_twin t (type_back d t.to ws (all_spell ws (ty_tokens x) h) t.tokens (omega (arith, t.depth)))

-- a selection set
pub any_set_back : (d : ℕ) (x : SelectionSet) (ws : List Spelling) → SpellEach ws (set_tokens x) → set_depth x ≤ d → Back set_tokens set_events (read_selection_set d) x ws
any_set_back d x ws h l =
    let t = set_twin x (standing 0 ws) (like 0 ws (set_tokens x) h) in
    by_twin t (set_back d t.to ws (all_spell ws (set_tokens x) h) t.tokens (omega (arith, t.depth)))

-- ---- the premises can be met

-- each kind of token that a tree has is spelt by some bytes
abbrev kinds : List Spelling
kinds =
    spelling bang (33 ∷ []) ∷ spelling dollar (36 ∷ []) ∷ spelling paren_l (40 ∷ []) ∷ spelling paren_r (41 ∷ []) ∷ spelling dots (46 ∷ 46 ∷ 46 ∷ [])
    ∷ spelling colon (58 ∷ []) ∷ spelling at (64 ∷ []) ∷ spelling bracket_l (91 ∷ []) ∷ spelling bracket_r (93 ∷ []) ∷ spelling brace_l (123 ∷ []) ∷ spelling brace_r (125 ∷ [])
    ∷ spelling plain (97 ∷ 49 ∷ []) ∷ spelling string (34 ∷ 34 ∷ []) ∷ spelling string (34 ∷ 97 ∷ 34 ∷ []) ∷ spelling string (34 ∷ 34 ∷ 34 ∷ 97 ∷ 34 ∷ 34 ∷ 34 ∷ [])
    ∷ spelling int (45 ∷ 49 ∷ 48 ∷ []) ∷ spelling float (49 ∷ 46 ∷ 53 ∷ 101 ∷ 43 ∷ 51 ∷ []) ∷ spelling word_true (116 ∷ 114 ∷ 117 ∷ 101 ∷ [])
    ∷ spelling word_false (102 ∷ 97 ∷ 108 ∷ 115 ∷ 101 ∷ []) ∷ spelling word_null (110 ∷ 117 ∷ 108 ∷ 108 ∷ []) ∷ spelling word_on (111 ∷ 110 ∷ []) ∷ []

kinds_spelt : AllSpell kinds
unfolding run_of span tiles digit nonzero letter name_start name_continue exponent_mark sign after_number blank_by blank whole_size integer_size fraction_size signed_size exponent_size number_by number_token punctuator_at spread_at string_token token_at item_at same word_of token_of ignored significant line_end after block escaped in_text quotes scan string_scan code_of string_at
kinds_spelt = ((refl, omega arith), ((refl, omega arith), ((refl, omega arith), ((refl, omega arith), ((refl, omega arith), ((refl, omega arith), ((refl, omega arith), ((refl, omega arith), ((refl, omega arith), ((refl, omega arith), ((refl, omega arith), ((refl, omega arith), ((refl, omega arith), ((refl, omega arith), ((refl, omega arith), ((refl, omega arith), ((refl, omega arith), ((refl, omega arith), ((refl, omega arith), ((refl, omega arith), ((refl, omega arith), tt)))))))))))))))))))))

-- `[ 1 ]`, by the tree that has these places, and by the tree of `[1]`
abbrev list_words : List Spelling
list_words = spelling bracket_l (91 ∷ []) ∷ spelling int (49 ∷ []) ∷ spelling bracket_r (93 ∷ []) ∷ []

list_written : written list_words ≡ 91 ∷ 32 ∷ 49 ∷ 32 ∷ 93 ∷ []
list_written = refl

-- `[`, `1` and `]` at these places
abbrev list_at : (l i r : ℕ) → Value false
list_at l i r = list_value (record { start = l; size = 1 }) (a_value (int_value (record { start = i; size = 1 })) no_value) (record { start = r; size = 1 })

list_spelt : SpellEach list_words (value_tokens (list_at 0 1 2))
unfolding run_of span tiles digit nonzero letter name_start name_continue exponent_mark sign after_number blank_by blank whole_size integer_size fraction_size signed_size exponent_size number_by number_token punctuator_at spread_at string_token token_at item_at same word_of token_of ignored significant
list_spelt = ((refl, omega arith), refl, ((refl, omega arith), refl, ((refl, omega arith), refl, tt)))

list_back : read_value 1 (tokens (written list_words)) ≡ accepted (value_events (list_at 0 2 4))
list_back = value_back 1 (list_at 0 2 4) list_words (all_spell list_words (value_tokens (list_at 0 1 2)) list_spelt) refl (omega arith)

list_any_back : Back value_tokens value_events (read_value 1) (list_at 0 1 2) list_words
list_any_back = any_value_back 1 (list_at 0 1 2) list_words list_spelt (omega arith)
