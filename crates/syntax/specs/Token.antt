-- Significant tokens, and the events that they give. Assumes nothing: these are definitions.
use Rattle.std.specs.Prelude.{ℕ, ◌+◌, ◌-◌, List, [], ◌∷◌, Bool, ◌||◌, leb, eqb}
use Rattle.base.specs.Text.{pick, from}
use Rattle.base.specs.Item.{Item, item}
pub use Rattle.codes.specs.ItemCodes.{eof, bang, dollar, paren_l, paren_r, dots, colon, at, bracket_l, bracket_r, brace_l, brace_r, string, int, float}
use Rattle.codes.specs.EventCodes as nodes
use Rattle.codes.specs.ItemCodes as codes

-- The kind of a token is its item code, but a Name's is 22 if it is `true`, 23 if `false`, 24 if `null` and 25 if `on`.
abbrev pub plain : ℕ
plain = codes.name

abbrev pub word_true : ℕ
word_true = 22

abbrev pub word_false : ℕ
word_false = 23

abbrev pub word_null : ℕ
word_null = 24

abbrev pub word_on : ℕ
word_on = 25

-- a Name of any spelling
unfoldable pub is_name : ℕ → Bool
is_name k = eqb k plain || from word_true word_on k

-- EnumValue :: Name but not `true`, `false` or `null`
unfoldable pub is_enum : ℕ → Bool
is_enum k = eqb k plain || eqb k word_on

-- FragmentName :: Name but not `on`
unfoldable pub is_fragment_name : ℕ → Bool
is_fragment_name k = eqb k plain || from word_true word_null k

-- a token: its kind, its first byte, and how many bytes it has
pub record Token : Type 0 where
  pub kind : ℕ
  pub start : ℕ
  pub size : ℕ

abbrev pub token : ℕ → ℕ → ℕ → Token
token k s n = record { kind = k; start = s; size = n }

-- the byte after its last
abbrev pub end_of : Token → ℕ
end_of t = t.start + t.size

-- its item code
abbrev pub code_of : Token → ℕ
code_of t = pick (leb word_true t.kind) plain t.kind

-- "a token is 128 + its item code (its span)"
abbrev pub token_event : Token → Item
token_event t = item (nodes.holding (code_of t)) t.start t.size

-- "a node opens with n (start of its first token, length 0), closes with 64 + n (first token's start to last one's end)"
abbrev pub opens : ℕ → ℕ → Item
opens n start = item n start 0

abbrev pub closes : ℕ → (start end : ℕ) → Item
closes n start end = item (nodes.closing n) start (end - start)

-- a node around one token
abbrev pub leaf : ℕ → Token → List Item
leaf n t = opens n t.start ∷ token_event t ∷ closes n t.start (end_of t) ∷ []

-- "Every Name gives a NAME around its token"
abbrev pub name_events : Token → List Item
name_events t = leaf nodes.name t
