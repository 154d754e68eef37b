-- GraphQL September 2025: Value and Value[Const] as trees, with what a tree's tokens are, its events and its depth.
-- No word here of how a text is read. Assumes nothing: these are definitions.
use Rattle.std.specs.Prelude.{ℕ, suc, max, Bool, false, List, [], ◌∷◌, ◌++◌}
use Rattle.base.specs.Item.{Item}
use Rattle.codes.specs.EventCodes as nodes
use Rattle.syntax.specs.Token.{dollar, colon, bracket_l, bracket_r, brace_l, brace_r, plain, string, int, float, word_true, word_false, word_null, word_on, Token, token, end_of, token_event, opens, closes, leaf, name_events}

-- where a token stands: its first byte, and how many bytes it has
pub record Span : Type 0 where
  pub start : ℕ
  pub size : ℕ

abbrev pub of : ℕ → Span → Token
of k s = token k s.start s.size

-- the words that a Name may be
pub data Word : Type 0 where
  other : Word
  is_true : Word
  is_false : Word
  is_null : Word
  is_on : Word

abbrev pub kind_of : Word → ℕ
kind_of other = plain
kind_of is_true = word_true
kind_of is_false = word_false
kind_of is_null = word_null
kind_of is_on = word_on

pub record Name : Type 0 where
  pub word : Word
  pub span : Span

abbrev pub name_token : Name → Token
name_token n = of (kind_of n.word) n.span

-- EnumValue : Name but not `true`, `false` or `null`
pub data EnumWord : Type 0 where
  other : EnumWord
  is_on : EnumWord

abbrev pub enum_kind : EnumWord → ℕ
enum_kind EnumWord.other = plain
enum_kind EnumWord.is_on = word_on

-- FragmentName : Name but not `on`
pub data FragmentWord : Type 0 where
  other : FragmentWord
  is_true : FragmentWord
  is_false : FragmentWord
  is_null : FragmentWord

abbrev pub fragment_kind : FragmentWord → ℕ
fragment_kind FragmentWord.other = plain
fragment_kind FragmentWord.is_true = word_true
fragment_kind FragmentWord.is_false = word_false
fragment_kind FragmentWord.is_null = word_null

-- the start of the first token, and the end of the last
abbrev pub start_of : List Token → ℕ
start_of [] = 0
start_of (t ∷ ts) = t.start

abbrev pub last_end : List Token → ℕ
last_end [] = 0
last_end (t ∷ []) = end_of t
last_end (t ∷ u ∷ ts) = last_end (u ∷ ts)

-- a node of code n with the tokens ts, around the events es
abbrev pub node : ℕ → List Token → List Item → List Item
node n ts es = opens n (start_of ts) ∷ (es ++ (closes n (start_of ts) (last_end ts) ∷ []))

-- ---- Values. The flag says whether the value is constant: Value[Const]

mutual
  -- Value[Const] : [if not Const] Variable, IntValue, FloatValue, StringValue, BooleanValue, NullValue, EnumValue, ListValue[?Const], ObjectValue[?Const]
  pub data Value : Bool → Type 0 where
    -- Variable : $ Name
    variable : Span → Name → Value false
    int_value : {c : Bool} → Span → Value c
    float_value : {c : Bool} → Span → Value c
    string_value : {c : Bool} → Span → Value c
    -- BooleanValue : one of `true` `false`
    true_value : {c : Bool} → Span → Value c
    false_value : {c : Bool} → Span → Value c
    null_value : {c : Bool} → Span → Value c
    enum_value : {c : Bool} → EnumWord → Span → Value c
    -- ListValue[Const] : [ ], [ Value[?Const]+ ]
    list_value : {c : Bool} → Span → Values c → Span → Value c
    -- ObjectValue[Const] : { }, { ObjectField[?Const]+ }
    object_value : {c : Bool} → Span → Fields c → Span → Value c

  pub data Values : Bool → Type 0 where
    no_value : {c : Bool} → Values c
    a_value : {c : Bool} → Value c → Values c → Values c

  pub data Fields : Bool → Type 0 where
    no_field : {c : Bool} → Fields c
    -- ObjectField[Const] : Name : Value[?Const]
    a_field : {c : Bool} → Name → Span → Value c → Fields c → Fields c

-- the tokens
abbrev mutual
  pub value_tokens : {c : Bool} → Value c → List Token
  value_tokens (variable d n) = of dollar d ∷ name_token n ∷ []
  value_tokens (int_value s) = of int s ∷ []
  value_tokens (float_value s) = of float s ∷ []
  value_tokens (string_value s) = of string s ∷ []
  value_tokens (true_value s) = of word_true s ∷ []
  value_tokens (false_value s) = of word_false s ∷ []
  value_tokens (null_value s) = of word_null s ∷ []
  value_tokens (enum_value w s) = of (enum_kind w) s ∷ []
  value_tokens (list_value l vs r) = of bracket_l l ∷ (values_tokens vs ++ (of bracket_r r ∷ []))
  value_tokens (object_value l fs r) = of brace_l l ∷ (fields_tokens fs ++ (of brace_r r ∷ []))

  pub values_tokens : {c : Bool} → Values c → List Token
  values_tokens no_value = []
  values_tokens (a_value v vs) = value_tokens v ++ values_tokens vs

  pub fields_tokens : {c : Bool} → Fields c → List Token
  fields_tokens no_field = []
  fields_tokens (a_field n k v fs) = (name_token n ∷ of colon k ∷ value_tokens v) ++ fields_tokens fs

-- the events
abbrev mutual
  pub value_events : {c : Bool} → Value c → List Item
  value_events (variable d n) = node nodes.variable (of dollar d ∷ name_token n ∷ []) (token_event (of dollar d) ∷ name_events (name_token n))
  value_events (int_value s) = leaf nodes.int_value (of int s)
  value_events (float_value s) = leaf nodes.float_value (of float s)
  value_events (string_value s) = leaf nodes.string_value (of string s)
  value_events (true_value s) = leaf nodes.boolean_value (of word_true s)
  value_events (false_value s) = leaf nodes.boolean_value (of word_false s)
  value_events (null_value s) = leaf nodes.null_value (of word_null s)
  value_events (enum_value w s) = node nodes.enum_value (of (enum_kind w) s ∷ []) (name_events (of (enum_kind w) s))
  value_events (list_value l vs r) =
      node nodes.list_value (of bracket_l l ∷ (values_tokens vs ++ (of bracket_r r ∷ [])))
      (token_event (of bracket_l l) ∷ (values_events vs ++ (token_event (of bracket_r r) ∷ [])))
  value_events (object_value l fs r) =
      node nodes.object_value (of brace_l l ∷ (fields_tokens fs ++ (of brace_r r ∷ [])))
      (token_event (of brace_l l) ∷ (fields_events fs ++ (token_event (of brace_r r) ∷ [])))

  pub values_events : {c : Bool} → Values c → List Item
  values_events no_value = []
  values_events (a_value v vs) = value_events v ++ values_events vs

  pub fields_events : {c : Bool} → Fields c → List Item
  fields_events no_field = []
  fields_events (a_field n k v fs) =
      node nodes.object_field (name_token n ∷ of colon k ∷ value_tokens v) (name_events (name_token n) ++ (token_event (of colon k) ∷ value_events v)) ++ fields_events fs

-- "Depth counts open list items, object field values, list types and selection sets together"
abbrev mutual
  pub value_depth : {c : Bool} → Value c → ℕ
  value_depth (variable d n) = 0
  value_depth (int_value s) = 0
  value_depth (float_value s) = 0
  value_depth (string_value s) = 0
  value_depth (true_value s) = 0
  value_depth (false_value s) = 0
  value_depth (null_value s) = 0
  value_depth (enum_value w s) = 0
  value_depth (list_value l vs r) = values_depth vs
  value_depth (object_value l fs r) = fields_depth fs

  pub values_depth : {c : Bool} → Values c → ℕ
  values_depth no_value = 0
  values_depth (a_value v vs) = max (suc (value_depth v)) (values_depth vs)

  pub fields_depth : {c : Bool} → Fields c → ℕ
  fields_depth no_field = 0
  fields_depth (a_field n k v fs) = max (suc (value_depth v)) (fields_depth fs)
