-- What is still due, as trees: for each thing that is due a tree of it within the depth that is left, with its tokens and its events. Assumes nothing: these are definitions.
use Prim.Native.Nat.{ℕ, suc, ◌≤◌}
use mathlib.Core.Bool.{Bool}
use mathlib.Core.List.{List, [], ◌∷◌, ◌++◌}
use Rattle.base.specs.Item.{Item}
use Rattle.syntax.specs.Token.{paren_r, colon, bracket_r, brace_r, Token, end_of, token_event, opens, closes, name_events}
use Rattle.syntax.specs.Grammar.{Span, of, Name, name_token, FragmentWord, fragment_kind, node, Value, Values, Fields, value_tokens, values_tokens, fields_tokens, value_events, values_events, fields_events, value_depth, values_depth, fields_depth}
use Rattle.syntax.specs.Selections.{Arguments, OptArguments, Directives, OptDirectives, OptCondition, SelectionSet, Selections, OptSelectionSet, arguments_tokens, opt_arguments_tokens, directives_tokens, opt_directives_tokens, condition_tokens, set_tokens, selections_tokens, opt_set_tokens, arguments_events, opt_arguments_events, directives_events, opt_directives_events, condition_events, set_events, selections_events, opt_set_events, arguments_depth, opt_arguments_depth, directives_depth, opt_directives_depth, set_depth, selections_depth, opt_set_depth}
use Rattle.syntax.specs.Machine.{Sym, value, deeper, items, fields, name, colon_due, close, selection_set, opt_selection_set, first_selection, selections, named, spread, opt_arguments, first_argument, arguments, opt_directives, directives, named_type}
use Rattle.syntax.proofs.Steps.{end_after}

-- further ones, or none
pub data Further (A : Type 0) : Type 0 where
  no_more : Further A
  more : A → Further A

-- f of further ones; else z
abbrev pub further : {A B : Type 0} → B → (A → B) → Further A → B
further z f no_more = z
further z f (more x) = f x

-- a tree of what is due
pub data Form (c : Bool) : Sym → Type 0 where
  a_value : {r : ℕ} (v : Value c) → value_depth v ≤ r → Form c (value r)
  a_deeper : {r : ℕ} (v : Value c) → suc (value_depth v) ≤ r → Form c (deeper r)
  an_items : {r s : ℕ} (vs : Values c) → Span → values_depth vs ≤ r → Form c (items r s)
  a_fields : {r s : ℕ} (fs : Fields c) → Span → fields_depth fs ≤ r → Form c (fields r s)
  a_name : Name → Form c name
  a_colon : Span → Form c colon_due
  a_close : {n s : ℕ} → Form c (close n s)
  a_set : {r : ℕ} (s : SelectionSet) → set_depth s ≤ r → Form c (selection_set r)
  an_opt_set : {r : ℕ} (s : OptSelectionSet) → opt_set_depth s ≤ r → Form c (opt_selection_set r)
  a_first : {r s : ℕ} (ss : Selections) → Span → suc (selections_depth ss) ≤ r → Form c (first_selection r s)
  a_selections : {r s : ℕ} (ss : Further Selections) → Span → further 0 selections_depth ss ≤ r → Form c (selections r s)
  a_plain : {r : ℕ} {n : Token} (xs : OptArguments) (ds : OptDirectives) (s : OptSelectionSet)
      → opt_arguments_depth xs ≤ r → opt_directives_depth ds ≤ r → opt_set_depth s ≤ r → Form c (named r n)
  an_alias : {r : ℕ} {n : Token} → Span → Name → (xs : OptArguments) (ds : OptDirectives) (s : OptSelectionSet)
      → opt_arguments_depth xs ≤ r → opt_directives_depth ds ≤ r → opt_set_depth s ≤ r → Form c (named r n)
  a_fragment : {r : ℕ} {d : Token} → FragmentWord → Span → (ds : OptDirectives) → opt_directives_depth ds ≤ r → Form c (spread r d)
  an_inline : {r : ℕ} {d : Token} → OptCondition → (ds : OptDirectives) (s : SelectionSet) → opt_directives_depth ds ≤ r → set_depth s ≤ r → Form c (spread r d)
  an_opt_arguments : {r : ℕ} (xs : OptArguments) → opt_arguments_depth xs ≤ r → Form c (opt_arguments r)
  a_first_argument : {r s : ℕ} (xs : Arguments) → Span → arguments_depth xs ≤ r → Form c (first_argument r s)
  an_arguments : {r s : ℕ} (xs : Further Arguments) → Span → further 0 arguments_depth xs ≤ r → Form c (arguments r s)
  an_opt_directives : {r : ℕ} (ds : OptDirectives) → opt_directives_depth ds ≤ r → Form c (opt_directives r)
  a_directives : {r s : ℕ} (ds : Further Directives) → further 0 directives_depth ds ≤ r → Form c (directives r s)
  a_type : Name → Form c named_type

-- what may follow a field's name
abbrev pub tail_tokens : OptArguments → OptDirectives → OptSelectionSet → List Token
tail_tokens xs ds s = opt_arguments_tokens xs ++ (opt_directives_tokens ds ++ opt_set_tokens s)

abbrev pub tail_events : OptArguments → OptDirectives → OptSelectionSet → List Item
tail_events xs ds s = opt_arguments_events xs ++ (opt_directives_events ds ++ opt_set_events s)

-- its tokens
abbrev pub form_tokens : {c : Bool} {s : Sym} → Form c s → List Token
form_tokens (a_value v h) = value_tokens v
form_tokens (a_deeper v h) = value_tokens v
form_tokens (an_items vs b h) = values_tokens vs ++ (of bracket_r b ∷ [])
form_tokens (a_fields fs b h) = fields_tokens fs ++ (of brace_r b ∷ [])
form_tokens (a_name n) = name_token n ∷ []
form_tokens (a_colon k) = of colon k ∷ []
form_tokens a_close = []
form_tokens (a_set s h) = set_tokens s
form_tokens (an_opt_set s h) = opt_set_tokens s
form_tokens (a_first ss b h) = selections_tokens ss ++ (of brace_r b ∷ [])
form_tokens (a_selections ss b h) = further [] selections_tokens ss ++ (of brace_r b ∷ [])
form_tokens (a_plain xs ds s g h i) = tail_tokens xs ds s
form_tokens (an_alias k m xs ds s g h i) = of colon k ∷ name_token m ∷ tail_tokens xs ds s
form_tokens (a_fragment w n ds h) = of (fragment_kind w) n ∷ opt_directives_tokens ds
form_tokens (an_inline k ds s g h) = condition_tokens k ++ (opt_directives_tokens ds ++ set_tokens s)
form_tokens (an_opt_arguments xs h) = opt_arguments_tokens xs
form_tokens (a_first_argument xs b h) = arguments_tokens xs ++ (of paren_r b ∷ [])
form_tokens (an_arguments xs b h) = further [] arguments_tokens xs ++ (of paren_r b ∷ [])
form_tokens (an_opt_directives ds h) = opt_directives_tokens ds
form_tokens (a_directives ds h) = further [] directives_tokens ds
form_tokens (a_type n) = name_token n ∷ []

-- the events that are still to come, where the token before ended at l
abbrev pub form_events : {c : Bool} {s : Sym} → ℕ → Form c s → List Item
form_events l (a_value v h) = value_events v
form_events l (a_deeper v h) = value_events v
form_events l (an_items {s = s} vs b h) = values_events vs ++ (token_event (of bracket_r b) ∷ closes 8 s (end_of (of bracket_r b)) ∷ [])
form_events l (a_fields {s = s} fs b h) = fields_events fs ++ (token_event (of brace_r b) ∷ closes 9 s (end_of (of brace_r b)) ∷ [])
form_events l (a_name n) = name_events (name_token n)
form_events l (a_colon k) = token_event (of colon k) ∷ []
form_events l (a_close {n = n} {s = s}) = closes n s l ∷ []
form_events l (a_set s h) = set_events s
form_events l (an_opt_set s h) = opt_set_events s
form_events l (a_first {s = s} ss b h) = selections_events ss ++ (token_event (of brace_r b) ∷ closes 15 s (end_of (of brace_r b)) ∷ [])
form_events l (a_selections {s = s} ss b h) = further [] selections_events ss ++ (token_event (of brace_r b) ∷ closes 15 s (end_of (of brace_r b)) ∷ [])
form_events l (a_plain {n = n} xs ds s g h i) = opens 16 n.start ∷ (name_events n ++ (tail_events xs ds s ++ (closes 16 n.start (end_after l (tail_tokens xs ds s)) ∷ [])))
form_events l (an_alias {n = n} k m xs ds s g h i) =
    opens 16 n.start ∷ opens 17 n.start ∷ (name_events n ++ (token_event (of colon k) ∷ closes 17 n.start (end_of (of colon k))
    ∷ (name_events (name_token m) ++ (tail_events xs ds s ++ (closes 16 n.start (end_after (end_of (name_token m)) (tail_tokens xs ds s)) ∷ [])))))
form_events l (a_fragment {d = d} w n ds h) =
    opens 22 d.start ∷ token_event d ∷ (node 23 (of (fragment_kind w) n ∷ []) (name_events (of (fragment_kind w) n))
    ++ (opt_directives_events ds ++ (closes 22 d.start (end_after (end_of (of (fragment_kind w) n)) (opt_directives_tokens ds)) ∷ [])))
form_events l (an_inline {d = d} k ds s g h) =
    opens 24 d.start ∷ token_event d ∷ (condition_events k ++ (opt_directives_events ds ++ (set_events s
    ++ (closes 24 d.start (end_after l (condition_tokens k ++ (opt_directives_tokens ds ++ set_tokens s))) ∷ []))))
form_events l (an_opt_arguments xs h) = opt_arguments_events xs
form_events l (a_first_argument {s = s} xs b h) = arguments_events xs ++ (token_event (of paren_r b) ∷ closes 18 s (end_of (of paren_r b)) ∷ [])
form_events l (an_arguments {s = s} xs b h) = further [] arguments_events xs ++ (token_event (of paren_r b) ∷ closes 18 s (end_of (of paren_r b)) ∷ [])
form_events l (an_opt_directives ds h) = opt_directives_events ds
form_events l (a_directives {s = s} ds h) = further [] directives_events ds ++ (closes 20 s (end_after l (further [] directives_tokens ds)) ∷ [])
form_events l (a_type n) = node 12 (name_token n ∷ []) (name_events (name_token n))

-- a tree for each thing that is due
pub data Forms (c : Bool) : List Sym → Type 0 where
  none : Forms c []
  form : {s : Sym} {K : List Sym} → Form c s → Forms c K → Forms c (s ∷ K)

abbrev pub tokens_of : {c : Bool} {K : List Sym} → Forms c K → List Token
tokens_of none = []
tokens_of (form f F) = form_tokens f ++ tokens_of F

abbrev pub events_of : {c : Bool} {K : List Sym} → ℕ → Forms c K → List Item
events_of l none = []
events_of l (form f F) = form_events l f ++ events_of (end_after l (form_tokens f)) F
