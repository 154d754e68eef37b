-- Values, types and selection sets as trees of nodes and tokens: each has the tokens and the events of its tree. Assumes nothing.
use Prim.Native.Nat.{ℕ}
use mathlib.Core.Path.{◌≡◌, refl, sym, ap, ap₂, ◌∙◌}
use mathlib.Core.Bool.{Bool}
use mathlib.Core.List.{List, [], ◌∷◌, ◌++◌, append_assoc, append-nil}
use lib.Dec.{T, ltb}
use Rattle.base.specs.Item.{Item}
use Rattle.syntax.specs.Token.{dollar, paren_l, paren_r, dots, colon, at, bang, bracket_l, bracket_r, brace_l, brace_r, string, int, float, word_true, word_false, word_null, word_on, Token, token_event, name_events}
use Rattle.syntax.specs.Grammar.{of, name_token, enum_kind, fragment_kind, node, Value, variable, int_value, float_value, string_value, true_value, false_value, null_value, enum_value, list_value, object_value, Values, no_value, a_value, Fields, no_field, a_field, value_tokens, values_tokens, fields_tokens, value_events, values_events, fields_events}
use Rattle.syntax.specs.Types.{Ty, nullable, non_null, Base, named_type, list_type, ty_tokens, base_tokens, ty_events, base_events}
use Rattle.syntax.specs.Selections.{Argument, Arguments, one_argument, more_arguments, OptArguments, no_arguments, arguments, Directive, Directives, one_directive, more_directives, OptDirectives, no_directives, directives, no_alias, alias, OptCondition, no_condition, condition, SelectionSet, selection_set, Selections, one_selection, more_selections, Selection, field, fragment_spread, inline_fragment, OptSelectionSet, no_selection_set, some_selection_set, argument_tokens, arguments_tokens, opt_arguments_tokens, directive_tokens, directives_tokens, opt_directives_tokens, condition_tokens, set_tokens, selection_tokens, selections_tokens, opt_set_tokens, argument_events, arguments_events, opt_arguments_events, directive_events, directives_events, opt_directives_events, condition_events, set_events, selection_events, selections_events, opt_set_events}

mutual
  -- a token, or a node of a code below 64 with at least one child
  pub data Cst : Type 0 where
    tok : Token → Cst
    nod : (n : ℕ) → T (ltb n 64) → Cst → Csts → Cst

  pub data Csts : Type 0 where
    none : Csts
    some : Cst → Csts → Csts

abbrev mutual
  -- the tokens of a tree
  pub cst_tokens : Cst → List Token
  cst_tokens (tok t) = t ∷ []
  cst_tokens (nod n p x xs) = cst_tokens x ++ csts_tokens xs

  -- those of some trees
  pub csts_tokens : Csts → List Token
  csts_tokens none = []
  csts_tokens (some x xs) = cst_tokens x ++ csts_tokens xs

abbrev mutual
  -- the events of a tree
  pub cst_events : Cst → List Item
  cst_events (tok t) = token_event t ∷ []
  cst_events (nod n p x xs) = node n (cst_tokens x ++ csts_tokens xs) (cst_events x ++ csts_events xs)

  -- those of some trees
  pub csts_events : Csts → List Item
  csts_events none = []
  csts_events (some x xs) = cst_events x ++ csts_events xs

abbrev pub cat : Csts → Csts → Csts
cat none ys = ys
cat (some x xs) ys = some x (cat xs ys)

-- the tokens of trees after trees
pub cat_tokens : (xs ys : Csts) → csts_tokens (cat xs ys) ≡ csts_tokens xs ++ csts_tokens ys
cat_tokens none ys = refl
cat_tokens (some x xs) ys = ap (λ (ts : List Token). cst_tokens x ++ ts) (cat_tokens xs ys) ∙ sym (append_assoc (cst_tokens x) (csts_tokens xs) (csts_tokens ys))

-- the events of trees after trees
pub cat_events : (xs ys : Csts) → csts_events (cat xs ys) ≡ csts_events xs ++ csts_events ys
cat_events none ys = refl
cat_events (some x xs) ys = ap (λ (ts : List Item). cst_events x ++ ts) (cat_events xs ys) ∙ sym (append_assoc (cst_events x) (csts_events xs) (csts_events ys))

-- a tree with these tokens and these events
pub record Is (x : Cst) (ts : List Token) (es : List Item) : Type 0 where
  pub tokens : cst_tokens x ≡ ts
  pub events : cst_events x ≡ es

pub record Are (xs : Csts) (ts : List Token) (es : List Item) : Type 0 where
  pub tokens : csts_tokens xs ≡ ts
  pub events : csts_events xs ≡ es

is_tok : (t : Token) → Is (tok t) (t ∷ []) (token_event t ∷ [])
is_tok t = record { tokens = refl; events = refl }

are_none : Are none [] []
are_none = record { tokens = refl; events = refl }

are_some : {x : Cst} {xs : Csts} {ts us : List Token} {es fs : List Item} → Is x ts es → Are xs us fs → Are (some x xs) (ts ++ us) (es ++ fs)
are_some p q = record { tokens = ap₂ (λ (us vs : List Token). us ++ vs) p.tokens q.tokens; events = ap₂ (λ (us vs : List Item). us ++ vs) p.events q.events }

are_cat : {xs ys : Csts} {ts us : List Token} {es fs : List Item} → Are xs ts es → Are ys us fs → Are (cat xs ys) (ts ++ us) (es ++ fs)
are_cat {xs} {ys} p q =
    record { tokens = cat_tokens xs ys ∙ ap₂ (λ (us vs : List Token). us ++ vs) p.tokens q.tokens; events = cat_events xs ys ∙ ap₂ (λ (us vs : List Item). us ++ vs) p.events q.events }

is_node_lem : {x : Cst} {xs : Csts} {ts us : List Token} {es fs : List Item} (n : ℕ) (p : T (ltb n 64)) → Is x ts es → Are xs us fs → Is (nod n p x xs) (ts ++ us) (node n (ts ++ us) (es ++ fs))
is_node_lem n p a b =
    let e = are_some a b in
    record { tokens = e.tokens; events = ap₂ (node n) e.tokens e.events }

are_one : {x : Cst} {ts : List Token} {es : List Item} → Is x ts es → Are (some x none) ts es
are_one {ts = ts} {es = es} p = record { tokens = append-nil _ ∙ p.tokens; events = append-nil _ ∙ p.events }

-- a node around one thing
is_around : {x : Cst} {ts : List Token} {es : List Item} (n : ℕ) (p : T (ltb n 64)) → Is x ts es → Is (nod n p x none) ts (node n ts es)
is_around n p a = let e = are_one a in record { tokens = e.tokens; events = ap₂ (node n) e.tokens e.events }

abbrev pub name_cst : Token → Cst
name_cst t = nod 1 tt (tok t) none

is_name_lem : (t : Token) → Is (name_cst t) (t ∷ []) (name_events t)
is_name_lem t = is_around 1 tt (is_tok t)

-- ---- values

abbrev mutual
  -- a value's tree
  pub value_cst : {c : Bool} → Value c → Cst
  value_cst (variable d n) = nod 11 tt (tok (of dollar d)) (some (name_cst (name_token n)) none)
  value_cst (int_value s) = nod 2 tt (tok (of int s)) none
  value_cst (float_value s) = nod 3 tt (tok (of float s)) none
  value_cst (string_value s) = nod 4 tt (tok (of string s)) none
  value_cst (true_value s) = nod 5 tt (tok (of word_true s)) none
  value_cst (false_value s) = nod 5 tt (tok (of word_false s)) none
  value_cst (null_value s) = nod 6 tt (tok (of word_null s)) none
  value_cst (enum_value w s) = nod 7 tt (name_cst (of (enum_kind w) s)) none
  value_cst (list_value l vs r) = nod 8 tt (tok (of bracket_l l)) (cat (values_cst vs) (some (tok (of bracket_r r)) none))
  value_cst (object_value l fs r) = nod 9 tt (tok (of brace_l l)) (cat (fields_cst fs) (some (tok (of brace_r r)) none))

  -- the trees of a list's items
  pub values_cst : {c : Bool} → Values c → Csts
  values_cst no_value = none
  values_cst (a_value v vs) = some (value_cst v) (values_cst vs)

  -- the trees of an object's fields
  pub fields_cst : {c : Bool} → Fields c → Csts
  fields_cst no_field = none
  fields_cst (a_field n k v fs) = some (nod 10 tt (name_cst (name_token n)) (some (tok (of colon k)) (some (value_cst v) none))) (fields_cst fs)

mutual
  -- a value has its tree's tokens and events
  pub is_value : {c : Bool} (v : Value c) → Is (value_cst v) (value_tokens v) (value_events v)
  is_value (variable d n) = is_node_lem 11 tt (is_tok (of dollar d)) (are_one (is_name_lem (name_token n)))
  is_value (int_value s) = is_around 2 tt (is_tok (of int s))
  is_value (float_value s) = is_around 3 tt (is_tok (of float s))
  is_value (string_value s) = is_around 4 tt (is_tok (of string s))
  is_value (true_value s) = is_around 5 tt (is_tok (of word_true s))
  is_value (false_value s) = is_around 5 tt (is_tok (of word_false s))
  is_value (null_value s) = is_around 6 tt (is_tok (of word_null s))
  is_value (enum_value w s) = is_around 7 tt (is_name_lem (of (enum_kind w) s))
  is_value (list_value l vs r) = is_node_lem 8 tt (is_tok (of bracket_l l)) (are_cat (are_values vs) (are_one (is_tok (of bracket_r r))))
  is_value (object_value l fs r) = is_node_lem 9 tt (is_tok (of brace_l l)) (are_cat (are_fields fs) (are_one (is_tok (of brace_r r))))

  -- so have a list's items
  pub are_values : {c : Bool} (vs : Values c) → Are (values_cst vs) (values_tokens vs) (values_events vs)
  are_values no_value = are_none
  are_values (a_value v vs) = are_some (is_value v) (are_values vs)

  -- so have an object's fields
  pub are_fields : {c : Bool} (fs : Fields c) → Are (fields_cst fs) (fields_tokens fs) (fields_events fs)
  are_fields no_field = are_none
  are_fields (a_field n k v fs) = are_some (is_node_lem 10 tt (is_name_lem (name_token n)) (are_some (is_tok (of colon k)) (are_one (is_value v)))) (are_fields fs)

-- ---- types

abbrev mutual
  -- a type's tree
  pub ty_cst : Ty → Cst
  ty_cst (nullable b) = base_cst b
  ty_cst (non_null b s) = nod 14 tt (base_cst b) (some (tok (of bang s)) none)

  -- the tree of a type without its `!`
  pub base_cst : Base → Cst
  base_cst (named_type n) = nod 12 tt (name_cst (name_token n)) none
  base_cst (list_type l t r) = nod 13 tt (tok (of bracket_l l)) (some (ty_cst t) (some (tok (of bracket_r r)) none))

mutual
  -- a type has its tree's tokens and events
  pub is_ty : (t : Ty) → Is (ty_cst t) (ty_tokens t) (ty_events t)
  is_ty (nullable b) = is_base b
  is_ty (non_null b s) = is_node_lem 14 tt (is_base b) (are_one (is_tok (of bang s)))

  -- so has a type without its `!`
  pub is_base : (b : Base) → Is (base_cst b) (base_tokens b) (base_events b)
  is_base (named_type n) = is_around 12 tt (is_name_lem (name_token n))
  is_base (list_type l t r) = is_node_lem 13 tt (is_tok (of bracket_l l)) (are_some (is_ty t) (are_one (is_tok (of bracket_r r))))

-- ---- selection sets

abbrev pub argument_cst : Argument → Cst
argument_cst a = nod 19 tt (name_cst (name_token a.name)) (some (tok (of colon a.colon_at)) (some (value_cst a.value) none))

is_argument : (a : Argument) → Is (argument_cst a) (argument_tokens a) (argument_events a)
is_argument a = is_node_lem 19 tt (is_name_lem (name_token a.name)) (are_some (is_tok (of colon a.colon_at)) (are_one (is_value a.value)))

abbrev pub arguments_cst : Arguments → Csts
arguments_cst (one_argument a) = some (argument_cst a) none
arguments_cst (more_arguments a xs) = some (argument_cst a) (arguments_cst xs)

are_arguments : (xs : Arguments) → Are (arguments_cst xs) (arguments_tokens xs) (arguments_events xs)
are_arguments (one_argument a) = are_one (is_argument a)
are_arguments (more_arguments a xs) = are_some (is_argument a) (are_arguments xs)

abbrev pub opt_arguments_cst : OptArguments → Csts
opt_arguments_cst no_arguments = none
opt_arguments_cst (arguments l xs r) = some (nod 18 tt (tok (of paren_l l)) (cat (arguments_cst xs) (some (tok (of paren_r r)) none))) none

are_opt_arguments : (xs : OptArguments) → Are (opt_arguments_cst xs) (opt_arguments_tokens xs) (opt_arguments_events xs)
are_opt_arguments no_arguments = are_none
are_opt_arguments (arguments l xs r) = are_one (is_node_lem 18 tt (is_tok (of paren_l l)) (are_cat (are_arguments xs) (are_one (is_tok (of paren_r r)))))

abbrev pub directive_cst : Directive → Cst
directive_cst d = nod 21 tt (tok (of at d.at_at)) (some (name_cst (name_token d.name)) (opt_arguments_cst d.args))

is_directive : (d : Directive) → Is (directive_cst d) (directive_tokens d) (directive_events d)
is_directive d = is_node_lem 21 tt (is_tok (of at d.at_at)) (are_some (is_name_lem (name_token d.name)) (are_opt_arguments d.args))

abbrev pub directives_cst : Directives → Csts
directives_cst (one_directive d) = some (directive_cst d) none
directives_cst (more_directives d ds) = some (directive_cst d) (directives_cst ds)

are_directives : (ds : Directives) → Are (directives_cst ds) (directives_tokens ds) (directives_events ds)
are_directives (one_directive d) = are_one (is_directive d)
are_directives (more_directives d ds) = are_some (is_directive d) (are_directives ds)

abbrev pub opt_directives_cst : OptDirectives → Csts
opt_directives_cst no_directives = none
opt_directives_cst (directives (one_directive d)) = some (nod 20 tt (directive_cst d) none) none
opt_directives_cst (directives (more_directives d ds)) = some (nod 20 tt (directive_cst d) (directives_cst ds)) none

are_opt_directives : (ds : OptDirectives) → Are (opt_directives_cst ds) (opt_directives_tokens ds) (opt_directives_events ds)
are_opt_directives no_directives = are_none
are_opt_directives (directives (one_directive d)) = are_one (is_around 20 tt (is_directive d))
are_opt_directives (directives (more_directives d ds)) = are_one (is_node_lem 20 tt (is_directive d) (are_directives ds))

abbrev pub condition_cst : OptCondition → Csts
condition_cst no_condition = none
condition_cst (condition o n) = some (nod 25 tt (tok (of word_on o)) (some (nod 12 tt (name_cst (name_token n)) none) none)) none

are_condition : (k : OptCondition) → Are (condition_cst k) (condition_tokens k) (condition_events k)
are_condition no_condition = are_none
are_condition (condition o n) = are_one (is_node_lem 25 tt (is_tok (of word_on o)) (are_one (is_around 12 tt (is_name_lem (name_token n)))))

abbrev mutual
  -- a selection set's tree
  pub set_cst : SelectionSet → Cst
  set_cst (selection_set l ss r) = nod 15 tt (tok (of brace_l l)) (cat (selections_cst ss) (some (tok (of brace_r r)) none))

  -- the trees of some selections
  pub selections_cst : Selections → Csts
  selections_cst (one_selection s) = some (selection_cst s) none
  selections_cst (more_selections s ss) = some (selection_cst s) (selections_cst ss)

  -- a selection's tree
  pub selection_cst : Selection → Cst
  selection_cst (field no_alias n xs ds s) = nod 16 tt (name_cst (name_token n)) (cat (opt_arguments_cst xs) (cat (opt_directives_cst ds) (opt_set_cst s)))
  selection_cst (field (alias m k) n xs ds s) =
      nod 16 tt (nod 17 tt (name_cst (name_token m)) (some (tok (of colon k)) none)) (some (name_cst (name_token n)) (cat (opt_arguments_cst xs) (cat (opt_directives_cst ds) (opt_set_cst s))))
  selection_cst (fragment_spread d w n ds) = nod 22 tt (tok (of dots d)) (some (nod 23 tt (name_cst (of (fragment_kind w) n)) none) (opt_directives_cst ds))
  selection_cst (inline_fragment d k ds s) = nod 24 tt (tok (of dots d)) (cat (condition_cst k) (cat (opt_directives_cst ds) (some (set_cst s) none)))

  -- a selection set's tree, or none
  pub opt_set_cst : OptSelectionSet → Csts
  opt_set_cst no_selection_set = none
  opt_set_cst (some_selection_set s) = some (set_cst s) none

mutual
  -- a selection set has its tree's tokens and events
  pub is_set : (s : SelectionSet) → Is (set_cst s) (set_tokens s) (set_events s)
  is_set (selection_set l ss r) = is_node_lem 15 tt (is_tok (of brace_l l)) (are_cat (are_selections ss) (are_one (is_tok (of brace_r r))))

  are_selections : (ss : Selections) → Are (selections_cst ss) (selections_tokens ss) (selections_events ss)
  are_selections (one_selection s) = are_one (is_selection s)
  are_selections (more_selections s ss) = are_some (is_selection s) (are_selections ss)

  is_selection : (s : Selection) → Is (selection_cst s) (selection_tokens s) (selection_events s)
  is_selection (field no_alias n xs ds s) = is_node_lem 16 tt (is_name_lem (name_token n)) (are_cat (are_opt_arguments xs) (are_cat (are_opt_directives ds) (are_opt_set s)))
  is_selection (field (alias m k) n xs ds s) =
      is_node_lem 16 tt (is_node_lem 17 tt (is_name_lem (name_token m)) (are_one (is_tok (of colon k))))
      (are_some (is_name_lem (name_token n)) (are_cat (are_opt_arguments xs) (are_cat (are_opt_directives ds) (are_opt_set s))))
  is_selection (fragment_spread d w n ds) = is_node_lem 22 tt (is_tok (of dots d)) (are_some (is_around 23 tt (is_name_lem (of (fragment_kind w) n))) (are_opt_directives ds))
  is_selection (inline_fragment d k ds s) = is_node_lem 24 tt (is_tok (of dots d)) (are_cat (are_condition k) (are_cat (are_opt_directives ds) (are_one (is_set s))))

  are_opt_set : (s : OptSelectionSet) → Are (opt_set_cst s) (opt_set_tokens s) (opt_set_events s)
  are_opt_set no_selection_set = are_none
  are_opt_set (some_selection_set s) = are_one (is_set s)
