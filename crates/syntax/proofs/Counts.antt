-- Events number at most five for each token, so that those of a text of at most 16,777,217 tokens number below 2 ^ 28. Assumes nothing.
use Prim.Native.Nat.{ℕ, suc, ◌+◌, ◌*◌, ◌^◌, ◌≤◌, ◌<◌}
use native.Mathlib.Omega.{arith}
use mathlib.Core.Path.{◌≡◌}
use mathlib.Core.Bool.{Bool}
use mathlib.Core.List.{List, [], ◌∷◌, ◌++◌}
use lib.ListN.{length, length-append}
use Rattle.base.specs.Item.{Item}
use Rattle.syntax.specs.Token.{paren_l, paren_r, dots, colon, at, bang, bracket_l, bracket_r, brace_l, brace_r, Token, token_event, closes, name_events}
use Rattle.syntax.specs.Grammar.{of, name_token, fragment_kind, start_of, last_end, node, Value, variable, int_value, float_value, string_value, true_value, false_value, null_value, enum_value, list_value, object_value, Values, no_value, a_value, Fields, no_field, a_field, value_tokens, values_tokens, fields_tokens, value_events, values_events, fields_events}
use Rattle.syntax.specs.Types.{Ty, nullable, non_null, Base, named_type, list_type, ty_tokens, base_tokens, ty_events, base_events}
use Rattle.syntax.specs.Selections.{Argument, Arguments, one_argument, more_arguments, OptArguments, no_arguments, arguments, Directive, Directives, one_directive, more_directives, OptDirectives, no_directives, directives, OptAlias, no_alias, alias, OptCondition, no_condition, condition, SelectionSet, selection_set, Selections, one_selection, more_selections, Selection, field, fragment_spread, inline_fragment, OptSelectionSet, no_selection_set, some_selection_set, argument_tokens, arguments_tokens, opt_arguments_tokens, directive_tokens, directives_tokens, opt_directives_tokens, alias_tokens, condition_tokens, set_tokens, selection_tokens, selections_tokens, opt_set_tokens, argument_events, arguments_events, opt_arguments_events, directive_events, directives_events, opt_directives_events, alias_events, condition_events, set_events, selection_events, selections_events, opt_set_events}

-- a node adds two events
node_length : (n : ℕ) (ts : List Token) (es : List Item) → length (node n ts es) ≡ suc (suc (length es))
node_length n ts es = omega (arith, length-append es (closes n (start_of ts) (last_end ts) ∷ []))

-- at most five events for each token
abbrev pub Few : List Item → List Token → Type 0
Few es ts = length es ≤ 5 * length ts

-- what follows what
few_append : (es fs : List Item) (us vs : List Token) → Few es us → Few fs vs → Few (es ++ fs) (us ++ vs)
few_append es fs us vs h k = omega (arith, length-append es fs, length-append us vs)

-- between brackets
few_bracketed : (n : ℕ) (a b : Token) (ts us : List Token) (es : List Item) → Few es ts → Few (node n us (token_event a ∷ (es ++ (token_event b ∷ [])))) (a ∷ (ts ++ (b ∷ [])))
few_bracketed n a b ts us es h =
    omega (arith, node_length n us (token_event a ∷ (es ++ (token_event b ∷ []))), length-append es (token_event b ∷ []), length-append ts (b ∷ []))

-- a name, a `:`, and what follows them, in a node
few_named : (n : ℕ) (a b : Token) (ts us : List Token) (es : List Item) → Few es ts → Few (node n us (name_events a ++ (token_event b ∷ es))) (a ∷ b ∷ ts)
few_named n a b ts us es h = omega (arith, node_length n us (name_events a ++ (token_event b ∷ es)))

mutual
  -- a value's events number at most five for each of its tokens
  pub value_few : {c : Bool} (v : Value c) → Few (value_events v) (value_tokens v)
  value_few (variable d n) = omega arith
  value_few (int_value s) = omega arith
  value_few (float_value s) = omega arith
  value_few (string_value s) = omega arith
  value_few (true_value s) = omega arith
  value_few (false_value s) = omega arith
  value_few (null_value s) = omega arith
  value_few (enum_value w s) = omega arith
  value_few (list_value l vs r) = few_bracketed 8 (of bracket_l l) (of bracket_r r) (values_tokens vs) (value_tokens (list_value l vs r)) (values_events vs) (values_few vs)
  value_few (object_value l fs r) = few_bracketed 9 (of brace_l l) (of brace_r r) (fields_tokens fs) (value_tokens (object_value l fs r)) (fields_events fs) (fields_few fs)

  -- those of a list's items
  pub values_few : {c : Bool} (vs : Values c) → Few (values_events vs) (values_tokens vs)
  values_few no_value = omega arith
  values_few (a_value v vs) = few_append (value_events v) (values_events vs) (value_tokens v) (values_tokens vs) (value_few v) (values_few vs)

  -- those of an object's fields
  pub fields_few : {c : Bool} (fs : Fields c) → Few (fields_events fs) (fields_tokens fs)
  fields_few no_field = omega arith
  fields_few (a_field n k v fs) =
      let ts = name_token n ∷ of colon k ∷ value_tokens v in
      few_append (node 10 ts (name_events (name_token n) ++ (token_event (of colon k) ∷ value_events v))) (fields_events fs) ts (fields_tokens fs)
      (few_named 10 (name_token n) (of colon k) (value_tokens v) ts (value_events v) (value_few v)) (fields_few fs)

mutual
  -- a type's events number at most five for each of its tokens
  pub ty_few : (t : Ty) → Few (ty_events t) (ty_tokens t)
  ty_few (nullable b) = base_few b
  ty_few (non_null b s) =
      let h = base_few b in
      omega (arith, node_length 14 (base_tokens b ++ (of bang s ∷ [])) (base_events b ++ (token_event (of bang s) ∷ [])), length-append (base_events b) (token_event (of bang s) ∷ []), length-append (base_tokens b) (of bang s ∷ []))

  -- those of a type without its `!`
  pub base_few : (b : Base) → Few (base_events b) (base_tokens b)
  base_few (named_type n) = omega arith
  base_few (list_type l t r) = few_bracketed 13 (of bracket_l l) (of bracket_r r) (ty_tokens t) (base_tokens (list_type l t r)) (ty_events t) (ty_few t)

argument_few : (a : Argument) → Few (argument_events a) (argument_tokens a)
argument_few a = few_named 19 (name_token a.name) (of colon a.colon_at) (value_tokens a.value) (argument_tokens a) (value_events a.value) (value_few a.value)

arguments_few : (xs : Arguments) → Few (arguments_events xs) (arguments_tokens xs)
arguments_few (one_argument a) = argument_few a
arguments_few (more_arguments a xs) = few_append (argument_events a) (arguments_events xs) (argument_tokens a) (arguments_tokens xs) (argument_few a) (arguments_few xs)

opt_arguments_few : (xs : OptArguments) → Few (opt_arguments_events xs) (opt_arguments_tokens xs)
opt_arguments_few no_arguments = omega arith
opt_arguments_few (arguments l xs r) = few_bracketed 18 (of paren_l l) (of paren_r r) (arguments_tokens xs) (opt_arguments_tokens (arguments l xs r)) (arguments_events xs) (arguments_few xs)

-- a directive has two events to spare
directive_few : (d : Directive) → length (directive_events d) + 2 ≤ 5 * length (directive_tokens d)
directive_few d =
    let h = opt_arguments_few d.args in
    omega (arith, node_length 21 (directive_tokens d) (token_event (of at d.at_at) ∷ (name_events (name_token d.name) ++ opt_arguments_events d.args)))

directives_few : (ds : Directives) → length (directives_events ds) + 2 ≤ 5 * length (directives_tokens ds)
directives_few (one_directive d) = directive_few d
directives_few (more_directives d ds) =
    let h = directive_few d in
    let k = directives_few ds in
    omega (arith, length-append (directive_events d) (directives_events ds), length-append (directive_tokens d) (directives_tokens ds))

opt_directives_few : (ds : OptDirectives) → Few (opt_directives_events ds) (opt_directives_tokens ds)
opt_directives_few no_directives = omega arith
opt_directives_few (directives ds) = let h = directives_few ds in omega (arith, node_length 20 (directives_tokens ds) (directives_events ds))

alias_few : (a : OptAlias) → Few (alias_events a) (alias_tokens a)
alias_few no_alias = omega arith
alias_few (alias n c) = omega arith

condition_few : (c : OptCondition) → Few (condition_events c) (condition_tokens c)
condition_few no_condition = omega arith
condition_few (condition o n) = omega arith

mutual
  -- a selection set's events number at most five for each of its tokens
  pub set_few : (s : SelectionSet) → Few (set_events s) (set_tokens s)
  set_few (selection_set l ss r) = few_bracketed 15 (of brace_l l) (of brace_r r) (selections_tokens ss) (set_tokens (selection_set l ss r)) (selections_events ss) (selections_few ss)

  -- those of some selections
  pub selections_few : (ss : Selections) → Few (selections_events ss) (selections_tokens ss)
  selections_few (one_selection s) = selection_few s
  selections_few (more_selections s ss) = few_append (selection_events s) (selections_events ss) (selection_tokens s) (selections_tokens ss) (selection_few s) (selections_few ss)

  -- those of a selection
  pub selection_few : (s : Selection) → Few (selection_events s) (selection_tokens s)
  selection_few (field a n xs ds s) =
      let us = opt_arguments_tokens xs ++ (opt_directives_tokens ds ++ opt_set_tokens s) in
      let es = opt_arguments_events xs ++ (opt_directives_events ds ++ opt_set_events s) in
      let h : Few es us =
      few_append (opt_arguments_events xs) (opt_directives_events ds ++ opt_set_events s) (opt_arguments_tokens xs) (opt_directives_tokens ds ++ opt_set_tokens s) (opt_arguments_few xs)
      (few_append (opt_directives_events ds) (opt_set_events s) (opt_directives_tokens ds) (opt_set_tokens s) (opt_directives_few ds) (opt_set_few s)) in
      let k = alias_few a in
      omega (arith, node_length 16 (alias_tokens a ++ (name_token n ∷ us)) (alias_events a ++ (name_events (name_token n) ++ es)), length-append (alias_events a) (name_events (name_token n) ++ es), length-append (alias_tokens a) (name_token n ∷ us))
  selection_few (fragment_spread d w n ds) =
      let h = opt_directives_few ds in
      let t = of (fragment_kind w) n in
      omega (arith, node_length 22 (selection_tokens (fragment_spread d w n ds)) (token_event (of dots d) ∷ (node 23 (t ∷ []) (name_events t) ++ opt_directives_events ds)))
  selection_few (inline_fragment d c ds s) =
      let us = opt_directives_tokens ds ++ set_tokens s in
      let es = opt_directives_events ds ++ set_events s in
      let h : Few (condition_events c ++ es) (condition_tokens c ++ us) =
      few_append (condition_events c) es (condition_tokens c) us (condition_few c) (few_append (opt_directives_events ds) (set_events s) (opt_directives_tokens ds) (set_tokens s) (opt_directives_few ds) (set_few s)) in
      omega (arith, node_length 24 (of dots d ∷ (condition_tokens c ++ us)) (token_event (of dots d) ∷ (condition_events c ++ es)))

  -- those of a selection set, or none
  pub opt_set_few : (s : OptSelectionSet) → Few (opt_set_events s) (opt_set_tokens s)
  opt_set_few no_selection_set = omega arith
  opt_set_few (some_selection_set s) = set_few s

-- at most 16,777,217 tokens give fewer than 2 ^ 28 events
pub few_fits : (es : List Item) (ts : List Token) → Few es ts → length ts ≤ 16777217 → length es < 2 ^ 28
few_fits es ts h k = omega arith
