-- A constant value is a value: the same tokens, the same events, the same depth. Assumes nothing.
use Prim.Native.Nat.{ℕ, suc, max}
use mathlib.Core.Path.{◌≡◌, refl, ap, ap₂}
use mathlib.Core.Bool.{Bool, false}
use mathlib.Core.List.{List, [], ◌∷◌, ◌++◌}
use Rattle.base.specs.Item.{Item}
use Rattle.syntax.specs.Token.{colon, bracket_l, bracket_r, brace_l, brace_r, Token, token_event, name_events}
use Rattle.syntax.specs.Grammar.{of, name_token, node, Value, variable, int_value, float_value, string_value, true_value, false_value, null_value, enum_value, list_value, object_value, Values, no_value, a_value, Fields, no_field, a_field, value_tokens, values_tokens, fields_tokens, value_events, values_events, fields_events, value_depth, values_depth, fields_depth}

abbrev mutual
  -- a value of either constness as a value
  pub loosen : {c : Bool} → Value c → Value false
  loosen (variable d n) = variable d n
  loosen (int_value s) = int_value s
  loosen (float_value s) = float_value s
  loosen (string_value s) = string_value s
  loosen (true_value s) = true_value s
  loosen (false_value s) = false_value s
  loosen (null_value s) = null_value s
  loosen (enum_value w s) = enum_value w s
  loosen (list_value l vs r) = list_value l (loosens vs) r
  loosen (object_value l fs r) = object_value l (loosen_fields fs) r

  -- a list's items
  pub loosens : {c : Bool} → Values c → Values false
  loosens no_value = no_value
  loosens (a_value v vs) = a_value (loosen v) (loosens vs)

  -- an object's fields
  pub loosen_fields : {c : Bool} → Fields c → Fields false
  loosen_fields no_field = no_field
  loosen_fields (a_field n k v fs) = a_field n k (loosen v) (loosen_fields fs)

mutual
  -- the same tokens
  pub loosen_tokens : {c : Bool} (v : Value c) → value_tokens (loosen v) ≡ value_tokens v
  loosen_tokens (variable d n) = refl
  loosen_tokens (int_value s) = refl
  loosen_tokens (float_value s) = refl
  loosen_tokens (string_value s) = refl
  loosen_tokens (true_value s) = refl
  loosen_tokens (false_value s) = refl
  loosen_tokens (null_value s) = refl
  loosen_tokens (enum_value w s) = refl
  loosen_tokens (list_value l vs r) = ap (λ (ts : List Token). of bracket_l l ∷ (ts ++ (of bracket_r r ∷ []))) (loosens_tokens vs)
  loosen_tokens (object_value l fs r) = ap (λ (ts : List Token). of brace_l l ∷ (ts ++ (of brace_r r ∷ []))) (loosen_fields_tokens fs)

  loosens_tokens : {c : Bool} (vs : Values c) → values_tokens (loosens vs) ≡ values_tokens vs
  loosens_tokens no_value = refl
  loosens_tokens (a_value v vs) = ap₂ (λ (ts us : List Token). ts ++ us) (loosen_tokens v) (loosens_tokens vs)

  loosen_fields_tokens : {c : Bool} (fs : Fields c) → fields_tokens (loosen_fields fs) ≡ fields_tokens fs
  loosen_fields_tokens no_field = refl
  loosen_fields_tokens (a_field n k v fs) = ap₂ (λ (ts us : List Token). name_token n ∷ of colon k ∷ (ts ++ us)) (loosen_tokens v) (loosen_fields_tokens fs)

mutual
  -- the same events
  pub loosen_events : {c : Bool} (v : Value c) → value_events (loosen v) ≡ value_events v
  loosen_events (variable d n) = refl
  loosen_events (int_value s) = refl
  loosen_events (float_value s) = refl
  loosen_events (string_value s) = refl
  loosen_events (true_value s) = refl
  loosen_events (false_value s) = refl
  loosen_events (null_value s) = refl
  loosen_events (enum_value w s) = refl
  loosen_events (list_value l vs r) =
      ap₂ (λ (ts : List Token) (es : List Item). node 8 (of bracket_l l ∷ (ts ++ (of bracket_r r ∷ []))) (token_event (of bracket_l l) ∷ (es ++ (token_event (of bracket_r r) ∷ []))))
      (loosens_tokens vs) (loosens_events vs)
  loosen_events (object_value l fs r) =
      ap₂ (λ (ts : List Token) (es : List Item). node 9 (of brace_l l ∷ (ts ++ (of brace_r r ∷ []))) (token_event (of brace_l l) ∷ (es ++ (token_event (of brace_r r) ∷ []))))
      (loosen_fields_tokens fs) (loosen_fields_events fs)

  loosens_events : {c : Bool} (vs : Values c) → values_events (loosens vs) ≡ values_events vs
  loosens_events no_value = refl
  loosens_events (a_value v vs) = ap₂ (λ (es fs : List Item). es ++ fs) (loosen_events v) (loosens_events vs)

  loosen_fields_events : {c : Bool} (fs : Fields c) → fields_events (loosen_fields fs) ≡ fields_events fs
  loosen_fields_events no_field = refl
  loosen_fields_events (a_field n k v fs) =
      rw (loosen_tokens v) (ap₂ (λ (es gs : List Item). node 10 (name_token n ∷ of colon k ∷ value_tokens v) (name_events (name_token n) ++ (token_event (of colon k) ∷ es)) ++ gs)
      (loosen_events v) (loosen_fields_events fs))

mutual
  -- the same depth
  pub loosen_depth : {c : Bool} (v : Value c) → value_depth (loosen v) ≡ value_depth v
  loosen_depth (variable d n) = refl
  loosen_depth (int_value s) = refl
  loosen_depth (float_value s) = refl
  loosen_depth (string_value s) = refl
  loosen_depth (true_value s) = refl
  loosen_depth (false_value s) = refl
  loosen_depth (null_value s) = refl
  loosen_depth (enum_value w s) = refl
  loosen_depth (list_value l vs r) = loosens_depth vs
  loosen_depth (object_value l fs r) = loosen_fields_depth fs

  loosens_depth : {c : Bool} (vs : Values c) → values_depth (loosens vs) ≡ values_depth vs
  loosens_depth no_value = refl
  loosens_depth (a_value v vs) = ap₂ (λ (m n : ℕ). max (suc m) n) (loosen_depth v) (loosens_depth vs)

  loosen_fields_depth : {c : Bool} (fs : Fields c) → fields_depth (loosen_fields fs) ≡ fields_depth fs
  loosen_fields_depth no_field = refl
  loosen_fields_depth (a_field n k v fs) = ap₂ (λ (m n : ℕ). max (suc m) n) (loosen_depth v) (loosen_fields_depth fs)
