-- A value's tokens within the depth limit are read, with the value's events. Assumes nothing.
use Prim.Native.Nat.{ℕ, zero, suc, ◌≤◌}
use native.Mathlib.Omega.{arith}
use mathlib.Core.Path.{◌≡◌, refl, sym, ap, ◌∙◌}
use mathlib.Core.Bool.{Bool, true, false}
use mathlib.Core.List.{List, [], ◌∷◌, ◌++◌, append_assoc, append-nil}
use Rattle.base.specs.Item.{Item}
use Rattle.syntax.specs.Token.{eof, dollar, colon, bracket_l, bracket_r, brace_l, brace_r, string, int, float, word_true, word_false, word_null, is_name, is_enum, Token, end_of, token_event, opens, closes, name_events}
use Rattle.syntax.specs.Grammar.{Span, of, Name, name_token, EnumWord, enum_kind, last_end, Value, variable, int_value, float_value, string_value, true_value, false_value, null_value, enum_value, list_value, object_value, Values, no_value, a_value, Fields, no_field, a_field, value_tokens, values_tokens, fields_tokens, value_events, values_events, fields_events, value_depth, values_depth, fields_depth}
use Rattle.syntax.specs.Machine.{Sym, value, deeper, items, fields, name, colon_due, close, at_value, at_items, at_fields, at_name, at_colon, step, Read, accepted, emits, run, read_value, read_constant}
use Rattle.syntax.proofs.Steps.{emits_emits, run_close, Some, some_last, by_word, join, bracketed}

-- a name is read where one is due
pub name_read : (c : Bool) (n : Name) (K : List Sym) (l : ℕ) (ts : List Token)
    → run c (name ∷ K) l (name_token n ∷ ts) ≡ emits (name_events (name_token n)) (run c K (end_of (name_token n)) ts)
unfolding run step at_name is_name
name_read c n K l ts =
    by_word (λ (k : ℕ). run c (name ∷ K) l (of k n.span ∷ ts) ≡ emits (name_events (of k n.span)) (run c K (end_of (of k n.span)) ts))
    refl refl refl refl refl n.word

-- a field's name
field_name : (c : Bool) (n : Name) (r s : ℕ) (K : List Sym) (l : ℕ) (ts : List Token)
    → run c (fields r s ∷ K) l (name_token n ∷ ts)
    ≡ emits (opens 10 n.span.start ∷ name_events (name_token n)) (run c (colon_due ∷ deeper r ∷ close 10 n.span.start ∷ fields r s ∷ K) (end_of (name_token n)) ts)
unfolding run step at_fields is_name
field_name c n r s K l ts =
    by_word (λ (k : ℕ). run c (fields r s ∷ K) l (of k n.span ∷ ts)
    ≡ emits (opens 10 n.span.start ∷ name_events (of k n.span)) (run c (colon_due ∷ deeper r ∷ close 10 n.span.start ∷ fields r s ∷ K) (end_of (of k n.span)) ts))
    refl refl refl refl refl n.word

-- an item of a list is read as a value, one level deeper
as_item : {c : Bool} (v : Value c) (r s : ℕ) (K : List Sym) (l : ℕ) (ts : List Token)
    → run c (items (suc r) s ∷ K) l (value_tokens v ++ ts) ≡ run c (value r ∷ items (suc r) s ∷ K) l (value_tokens v ++ ts)
unfolding run step at_items
as_item (variable d n) r s K l ts = refl
as_item (int_value a) r s K l ts = refl
as_item (float_value a) r s K l ts = refl
as_item (string_value a) r s K l ts = refl
as_item (true_value a) r s K l ts = refl
as_item (false_value a) r s K l ts = refl
as_item (null_value a) r s K l ts = refl
as_item (enum_value EnumWord.other a) r s K l ts = refl
as_item (enum_value EnumWord.is_on a) r s K l ts = refl
as_item (list_value a vs b) r s K l ts = refl
as_item (object_value a fs b) r s K l ts = refl

-- an object field's value is read as a value, one level deeper
as_deeper : (c : Bool) (r : ℕ) (K : List Sym) (l : ℕ) (ts : List Token) → run c (deeper (suc r) ∷ K) l ts ≡ run c (value r ∷ K) l ts
unfolding run step
as_deeper c r K l [] = refl
as_deeper c r K l (t ∷ ts) = refl

-- a value has some token
pub value_some : {c : Bool} (v : Value c) → Some (value_tokens v)
value_some (variable d n) = (of dollar d, name_token n ∷ [], refl)
value_some (int_value a) = (of int a, [], refl)
value_some (float_value a) = (of float a, [], refl)
value_some (string_value a) = (of string a, [], refl)
value_some (true_value a) = (of word_true a, [], refl)
value_some (false_value a) = (of word_false a, [], refl)
value_some (null_value a) = (of word_null a, [], refl)
value_some (enum_value w a) = (of (enum_kind w) a, [], refl)
value_some (list_value a vs b) = (of bracket_l a, values_tokens vs ++ (of bracket_r b ∷ []), refl)
value_some (object_value a fs b) = (of brace_l a, fields_tokens fs ++ (of brace_r b ∷ []), refl)

mutual
  unfolding run step at_value at_items at_fields at_colon is_enum

  -- whatever is due below, a value's tokens give its events and leave that due
  pub value_read : {c : Bool} (v : Value c) (r : ℕ) (K : List Sym) (l : ℕ) (ts : List Token) → value_depth v ≤ r
      → run c (value r ∷ K) l (value_tokens v ++ ts) ≡ emits (value_events v) (run c K (last_end (value_tokens v)) ts)
  value_read (variable d n) r K l ts h =
      ap (emits (opens 11 d.start ∷ token_event (of dollar d) ∷ [])) (name_read false n (close 11 d.start ∷ K) (end_of (of dollar d)) ts ∙ ap (emits (name_events (name_token n))) (run_close false 11 d.start (end_of (name_token n)) K ts))
      ∙ simp emits_emits
  value_read (int_value a) r K l ts h = refl
  value_read (float_value a) r K l ts h = refl
  value_read (string_value a) r K l ts h = refl
  value_read (true_value a) r K l ts h = refl
  value_read (false_value a) r K l ts h = refl
  value_read (null_value a) r K l ts h = refl
  value_read (enum_value EnumWord.other a) r K l ts h = refl
  value_read (enum_value EnumWord.is_on a) r K l ts h = refl
  value_read (list_value a vs b) r K l ts h = rw (append_assoc (values_tokens vs) (of bracket_r b ∷ []) ts) (ap (emits (opens 8 a.start ∷ token_event (of bracket_l a) ∷ [])) (values_read vs r a.start K (end_of (of bracket_l a)) b ts h)
      ∙ bracketed _ 8 (of bracket_l a) (of bracket_r b) (values_tokens vs) ts (values_events vs) K)
  value_read (object_value a fs b) r K l ts h = rw (append_assoc (fields_tokens fs) (of brace_r b ∷ []) ts) (ap (emits (opens 9 a.start ∷ token_event (of brace_l a) ∷ [])) (fields_read fs r a.start K (end_of (of brace_l a)) b ts h)
      ∙ bracketed _ 9 (of brace_l a) (of brace_r b) (fields_tokens fs) ts (fields_events fs) K)

  -- a list's further items and its `]`
  pub values_read : {c : Bool} (vs : Values c) (r s : ℕ) (K : List Sym) (l : ℕ) (b : Span) (ts : List Token) → values_depth vs ≤ r
      → run c (items r s ∷ K) l (values_tokens vs ++ (of bracket_r b ∷ ts)) ≡ emits (values_events vs ++ (token_event (of bracket_r b) ∷ closes 8 s (end_of (of bracket_r b)) ∷ [])) (run c K (end_of (of bracket_r b)) ts)
  values_read no_value r s K l b ts h = refl
  values_read (a_value v vs) zero s K l b ts h = absurd (omega arith)
  values_read (a_value v vs) (suc r) s K l b ts h =
      rw (append_assoc (value_tokens v) (values_tokens vs) (of bracket_r b ∷ ts))
      (as_item v r s K l (values_tokens vs ++ (of bracket_r b ∷ ts))
      ∙ value_read v r (items (suc r) s ∷ K) l (values_tokens vs ++ (of bracket_r b ∷ ts)) (omega arith)
      ∙ ap (emits (value_events v)) (values_read vs (suc r) s K (last_end (value_tokens v)) b ts (omega arith))
      ∙ simp (emits_emits, append_assoc))

  -- an object's further fields and its `}`
  pub fields_read : {c : Bool} (fs : Fields c) (r s : ℕ) (K : List Sym) (l : ℕ) (b : Span) (ts : List Token) → fields_depth fs ≤ r
      → run c (fields r s ∷ K) l (fields_tokens fs ++ (of brace_r b ∷ ts)) ≡ emits (fields_events fs ++ (token_event (of brace_r b) ∷ closes 9 s (end_of (of brace_r b)) ∷ [])) (run c K (end_of (of brace_r b)) ts)
  fields_read {c} no_field r s K l b ts h = refl
  fields_read {c} (a_field n k v fs) zero s K l b ts h = absurd (omega arith)
  fields_read {c} (a_field n k v fs) (suc r) s K l b ts h =
      rw (append_assoc (value_tokens v) (fields_tokens fs) (of brace_r b ∷ ts), some_last (of colon k) (value_tokens v) (value_some v))
      (field_name _ n (suc r) s K l (of colon k ∷ (value_tokens v ++ (fields_tokens fs ++ (of brace_r b ∷ ts))))
      ∙ ap (λ (a : Read). emits (opens 10 n.span.start ∷ name_events (name_token n)) (emits (token_event (of colon k) ∷ []) a))
      (as_deeper _ r (close 10 n.span.start ∷ fields (suc r) s ∷ K) (end_of (of colon k)) (value_tokens v ++ (fields_tokens fs ++ (of brace_r b ∷ ts)))
      ∙ value_read v r (close 10 n.span.start ∷ fields (suc r) s ∷ K) (end_of (of colon k)) (fields_tokens fs ++ (of brace_r b ∷ ts)) (omega arith)
      ∙ ap (emits (value_events v)) (run_close _ 10 n.span.start (last_end (value_tokens v)) (fields (suc r) s ∷ K) (fields_tokens fs ++ (of brace_r b ∷ ts))
      ∙ ap (emits (closes 10 n.span.start (last_end (value_tokens v)) ∷ [])) (fields_read fs (suc r) s K (last_end (value_tokens v)) b ts (omega arith))))
      ∙ simp emits_emits
      (ap (λ (gs : List Item). emits (opens 10 n.span.start ∷ (name_events (name_token n) ++ (token_event (of colon k) ∷ gs))) (run c K (end_of (of brace_r b)) ts))
      (sym (join (value_events v) (closes 10 n.span.start (last_end (value_tokens v)) ∷ []) (fields_events fs) (token_event (of brace_r b) ∷ closes 9 s (end_of (of brace_r b)) ∷ [])))))

-- at Eof nothing more is due
pub eof_read : (c : Bool) (l : ℕ) (e : Token) (ts : List Token) → e.kind ≡ eof → run c [] l (e ∷ ts) ≡ accepted []
unfolding run step
eof_read c l e ts k = rw k

-- a value of either constness within the limit, then Eof, is accepted, with the value's events
pub value_accepted : {c : Bool} (d : ℕ) (v : Value c) (e : Token) (ts : List Token) → value_depth v ≤ d → e.kind ≡ eof → run c (value d ∷ []) 0 (value_tokens v ++ (e ∷ ts)) ≡ accepted (value_events v)
value_accepted {c} d v e ts h k =
    value_read v d [] 0 (e ∷ ts) h ∙ ap (emits (value_events v)) (eof_read c (last_end (value_tokens v)) e ts k) ∙ ap accepted (append-nil (value_events v))

-- a value
pub value_complete : (d : ℕ) (v : Value false) (e : Token) (ts : List Token) → value_depth v ≤ d → e.kind ≡ eof → read_value d (value_tokens v ++ (e ∷ ts)) ≡ accepted (value_events v)
value_complete d v e ts h k = value_accepted d v e ts h k

-- a constant value
pub constant_complete : (d : ℕ) (v : Value true) (e : Token) (ts : List Token) → value_depth v ≤ d → e.kind ≡ eof → read_constant d (value_tokens v ++ (e ∷ ts)) ≡ accepted (value_events v)
constant_complete d v e ts h k = value_accepted d v e ts h k
