-- A tree's tokens may stand elsewhere: to tokens of the same kinds there is a tree that has them, as deep, with events of the same codes.
-- Assumes nothing.
use Prim.Native.Nat.{ℕ, suc}
use mathlib.Core.Path.{◌≡◌, refl, sym, ap, ap₂, ◌∙◌}
use mathlib.Core.Bool.{Bool}
use mathlib.Core.List.{List, [], ◌∷◌, ◌++◌, map-append}
use Rattle.base.specs.Item.{Item}
use Rattle.syntax.specs.Token.{dollar, colon, bang, bracket_l, bracket_r, brace_l, brace_r, string, int, float, word_true, word_false, word_null, Token, token}
use Rattle.syntax.specs.Types.{Ty, nullable, non_null, Base, named_type, list_type, ty_tokens, base_tokens, ty_events, base_events, ty_depth, base_depth}
use Rattle.syntax.specs.Grammar.{Span, of, kind_of, enum_kind, Value, variable, int_value, float_value, string_value, true_value, false_value, null_value, enum_value, list_value, object_value, Values, no_value, a_value, Fields, no_field, a_field, value_tokens, values_tokens, fields_tokens, value_events, values_events, fields_events, value_depth, values_depth, fields_depth}
use Rattle.syntax.specs.Written.{codes}

-- tokens of the same kinds, one by one
abbrev pub Like : List Token → List Token → Type 0
Like [] [] = Unit {0}
Like [] (t ∷ ts) = ⊥
Like (u ∷ us) [] = ⊥
Like (u ∷ us) (t ∷ ts) = (u.kind ≡ t.kind) × Like us ts

-- events of the same codes
pub record Alike (es fs : List Item) : Type 0 where
  pub same : codes es ≡ codes fs

pub told : {es fs : List Item} → codes es ≡ codes fs → Alike es fs
told e = record { same = e }

pub next : {x y : Item} {es fs : List Item} → x.code ≡ y.code → Alike es fs → Alike (x ∷ es) (y ∷ fs)
next e a = told (ap₂ (λ (c : ℕ) (cs : List ℕ). c ∷ cs) e a.same)

pub then : {a b es fs : List Item} → Alike a b → Alike es fs → Alike (a ++ es) (b ++ fs)
then {a} {b} {es} {fs} p q = told (map-append (λ (x : Item). x.code) a es ∙ ap₂ (λ (x y : List ℕ). x ++ y) p.same q.same ∙ sym (map-append (λ (x : Item). x.code) b fs))

-- a tree like x with the tokens us
pub record Twin {A : Type 0} (tokens_of : A → List Token) (events_of : A → List Item) (depth_of : A → ℕ) (x : A) (us : List Token) : Type 0 where
  pub to : A
  pub tokens : tokens_of to ≡ us
  pub events : Alike (events_of to) (events_of x)
  pub depth : depth_of to ≡ depth_of x

-- the tokens of two parts, one after the other
pub record Split (us a b : List Token) : Type 0 where
  pub left : List Token
  pub right : List Token
  pub whole : left ++ right ≡ us
  pub first : Like left a
  pub second : Like right b

pub split : (us a b : List Token) → Like us (a ++ b) → Split us a b
split us [] b h = record { left = []; right = us; whole = refl; first = tt; second = h }
split [] (t ∷ a) b h = absurd h
split (u ∷ us) (t ∷ a) b h =
    let p = split us a b h.1 in
    record { left = u ∷ p.left; right = p.right; whole = ap (λ (ts : List Token). u ∷ ts) p.whole; first = (h.0, p.first); second = p.second }

-- a token where another of its kind stands
abbrev span_of : Token → Span
span_of u = record { start = u.start; size = u.size }

-- the first of them is of kind k
pub record Opened (us : List Token) (k : ℕ) (ts : List Token) : Type 0 where
  pub span : Span
  pub rest : List Token
  pub whole : of k span ∷ rest ≡ us
  pub like : Like rest ts

pub opened : (us : List Token) (k : ℕ) (s : Span) (ts : List Token) → Like us (of k s ∷ ts) → Opened us k ts
opened [] k s ts h = absurd h
opened (u ∷ us) k s ts h =
    record { span = span_of u; rest = us; whole = ap (λ (j : ℕ). token j u.start u.size ∷ us) (sym h.0); like = h.1 }

-- the only one is
pub record Lone (us : List Token) (k : ℕ) : Type 0 where
  pub span : Span
  pub whole : of k span ∷ [] ≡ us

pub none_left : (us : List Token) → Like us [] → us ≡ []
none_left [] h = refl
none_left (u ∷ us) h = absurd h

pub lone : (us : List Token) (k : ℕ) (s : Span) → Like us (of k s ∷ []) → Lone us k
lone us k s h =
    let o = opened us k s [] h in
    record { span = o.span; whole = rw (none_left o.rest o.like) at o.whole }

-- the last of them is
pub record Closed (us a : List Token) (k : ℕ) : Type 0 where
  pub span : Span
  pub left : List Token
  pub whole : left ++ (of k span ∷ []) ≡ us
  pub like : Like left a

pub closed : (us a : List Token) (k : ℕ) (s : Span) → Like us (a ++ (of k s ∷ [])) → Closed us a k
closed us a k s h =
    let p = split us a (of k s ∷ []) h in
    let o = lone p.right k s p.second in
    record { span = o.span; left = p.left; whole = rw o.whole p.whole; like = p.first }

-- ---- values

abbrev ValueTwin : {c : Bool} → Value c → List Token → Type 0
ValueTwin {c} v us = Twin {A = Value c} value_tokens value_events value_depth v us

leaf_twin : {c : Bool} (k : ℕ) (make : Span → Value c) (s : Span) → ((z : Span) → value_tokens (make z) ≡ of k z ∷ [])
    → ((z : Span) → Alike (value_events (make z)) (value_events (make s))) → ((z : Span) → value_depth (make z) ≡ 0)
    → (us : List Token) → Like us (of k s ∷ []) → ValueTwin (make s) us
leaf_twin k make s t e d us h =
    let o = lone us k s h in
    record { to = make o.span; tokens = t o.span ∙ o.whole; events = e o.span; depth = d o.span ∙ sym (d s) }

mutual
  pub value_twin : {c : Bool} (v : Value c) (us : List Token) → Like us (value_tokens v) → ValueTwin v us
  value_twin (variable d n) us h =
      let o = opened us dollar d _ h in
      let m = lone o.rest (kind_of n.word) n.span o.like in
      record {
        to = variable o.span (record { word = n.word; span = m.span });
        tokens = rw m.whole o.whole;
        events = told refl;
        depth = refl;
      }
  value_twin (int_value s) us h = leaf_twin int int_value s (λ z. refl) (λ z. told refl) (λ z. refl) us h
  value_twin (float_value s) us h = leaf_twin float float_value s (λ z. refl) (λ z. told refl) (λ z. refl) us h
  value_twin (string_value s) us h = leaf_twin string string_value s (λ z. refl) (λ z. told refl) (λ z. refl) us h
  value_twin (true_value s) us h = leaf_twin word_true true_value s (λ z. refl) (λ z. told refl) (λ z. refl) us h
  value_twin (false_value s) us h = leaf_twin word_false false_value s (λ z. refl) (λ z. told refl) (λ z. refl) us h
  value_twin (null_value s) us h = leaf_twin word_null null_value s (λ z. refl) (λ z. told refl) (λ z. refl) us h
  value_twin (enum_value w s) us h = leaf_twin (enum_kind w) (enum_value w) s (λ z. refl) (λ z. told refl) (λ z. refl) us h
  value_twin (list_value l vs r) us h =
      let o = opened us bracket_l l (values_tokens vs ++ (of bracket_r r ∷ [])) h in
      let c = closed o.rest (values_tokens vs) bracket_r r o.like in
      let t = values_twin vs c.left c.like in
      record {
        to = list_value o.span t.to c.span;
        tokens = rw (t.tokens, c.whole) o.whole;
        events = next refl (then (next refl (then t.events (told refl))) (told refl));
        depth = t.depth;
      }
  value_twin (object_value l fs r) us h =
      let o = opened us brace_l l (fields_tokens fs ++ (of brace_r r ∷ [])) h in
      let c = closed o.rest (fields_tokens fs) brace_r r o.like in
      let t = fields_twin fs c.left c.like in
      record {
        to = object_value o.span t.to c.span;
        tokens = rw (t.tokens, c.whole) o.whole;
        events = next refl (then (next refl (then t.events (told refl))) (told refl));
        depth = t.depth;
      }

  values_twin : {c : Bool} (vs : Values c) (us : List Token) → Like us (values_tokens vs) → Twin {A = Values c} values_tokens values_events values_depth vs us
  values_twin no_value us h = record { to = no_value; tokens = sym (none_left us h); events = told refl; depth = refl }
  values_twin (a_value v vs) us h =
      let p = split us (value_tokens v) (values_tokens vs) h in
      let a = value_twin v p.left p.first in
      let b = values_twin vs p.right p.second in
      record {
        to = a_value a.to b.to;
        tokens = rw (a.tokens, b.tokens) p.whole;
        events = then a.events b.events;
        depth = rw (a.depth, b.depth);
      }

  fields_twin : {c : Bool} (fs : Fields c) (us : List Token) → Like us (fields_tokens fs) → Twin {A = Fields c} fields_tokens fields_events fields_depth fs us
  fields_twin no_field us h = record { to = no_field; tokens = sym (none_left us h); events = told refl; depth = refl }
  fields_twin (a_field n k v fs) us h =
      let m = opened us (kind_of n.word) n.span (of colon k ∷ (value_tokens v ++ fields_tokens fs)) h in
      let c = opened m.rest colon k (value_tokens v ++ fields_tokens fs) m.like in
      let p = split c.rest (value_tokens v) (fields_tokens fs) c.like in
      let a = value_twin v p.left p.first in
      let b = fields_twin fs p.right p.second in
      record {
        to = a_field (record { word = n.word; span = m.span }) c.span a.to b.to;
        tokens = rw (a.tokens, b.tokens, p.whole, c.whole) m.whole;
        events = then (next refl (then (next refl (next refl (next refl (next refl a.events)))) (told refl))) b.events;
        depth = rw (a.depth, b.depth);
      }

-- ---- types

mutual
  pub ty_twin : (t : Ty) (us : List Token) → Like us (ty_tokens t) → Twin {A = Ty} ty_tokens ty_events ty_depth t us
  ty_twin (nullable b) us h =
      let t = base_twin b us h in
      record { to = nullable t.to; tokens = t.tokens; events = t.events; depth = t.depth }
  ty_twin (non_null b s) us h =
      let c = closed us (base_tokens b) bang s h in
      let t = base_twin b c.left c.like in
      record {
        to = non_null t.to c.span;
        tokens = rw t.tokens c.whole;
        events = next refl (then (then t.events (told refl)) (told refl));
        depth = t.depth;
      }

  base_twin : (b : Base) (us : List Token) → Like us (base_tokens b) → Twin {A = Base} base_tokens base_events base_depth b us
  base_twin (named_type n) us h =
      let m = lone us (kind_of n.word) n.span h in
      record { to = named_type (record { word = n.word; span = m.span }); tokens = m.whole; events = told refl; depth = refl }
  base_twin (list_type l t r) us h =
      let o = opened us bracket_l l (ty_tokens t ++ (of bracket_r r ∷ [])) h in
      let c = closed o.rest (ty_tokens t) bracket_r r o.like in
      let x = ty_twin t c.left c.like in
      record {
        to = list_type o.span x.to c.span;
        tokens = rw (x.tokens, c.whole) o.whole;
        events = next refl (then (next refl (then x.events (told refl))) (told refl));
        depth = ap suc x.depth;
      }
