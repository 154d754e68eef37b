-- The place of a refusal of a type: the tokens before it begin a type, and with the token there they begin none (9), or none within the limit (7).
-- Assumes nothing.
use Prim.Native.Nat.{ℕ, zero, suc, ◌≤◌, max}
use native.Mathlib.Omega.{arith}
use mathlib.Core.Path.{◌≡◌, refl, sym, ap, ap₂, ◌∙◌, subst}
use mathlib.Core.Bool.{Bool, true, false}
use mathlib.Core.Logic.{◌⊎◌, inl, inr}
use mathlib.Core.List.{List, [], ◌∷◌, ◌++◌, append_assoc, append-nil}
use lib.Dec.{eqb}
use borrow.Author.Tests.{eqb-true}
use Rattle.base.specs.Text.{pick}
use Rattle.base.specs.Item.{Item}
use Rattle.syntax.specs.Token.{eof, bang, bracket_l, bracket_r, is_name, Token, end_of, token_event, opens, closes, name_events}
use Rattle.syntax.specs.Grammar.{of, Word}
use Rattle.syntax.specs.Types.{Ty, nullable, non_null, Base, named_type, list_type, ty_tokens, base_tokens, ty_events, ty_depth}
use Rattle.syntax.specs.Machine.{refused, accepted}
use Rattle.syntax.specs.TypeReading.{TypeRead, typed, untyped, with_bang, with_bracket, type_at, whole_type, read_type}
use Rattle.syntax.proofs.Steps.{by_word}
use Rattle.syntax.proofs.Back.{is_kind}
use Rattle.syntax.proofs.TypeComplete.{Stops, type_read, type_complete}
use Rattle.syntax.proofs.TypeSound.{choose, ReadsType, type_sound}
use Rattle.syntax.proofs.Depth.{NotSeven, read_type_raised}
use Rattle.syntax.proofs.Refusals.{EndsEof, not_accepted}

-- ---- a type does not end in Eof

ends_snoc : (us : List Token) (t : Token) → EndsEof (us ++ (t ∷ [])) → t.kind ≡ eof
ends_snoc [] t h = h
ends_snoc (u ∷ []) t h = h
ends_snoc (u ∷ v ∷ us) t h = ends_snoc (v ∷ us) t h

base_no_eof : (b : Base) → EndsEof (base_tokens b) → ⊥
base_no_eof (named_type n) h = by_word (λ (k : ℕ). k ≡ eof → ⊥) (λ e. omega arith) (λ e. omega arith) (λ e. omega arith) (λ e. omega arith) (λ e. omega arith) n.word h
base_no_eof (list_type l t r) h = let e = ends_snoc (of bracket_l l ∷ ty_tokens t) (of bracket_r r) h in omega arith

type_no_eof : (t : Ty) → EndsEof (ty_tokens t) → ⊥
type_no_eof (nullable b) h = base_no_eof b h
type_no_eof (non_null b s) h = let e = ends_snoc (base_tokens b) (of bang s) h in omega arith

ends_tail : (us : List Token) (t : Token) (ts : List Token) → EndsEof (us ++ (t ∷ ts)) → EndsEof (t ∷ ts)
ends_tail [] t ts h = h
ends_tail (u ∷ []) t ts h = h
ends_tail (u ∷ v ∷ us) t ts h = ends_tail (v ∷ us) t ts h

-- ---- where a type is refused

-- the `[`s before the place, around what is read there
abbrev pub within : List Token → TypeRead → TypeRead
within [] x = x
within (b ∷ bs) x = with_bracket b (within bs x)

pub record TypeRefusal (r : ℕ) (ts : List Token) (n p : ℕ) : Type 0 where
  pub before : List Token
  pub here : Token
  pub after : List Token
  pub tokens : ts ≡ before ++ (here ∷ after)
  pub place : here.start ≡ p
  -- the refusal rests on the tokens up to its place alone
  pub alone : (ws : List Token) → type_at r (before ++ (here ∷ ws)) ≡ untyped n p
  -- the tokens before the place begin a type, with one level more at most
  pub tree : Ty
  pub deep : ty_depth tree ≤ suc r
  pub rest : List Token
  pub begins : ty_tokens tree ≡ before ++ rest
  -- a 7, and with one level more a type is read at the place, within the `[`s before it; or a 9
  pub number : ((n ≡ 7) × ((ws : List Token) → type_at (suc r) (before ++ ws) ≡ within before (type_at zero ws))) ⊎ (n ≡ 9)

abbrev any_type : Ty
any_type = nullable (named_type (record { word = Word.other; span = record { start = 0; size = 0 } }))

-- a name is never refused
name_typed : {A : Type 0} (s : ℕ) (es : List Item) (e : ℕ) (ts : List Token) (n p : ℕ) → with_bang s es e ts ≡ untyped n p → A
unfolding with_bang
name_typed s es e [] n p a = absurd (let z : ◌≡◌ {A = ℕ} 0 1 = cc in omega arith)
name_typed s es e (t ∷ ts) n p a = by_bang (eqb t.kind bang) a
  where
    by_bang : {A : Type 0} (b : Bool) → pick b (typed (opens 14 s ∷ (es ++ (token_event t ∷ closes 14 s (end_of t) ∷ []))) (end_of t) ts) (typed es e (t ∷ ts)) ≡ untyped n p → A
    by_bang true a = absurd (let z : ◌≡◌ {A = ℕ} 0 1 = cc in omega arith)
    by_bang false a = absurd (let z : ◌≡◌ {A = ℕ} 0 1 = cc in omega arith)

-- neither a name nor a `[`
first_refused : (r : ℕ) (t : Token) (ts : List Token) (n p : ℕ) → is_name t.kind ≡ false → eqb t.kind bracket_l ≡ false → untyped 9 t.start ≡ untyped n p → TypeRefusal r (t ∷ ts) n p
unfolding type_at
first_refused r t ts n p e f a =
    let q : 9 ≡ n = cc in
    let k : t.start ≡ p = cc in
    record {
      before = [];
      here = t;
      after = ts;
      tokens = refl;
      place = k;
      alone = λ ws. here_alone r ws ∙ a;
      tree = any_type;
      deep = omega arith;
      rest = ty_tokens any_type;
      begins = refl;
      number = inr (sym q);
    }
  where
    here_alone : (r : ℕ) (ws : List Token) → type_at r (t ∷ ws) ≡ untyped 9 t.start
    here_alone zero ws = rw (e, f)
    here_alone (suc r) ws = rw (e, f)

-- a `[` where no depth is left
depth_refused : (t u : Token) (ts : List Token) (n p : ℕ) → is_name t.kind ≡ false → eqb t.kind bracket_l ≡ true → untyped 7 u.start ≡ untyped n p → TypeRefusal zero (t ∷ u ∷ ts) n p
unfolding type_at
depth_refused t u ts n p e f a =
    let q : 7 ≡ n = cc in
    let k : u.start ≡ p = cc in
    let w = is_kind bracket_l t f in
    record {
      before = t ∷ [];
      here = u;
      after = ts;
      tokens = refl;
      place = k;
      alone = λ ws. rw (e, f) a;
      tree = nullable (list_type w.0 any_type w.0);
      deep = omega arith;
      rest = ty_tokens any_type ++ (of bracket_r w.0 ∷ []);
      begins = ap (λ (v : Token). v ∷ (ty_tokens any_type ++ (of bracket_r w.0 ∷ []))) (sym w.1);
      number = inl (sym q, λ ws. rw (e, f));
    }

-- whether a type ends is decided by the next token
still : (x : Ty) (t : Token) (ts ws : List Token) → Stops x (t ∷ ts) → Stops x (t ∷ ws)
still (nullable b) t ts ws m = m
still (non_null b s) t ts ws m = tt

-- after a `[`, within the depth
list_refused : (r : ℕ) (t u : Token) (us : List Token) (n p : ℕ) → is_name t.kind ≡ false → eqb t.kind bracket_l ≡ true → EndsEof (u ∷ us) → (x : TypeRead) → type_at r (u ∷ us) ≡ x
    → ((m q : ℕ) → x ≡ untyped m q → TypeRefusal r (u ∷ us) m q) → with_bracket t x ≡ untyped n p → TypeRefusal (suc r) (t ∷ u ∷ us) n p
unfolding type_at with_bracket
list_refused r t u us n p e f h (untyped m q) y ih a =
    let s = ih n p a in
    let w = is_kind bracket_l t f in
    let d : ty_depth s.tree ≤ suc r = s.deep in
    record {
      before = t ∷ s.before;
      here = s.here;
      after = s.after;
      tokens = ap (λ (vs : List Token). t ∷ vs) s.tokens;
      place = s.place;
      alone = λ ws. rw (e, f, s.alone ws);
      tree = nullable (list_type w.0 s.tree w.0);
      deep = omega arith;
      rest = s.rest ++ (of bracket_r w.0 ∷ []);
      begins = ap₂ (λ (v : Token) (vs : List Token). v ∷ vs) (sym w.1) (ap (λ (vs : List Token). vs ++ (of bracket_r w.0 ∷ [])) s.begins ∙ append_assoc s.before s.rest (of bracket_r w.0 ∷ []));
      number = more s.before s.number;
    }
  where
    more : (bs : List Token) → ((n ≡ 7) × ((ws : List Token) → type_at (suc r) (bs ++ ws) ≡ within bs (type_at zero ws))) ⊎ (n ≡ 9)
        → ((n ≡ 7) × ((ws : List Token) → type_at (suc (suc r)) (t ∷ (bs ++ ws)) ≡ with_bracket t (within bs (type_at zero ws)))) ⊎ (n ≡ 9)
    more bs (inl g) = inl (g.0, λ ws. rw (e, f) (ap (with_bracket t) (g.1 ws)))
    more bs (inr g) = inr g
list_refused r t u us n p e f h (typed es k []) y ih a =
    let s = type_sound r (u ∷ us) es k [] y in
    absurd (type_no_eof s.tree (subst EndsEof (s.tokens ∙ append-nil (ty_tokens s.tree)) h))
list_refused r t u us n p e f h (typed es k (v ∷ vs)) y ih a = by_bracket (eqb v.kind bracket_r) refl a
  where
    s : ReadsType r (u ∷ us) es k (v ∷ vs)
    s = type_sound r (u ∷ us) es k (v ∷ vs) y

    by_bracket : (b : Bool) → eqb v.kind bracket_r ≡ b
        → pick b (with_bang t.start (opens 13 t.start ∷ token_event t ∷ (es ++ (token_event v ∷ closes 13 t.start (end_of v) ∷ []))) (end_of v) vs) (untyped 9 v.start) ≡ untyped n p
        → TypeRefusal (suc r) (t ∷ u ∷ us) n p
    by_bracket true g a = name_typed t.start (opens 13 t.start ∷ token_event t ∷ (es ++ (token_event v ∷ closes 13 t.start (end_of v) ∷ []))) (end_of v) vs n p a
    by_bracket false g a =
        let q : 9 ≡ n = cc in
        let i : v.start ≡ p = cc in
        let w = is_kind bracket_l t f in
        let x = s.tree in
        let d : ty_depth x ≤ r = s.deep in
        record {
          before = t ∷ ty_tokens x;
          here = v;
          after = vs;
          tokens = ap (λ (ws : List Token). t ∷ ws) s.tokens;
          place = i;
          alone = λ ws. rw (e, f, type_read x r (v ∷ ws) s.deep (still x v vs ws s.ended), g) a;
          tree = nullable (list_type w.0 x w.0);
          deep = omega arith;
          rest = of bracket_r w.0 ∷ [];
          begins = ap (λ (z : Token). z ∷ (ty_tokens x ++ (of bracket_r w.0 ∷ []))) (sym w.1);
          number = inr (sym q);
        }

no_eof_bracket : {A : Type 0} (t : Token) → eqb t.kind bracket_l ≡ true → t.kind ≡ eof → A
no_eof_bracket t e h = let q = eqb-true t.kind bracket_l e in absurd (omega arith)

-- a type that is refused is refused at a token
pub type_refusal : (r : ℕ) (ts : List Token) (n p : ℕ) → EndsEof ts → type_at r ts ≡ untyped n p → TypeRefusal r ts n p
unfolding type_at
type_refusal r [] n p h a = absurd h
type_refusal zero (t ∷ []) n p h a =
    choose (is_name t.kind) (with_bang t.start (opens 12 t.start ∷ (name_events t ++ (closes 12 t.start (end_of t) ∷ []))) (end_of t) [])
    (pick (eqb t.kind bracket_l) (untyped 7 (end_of t)) (untyped 9 t.start)) (untyped n p)
    (λ e b. name_typed t.start (opens 12 t.start ∷ (name_events t ++ (closes 12 t.start (end_of t) ∷ []))) (end_of t) [] n p b)
    (λ e b. choose (eqb t.kind bracket_l) (untyped 7 (end_of t)) (untyped 9 t.start) (untyped n p)
    (λ f c. no_eof_bracket t f h)
    (λ f c. first_refused zero t [] n p e f c) b) a
type_refusal zero (t ∷ u ∷ ts) n p h a =
    choose (is_name t.kind) (with_bang t.start (opens 12 t.start ∷ (name_events t ++ (closes 12 t.start (end_of t) ∷ []))) (end_of t) (u ∷ ts))
    (pick (eqb t.kind bracket_l) (untyped 7 u.start) (untyped 9 t.start)) (untyped n p)
    (λ e b. name_typed t.start (opens 12 t.start ∷ (name_events t ++ (closes 12 t.start (end_of t) ∷ []))) (end_of t) (u ∷ ts) n p b)
    (λ e b. choose (eqb t.kind bracket_l) (untyped 7 u.start) (untyped 9 t.start) (untyped n p)
    (λ f c. depth_refused t u ts n p e f c)
    (λ f c. first_refused zero t (u ∷ ts) n p e f c) b) a
type_refusal (suc r) (t ∷ []) n p h a =
    choose (is_name t.kind) (with_bang t.start (opens 12 t.start ∷ (name_events t ++ (closes 12 t.start (end_of t) ∷ []))) (end_of t) [])
    (pick (eqb t.kind bracket_l) (with_bracket t (type_at r [])) (untyped 9 t.start)) (untyped n p)
    (λ e b. name_typed t.start (opens 12 t.start ∷ (name_events t ++ (closes 12 t.start (end_of t) ∷ []))) (end_of t) [] n p b)
    (λ e b. choose (eqb t.kind bracket_l) (with_bracket t (type_at r [])) (untyped 9 t.start) (untyped n p)
    (λ f c. no_eof_bracket t f h)
    (λ f c. first_refused (suc r) t [] n p e f c) b) a
type_refusal (suc r) (t ∷ u ∷ ts) n p h a =
    choose (is_name t.kind) (with_bang t.start (opens 12 t.start ∷ (name_events t ++ (closes 12 t.start (end_of t) ∷ []))) (end_of t) (u ∷ ts))
    (pick (eqb t.kind bracket_l) (with_bracket t (type_at r (u ∷ ts))) (untyped 9 t.start)) (untyped n p)
    (λ e b. name_typed t.start (opens 12 t.start ∷ (name_events t ++ (closes 12 t.start (end_of t) ∷ []))) (end_of t) (u ∷ ts) n p b)
    (λ e b. choose (eqb t.kind bracket_l) (with_bracket t (type_at r (u ∷ ts))) (untyped 9 t.start) (untyped n p)
    (λ f c. list_refused r t u ts n p e f h (type_at r (u ∷ ts)) refl (λ m q d. type_refusal r (u ∷ ts) m q h d) c)
    (λ f c. first_refused (suc r) t (u ∷ ts) n p e f c) b) a

-- ---- the entry

pub record ReadTypeRefusal (d : ℕ) (ts : List Token) (n p : ℕ) : Type 0 where
  pub before : List Token
  pub here : Token
  pub after : List Token
  pub tokens : ts ≡ before ++ (here ∷ after)
  pub place : here.start ≡ p
  -- the refusal rests on the tokens up to its place alone
  pub alone : (ws : List Token) → read_type d (before ++ (here ∷ ws)) ≡ refused n p
  -- the tokens before the place begin a type, with one level more at most
  pub tree : Ty
  pub deep : ty_depth tree ≤ suc d
  pub rest : List Token
  pub begins : ty_tokens tree ≡ before ++ rest
  -- a 7, and with one level more a type is read at the place, within the `[`s before it; or a 9
  pub number : ((n ≡ 7) × ((ws : List Token) → read_type (suc d) (before ++ ws) ≡ whole_type (within before (type_at zero ws)))) ⊎ (n ≡ 9)

whole_refusal : (d : ℕ) (ts : List Token) (n p : ℕ) → EndsEof ts → (x : TypeRead) → type_at d ts ≡ x → whole_type x ≡ refused n p → ReadTypeRefusal d ts n p
unfolding whole_type
whole_refusal d ts n p h (untyped m q) y a =
    let i : m ≡ n = cc in
    let j : q ≡ p = cc in
    let s = type_refusal d ts n p h (y ∙ ap₂ untyped i j) in
    record {
      before = s.before;
      here = s.here;
      after = s.after;
      tokens = s.tokens;
      place = s.place;
      alone = λ ws. ap whole_type (s.alone ws);
      tree = s.tree;
      deep = s.deep;
      rest = s.rest;
      begins = s.begins;
      number = whole s.before s.number;
    }
  where
    whole : (bs : List Token) → ((n ≡ 7) × ((ws : List Token) → type_at (suc d) (bs ++ ws) ≡ within bs (type_at zero ws))) ⊎ (n ≡ 9)
        → ((n ≡ 7) × ((ws : List Token) → read_type (suc d) (bs ++ ws) ≡ whole_type (within bs (type_at zero ws)))) ⊎ (n ≡ 9)
    whole bs (inl g) = inl (g.0, λ ws. ap whole_type (g.1 ws))
    whole bs (inr g) = inr g
whole_refusal d ts n p h (typed es k []) y a =
    let s = type_sound d ts es k [] y in
    absurd (type_no_eof s.tree (subst EndsEof (s.tokens ∙ append-nil (ty_tokens s.tree)) h))
whole_refusal d ts n p h (typed es k (v ∷ vs)) y a = by_eof (eqb v.kind eof) refl a
  where
    by_eof : (b : Bool) → eqb v.kind eof ≡ b → pick b (accepted es) (refused 9 v.start) ≡ refused n p → ReadTypeRefusal d ts n p
    by_eof true g a = absurd (let z : ◌≡◌ {A = ℕ} 0 1 = cc in omega arith)
    by_eof false g a =
        let s = type_sound d ts es k (v ∷ vs) y in
        let x = s.tree in
        let m : ty_depth x ≤ d = s.deep in
        let q : 9 ≡ n = cc in
        let i : v.start ≡ p = cc in
        record {
          before = ty_tokens x;
          here = v;
          after = vs;
          tokens = s.tokens;
          place = i;
          alone = λ ws. ap whole_type (type_read x d (v ∷ ws) s.deep (still x v vs ws s.ended)) ∙ rw g a;
          tree = x;
          deep = omega arith;
          rest = [];
          begins = sym (append-nil (ty_tokens x));
          number = inr (sym q);
        }

-- a text that is refused as a type is refused at a token
pub read_type_refusal : (d : ℕ) (ts : List Token) (n p : ℕ) → EndsEof ts → read_type d ts ≡ refused n p → ReadTypeRefusal d ts n p
read_type_refusal d ts n p h a = whole_refusal d ts n p h (type_at d ts) refl a

-- at a 9: with the token there they begin none, whatever its depth
pub never_type : {d n p : ℕ} {ts : List Token} (r : ReadTypeRefusal d ts n p) → (n ≡ 7 → ⊥)
    → (u : Ty) (e : Token) (vs ws : List Token) → e.kind ≡ eof → ty_tokens u ++ (e ∷ vs) ≡ r.before ++ (r.here ∷ ws) → ⊥
never_type {d} {n} {p} r k u e vs ws h q =
    let D = max d (ty_depth u) in
    let a = r.alone ws in
    let s : NotSeven (read_type d (r.before ++ (r.here ∷ ws))) = rw a k in
    not_accepted (read_type D (r.before ++ (r.here ∷ ws))) n p (ty_events u)
    (read_type_raised d D (r.before ++ (r.here ∷ ws)) (omega arith) s ∙ a)
    (ap (read_type D) (sym q) ∙ type_complete D u e vs (omega arith) h)

-- at any refusal: with the token there they begin none within the limit
pub never_within_type : {d n p : ℕ} {ts : List Token} (r : ReadTypeRefusal d ts n p)
    → (u : Ty) (e : Token) (vs ws : List Token) → ty_depth u ≤ d → e.kind ≡ eof → ty_tokens u ++ (e ∷ vs) ≡ r.before ++ (r.here ∷ ws) → ⊥
never_within_type {d} {n} {p} r u e vs ws g h q =
    not_accepted (read_type d (r.before ++ (r.here ∷ ws))) n p (ty_events u) (r.alone ws) (ap (read_type d) (sym q) ∙ type_complete d u e vs g h)
