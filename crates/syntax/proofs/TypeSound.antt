-- What is read as a type is a type within the depth limit, with its events. Assumes nothing.
use Prim.Native.Nat.{ℕ, zero, suc, ◌≤◌}
use native.Mathlib.Omega.{arith}
use mathlib.Core.Path.{◌≡◌, refl, sym, ap, ap₂, ◌∙◌}
use mathlib.Core.Bool.{Bool, true, false}
use mathlib.Core.List.{List, [], ◌∷◌, ◌++◌, append_assoc}
use lib.Dec.{eqb}
use borrow.Author.Tests.{eqb-true}
use Rattle.base.specs.Text.{pick}
use Rattle.base.specs.Item.{Item}
use Rattle.syntax.specs.Token.{eof, bang, bracket_l, bracket_r, is_name, Token, end_of, token_event, opens, closes, name_events}
use Rattle.syntax.specs.Grammar.{of, start_of, last_end}
use Rattle.syntax.specs.Types.{Ty, nullable, non_null, Base, named_type, list_type, ty_tokens, base_tokens, ty_events, base_events, ty_depth, base_depth}
use Rattle.syntax.specs.Machine.{refused, accepted}
use Rattle.syntax.specs.TypeReading.{TypeRead, typed, untyped, with_bang, with_bracket, no_depth, type_at, whole_type, read_type}
use Rattle.syntax.proofs.Steps.{last_end_snoc, node_bracketed}
use Rattle.syntax.proofs.Back.{is_kind, is_name_lem}
use Rattle.syntax.proofs.Sound.{NoEof, split_eof}
use Rattle.syntax.proofs.TypeComplete.{Stops, bang_events}

-- ts is a type's tokens and the rest; es are its events, and e is its end
pub record ReadsType (r : ℕ) (ts : List Token) (es : List Item) (e : ℕ) (rest : List Token) : Type 0 where
  pub tree : Ty
  pub deep : ty_depth tree ≤ r
  pub tokens : ts ≡ ty_tokens tree ++ rest
  pub events : es ≡ ty_events tree
  pub end : e ≡ last_end (ty_tokens tree)
  pub ended : Stops tree rest

bang_sound : (b : Base) (r : ℕ) (us ts : List Token) (es : List Item) (e : ℕ) (rest : List Token) → base_depth b ≤ r → us ≡ base_tokens b ++ ts
    → with_bang (start_of (base_tokens b)) (base_events b) (last_end (base_tokens b)) ts ≡ typed es e rest → ReadsType r us es e rest
unfolding with_bang
bang_sound b r us [] es e rest h q a =
    let i : [] ≡ rest = cc in
    record { tree = nullable b; deep = h; tokens = cc; events = cc; end = cc; ended = rw (← i) tt }
bang_sound b r us (t ∷ ts) es e rest h q a = by_bang (eqb t.kind bang) refl a
  where
    by_bang : (x : Bool) → eqb t.kind bang ≡ x
        → pick x (typed (opens 14 (start_of (base_tokens b)) ∷ (base_events b ++ (token_event t ∷ closes 14 (start_of (base_tokens b)) (end_of t) ∷ []))) (end_of t) ts) (typed (base_events b) (last_end (base_tokens b)) (t ∷ ts)) ≡ typed es e rest
        → ReadsType r us es e rest
    by_bang true k a =
        let w = is_kind bang t k in
        let f : opens 14 (start_of (base_tokens b)) ∷ (base_events b ++ (token_event t ∷ closes 14 (start_of (base_tokens b)) (end_of t) ∷ [])) ≡ es = cc in
        let g : end_of t ≡ e = cc in
        let i : ts ≡ rest = cc in
        record {
          tree = non_null b w.0;
          deep = h;
          tokens = q ∙ rw (i, ← w.1) (sym (append_assoc (base_tokens b) (t ∷ []) rest));
          events =
              sym f ∙ ap (λ (u : Token). opens 14 (start_of (base_tokens b)) ∷ (base_events b ++ (token_event u ∷ closes 14 (start_of (base_tokens b)) (end_of u) ∷ []))) w.1
              ∙ sym (bang_events b w.0);
          end = sym g ∙ ap end_of w.1 ∙ sym (last_end_snoc (base_tokens b) (of bang w.0));
          ended = tt;
        }
    by_bang false k a =
        let i : t ∷ ts ≡ rest = cc in
        record { tree = nullable b; deep = h; tokens = cc; events = cc; end = cc; ended = rw (← i) k }

-- a name, and perhaps a `!`
name_sound : (r : ℕ) (t : Token) (ts : List Token) (es : List Item) (e : ℕ) (rest : List Token) → is_name t.kind ≡ true
    → with_bang t.start (opens 12 t.start ∷ (name_events t ++ (closes 12 t.start (end_of t) ∷ []))) (end_of t) ts ≡ typed es e rest → ReadsType r (t ∷ ts) es e rest
name_sound r t ts es e rest k a =
    let w = is_name_lem t k in
    bang_sound (named_type w.0) r (t ∷ ts) ts es e rest (omega arith) (ap (λ (u : Token). u ∷ ts) w.1)
    (ap (λ (u : Token). with_bang u.start (opens 12 u.start ∷ (name_events u ++ (closes 12 u.start (end_of u) ∷ []))) (end_of u) ts) (sym w.1) ∙ a)

-- a list type, and perhaps a `!`
list_sound : (r : ℕ) (b : Token) (us : List Token) (es : List Item) (e : ℕ) (rest : List Token) → eqb b.kind bracket_l ≡ true → (x : TypeRead)
    → ((fs : List Item) (f : ℕ) (ts : List Token) → x ≡ typed fs f ts → ReadsType r us fs f ts) → with_bracket b x ≡ typed es e rest → ReadsType (suc r) (b ∷ us) es e rest
unfolding with_bracket
list_sound r b us es e rest k (untyped n p) ih a = absurd (let z : ◌≡◌ {A = ℕ} 0 1 = cc in omega arith)
list_sound r b us es e rest k (typed fs f []) ih a = absurd (let z : ◌≡◌ {A = ℕ} 0 1 = cc in omega arith)
list_sound r b us es e rest k (typed fs f (t ∷ ts)) ih a = by_bracket (eqb t.kind bracket_r) refl a
  where
    by_bracket : (x : Bool) → eqb t.kind bracket_r ≡ x
        → pick x (with_bang b.start (opens 13 b.start ∷ token_event b ∷ (fs ++ (token_event t ∷ closes 13 b.start (end_of t) ∷ []))) (end_of t) ts) (untyped 9 t.start) ≡ typed es e rest
        → ReadsType (suc r) (b ∷ us) es e rest
    by_bracket true m a =
        let s = ih fs f (t ∷ ts) refl in
        let v = is_kind bracket_l b k in
        let w = is_kind bracket_r t m in
        let x = list_type v.0 s.tree w.0 in
        let d : ty_depth s.tree ≤ r = s.deep in
        let i : base_events x ≡ opens 13 b.start ∷ token_event b ∷ (fs ++ (token_event t ∷ closes 13 b.start (end_of t) ∷ [])) =
        node_bracketed 13 (of bracket_l v.0) (of bracket_r w.0) (ty_tokens s.tree) (ty_events s.tree)
        ∙ ap₂ (λ (p q : Token). opens 13 p.start ∷ token_event p ∷ (ty_events s.tree ++ (token_event q ∷ closes 13 p.start (end_of q) ∷ []))) (sym v.1) (sym w.1)
        ∙ ap (λ (gs : List Item). opens 13 b.start ∷ token_event b ∷ (gs ++ (token_event t ∷ closes 13 b.start (end_of t) ∷ []))) (sym s.events) in
        let j : last_end (base_tokens x) ≡ end_of t = last_end_snoc (of bracket_l v.0 ∷ ty_tokens s.tree) (of bracket_r w.0) ∙ ap end_of (sym w.1) in
        bang_sound x (suc r) (b ∷ us) ts es e rest (omega arith)
        (ap₂ (λ (p : Token) (ps : List Token). p ∷ ps) v.1 (s.tokens ∙ ap (λ (q : Token). ty_tokens s.tree ++ (q ∷ ts)) w.1 ∙ sym (append_assoc (ty_tokens s.tree) (of bracket_r w.0 ∷ []) ts)))
        (ap₂ (λ (gs : List Item) (n : ℕ). with_bang v.0.start gs n ts) i j ∙ ap (λ (p : Token). with_bang p.start (opens 13 b.start ∷ token_event b ∷ (fs ++ (token_event t ∷ closes 13 b.start (end_of t) ∷ []))) (end_of t) ts) (sym v.1) ∙ a)
    by_bracket false m a = absurd (let z : ◌≡◌ {A = ℕ} 0 1 = cc in omega arith)

-- by a test
pub choose : {A : Type 0} (b : Bool) (x y z : TypeRead) → (b ≡ true → x ≡ z → A) → (b ≡ false → y ≡ z → A) → pick b x y ≡ z → A
choose true x y z f g a = f refl a
choose false x y z f g a = g refl a

no_depth_lem : {A : Type 0} (ts rest : List Token) (n e : ℕ) (es : List Item) → no_depth ts n ≡ typed es e rest → A
no_depth_lem [] rest n e es a = absurd (let z : ◌≡◌ {A = ℕ} 0 1 = cc in omega arith)
no_depth_lem (t ∷ ts) rest n e es a = absurd (let z : ◌≡◌ {A = ℕ} 0 1 = cc in omega arith)

-- what is read as a type is a type
pub type_sound : (r : ℕ) (ts : List Token) (es : List Item) (e : ℕ) (rest : List Token) → type_at r ts ≡ typed es e rest → ReadsType r ts es e rest
unfolding type_at
type_sound r [] es e rest a = absurd (let z : ◌≡◌ {A = ℕ} 0 1 = cc in omega arith)
type_sound zero (t ∷ ts) es e rest a =
    choose (is_name t.kind) (with_bang t.start (opens 12 t.start ∷ (name_events t ++ (closes 12 t.start (end_of t) ∷ []))) (end_of t) ts)
    (pick (eqb t.kind bracket_l) (no_depth ts (end_of t)) (untyped 9 t.start)) (typed es e rest)
    (λ k x. name_sound zero t ts es e rest k x)
    (λ k x. choose (eqb t.kind bracket_l) (no_depth ts (end_of t)) (untyped 9 t.start) (typed es e rest)
    (λ m y. no_depth_lem ts rest (end_of t) e es y)
    (λ m y. absurd (let z : ◌≡◌ {A = ℕ} 0 1 = cc in omega arith)) x) a
type_sound (suc r) (t ∷ ts) es e rest a =
    choose (is_name t.kind) (with_bang t.start (opens 12 t.start ∷ (name_events t ++ (closes 12 t.start (end_of t) ∷ []))) (end_of t) ts)
    (pick (eqb t.kind bracket_l) (with_bracket t (type_at r ts)) (untyped 9 t.start)) (typed es e rest)
    (λ k x. name_sound (suc r) t ts es e rest k x)
    (λ k x. choose (eqb t.kind bracket_l) (with_bracket t (type_at r ts)) (untyped 9 t.start) (typed es e rest)
    (λ m y. list_sound r t ts es e rest m (type_at r ts) (λ fs f us z. type_sound r ts fs f us z) y)
    (λ m y. absurd (let z : ◌≡◌ {A = ℕ} 0 1 = cc in omega arith)) x) a

-- a whole text: a type's tokens, then Eof, and the type's events
pub record WholeType (d : ℕ) (ts : List Token) (es : List Item) : Type 0 where
  pub tree : Ty
  pub deep : ty_depth tree ≤ d
  pub end : Token
  pub rest : List Token
  pub ended : end.kind ≡ eof
  pub tokens : ts ≡ ty_tokens tree ++ (end ∷ rest)
  pub events : es ≡ ty_events tree

whole_sound : (d : ℕ) (ts : List Token) (es : List Item) (x : TypeRead) → type_at d ts ≡ x → whole_type x ≡ accepted es → WholeType d ts es
unfolding whole_type
whole_sound d ts es (untyped n p) q a = absurd (let z : ◌≡◌ {A = ℕ} 0 1 = cc in omega arith)
whole_sound d ts es (typed fs f []) q a = absurd (let z : ◌≡◌ {A = ℕ} 0 1 = cc in omega arith)
whole_sound d ts es (typed fs f (t ∷ us)) q a = by_eof (eqb t.kind eof) refl a
  where
    by_eof : (x : Bool) → eqb t.kind eof ≡ x → pick x (accepted fs) (refused 9 t.start) ≡ accepted es → WholeType d ts es
    by_eof true k a =
        let s = type_sound d ts fs f (t ∷ us) q in
        let g : fs ≡ es = cc in
        record { tree = s.tree; deep = s.deep; end = t; rest = us; ended = eqb-true t.kind eof k; tokens = s.tokens; events = sym g ∙ s.events }
    by_eof false k a = absurd (let z : ◌≡◌ {A = ℕ} 0 1 = cc in omega arith)

-- what is accepted as a type is a type
pub read_type_sound : (d : ℕ) (ts : List Token) (es : List Item) → read_type d ts ≡ accepted es → WholeType d ts es
read_type_sound d ts es a = whole_sound d ts es (type_at d ts) refl a

-- a text whose last token, and no other, is Eof: accepted as a type, its other tokens are just a type's
pub type_exact : (d : ℕ) (us : List Token) (e : Token) (es : List Item) → NoEof us → read_type d (us ++ (e ∷ [])) ≡ accepted es
    → (t : Ty) × (ty_depth t ≤ d) × (us ≡ ty_tokens t) × (es ≡ ty_events t)
type_exact d us e es n a =
    let w = read_type_sound d (us ++ (e ∷ [])) es a in
    (w.tree, w.deep, split_eof us (ty_tokens w.tree) w.rest e w.end n w.ended w.tokens, w.events)
