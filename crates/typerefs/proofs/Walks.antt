-- Types but for their `!`, what their notes say, and walks put together. Assumes nothing.
use Prim.Native.Nat.{ℕ, zero, suc, ◌-◌, ◌<◌}
use native.Mathlib.Numerals.{sub-one}
use native.Mathlib.Omega.{arith}
use mathlib.Core.Path.{◌≡◌, refl, sym, ap, ◌∙◌}
use mathlib.Core.Bool.{Bool, true, false}
use mathlib.Core.List.{List, [], ◌∷◌, ◌++◌}
use lib.Dec.{eqb}
use lib.ListN.{length, get_or}
use Rattle.base.specs.Text.{pick}
use Rattle.base.proofs.Tests.{apart}
use Rattle.rules.specs.Items.{items}
use Rattle.syntax.specs.Token.{bang, bracket_l, is_name, Token, end_of, token_event, opens, closes, name_events}
use Rattle.syntax.specs.TypeReading.{TypeRead, typed, untyped, with_bang, with_bracket, no_depth, type_at}
use Rattle.std.specs.Prelude.{Result, Ok, Err}
use Rattle.codes.specs.RefusalNumbers.{number_of}
use Rattle.codes.specs.declared.refusal.Refused.{Refused}
use Rattle.parser.specs.declared.token.Peeked.{Peeked}
use Rattle.parser.specs.declared.token.Reached.{Reached}
use Rattle.parser.specs.declared.events.Events.{Events}
use Rattle.parser.specs.View.{rest, token_of, Front}
use Rattle.parser.specs.Events.{Wrote}
use Rattle.parser.proofs.Writing.{wrote_then}
use Rattle.typerefs.specs.Promise.{TypeOutcome, given, withheld}
use Rattle.typerefs.specs.Walk.{listed, base_at, Below, Noted, Marked, Walked, walked, refused, Closed, closed, unclosed, Ended, banged, bare}

-- what was read from s on, and its `!`
abbrev more : (s : ℕ) → TypeRead → TypeRead
more s (untyped n p) = untyped n p
more s (typed es e ts) = with_bang s es e ts

more_pick : (s : ℕ) (v : Bool) (x y : TypeRead) → more s (pick v x y) ≡ pick v (more s x) (more s y)
more_pick s true x y = refl
more_pick s false x y = refl

more_deep : (s : ℕ) (ts : List Token) (e : ℕ) → more s (no_depth ts e) ≡ no_depth ts e
more_deep s [] e = refl
more_deep s (t ∷ ts) e = refl

more_listed : (b : Token) (x : TypeRead) → more b.start (listed b x) ≡ with_bracket b x
unfolding with_bracket listed
more_listed b (untyped n p) = refl
more_listed b (typed es e []) = refl
more_listed b (typed es e (t ∷ ts)) = rw more_pick

-- a type is read but for its `!`, and then its `!`
more_base : (d : ℕ) (t : Token) (ts : List Token) → more t.start (base_at d (t ∷ ts)) ≡ type_at d (t ∷ ts)
unfolding type_at base_at
more_base zero t ts = simp (more_pick, more_deep)
more_base (suc r) t ts = simp (more_pick, more_listed)

-- notes that agree below d say the same
below_same : (notes notes' : List Bool) (d : ℕ) → ((i : ℕ) → i < d → get_or notes' i false ≡ get_or notes i false) → (ts : List Token) → Below notes d ts → Below notes' d ts
unfolding Below
below_same notes notes' zero f ts b = tt
below_same notes notes' (suc r) f [] b = tt
below_same notes notes' (suc r) f (t ∷ ts) b = λ k.
    let n = b k in
    (rw (f r (omega arith)) n.0, below_same notes notes' r (λ i h. f i (omega arith)) ts n.1)

-- where p is the first token
module _ (t : List ℕ) (at : ℕ) (p : Peeked) (F : Front t at p) where
  pub base_name : (d : ℕ) → is_name (token_of p).kind ≡ true
      → base_at d (rest t at) ≡ typed (opens 12 p.start ∷ (name_events (token_of p) ++ (closes 12 p.start (end_of (token_of p)) ∷ []))) (end_of (token_of p)) (rest t p.next)
  unfolding base_at
  base_name zero e = rw (F.first, e)
  base_name (suc r) e = rw (F.first, e)

  pub base_other : (d : ℕ) → is_name (token_of p).kind ≡ false → eqb (token_of p).kind bracket_l ≡ false → base_at d (rest t at) ≡ untyped 9 p.start
  unfolding base_at
  base_other zero e k = rw (F.first, e, k)
  base_other (suc r) e k = rw (F.first, e, k)

  pub base_deep : (d : ℕ) → d ≡ 0 → (token_of p).kind ≡ bracket_l → (q : Peeked) → Front t p.next q → base_at d (rest t at) ≡ untyped 7 q.start
  unfolding base_at is_name
  base_deep zero z k q G = rw (F.first, k, G.first)
  base_deep (suc r) z k q G = absurd (omega arith)

  base_list : (d : ℕ) → (d ≡ 0 → ⊥) → (token_of p).kind ≡ bracket_l → base_at d (rest t at) ≡ listed (token_of p) (type_at (d - 1) (rest t p.next))
  unfolding base_at is_name
  base_list zero z k = absurd (z refl)
  base_list (suc r) z k = rw (F.first, k, sub-one)

  base_more : (d : ℕ) (x : TypeRead) → base_at d (rest t at) ≡ x → type_at d (rest t at) ≡ more p.start x
  base_more d x e = let f : base_at d (token_of p ∷ rest t p.next) ≡ x = rw F.first at e in rw F.first (sym (more_base d (token_of p) (rest t p.next)) ∙ ap (more p.start) f)

  -- a name asks nothing of the notes
  pub below_name : (notes : List Bool) (d : ℕ) → is_name (token_of p).kind ≡ true → Below notes d (rest t at)
  unfolding Below is_name
  below_name notes zero e = tt
  below_name notes (suc r) e = rw F.first (λ k. absurd (apart (is_name bracket_l) (rw k at e) refl))

  below_item : (notes : List Bool) (d : ℕ) → (d ≡ 0 → ⊥) → (token_of p).kind ≡ bracket_l → Below notes d (rest t at) → Noted notes (d - 1) (rest t p.next)
  unfolding Below
  below_item notes zero z k b = absurd (z refl)
  below_item notes (suc r) z k b = rw sub-one ((rw F.first at b) k)

  item_below : (notes : List Bool) (d : ℕ) → (d ≡ 0 → ⊥) → Noted notes (d - 1) (rest t p.next) → Below notes d (rest t at)
  unfolding Below
  item_below notes zero z n = absurd (z refl)
  item_below notes (suc r) z n = rw F.first (λ k. rw sub-one at n)

  -- a list: its `[`, its item type, and its `]`
  module _ (d : ℕ) (z : d ≡ 0 → ⊥) (k : (token_of p).kind ≡ bracket_l) (notes notes' : List Bool) {e₀ e₁ e₂ : Events}
      (w : Wrote e₀ e₁ (opens 13 p.start ∷ token_event (token_of p) ∷ [])) where
    pub list_walk : {e₃ : Events} {item : Reached} {r : Result Reached Refused}
        → Walked t (type_at (d - 1) (rest t p.next)) (Noted notes (d - 1) (rest t p.next)) (Noted notes' (d - 1) (rest t p.next)) e₁ e₂ (Ok item)
        → Closed t p.start item.next e₂ e₃ r → Walked t (base_at d (rest t at)) (Below notes d (rest t at)) (Below notes' d (rest t at)) e₀ e₃ r
    unfolding listed
    list_walk (walked es x s l g a i) (closed {to = to} u f c y j v) =
        walked {to = to} (opens 13 p.start ∷ token_event (token_of p) ∷ (es ++ (token_event u ∷ closes 13 p.start (end_of u) ∷ [])))
        (base_list d z k ∙ ap (listed (token_of p)) x ∙ rw (f, c, y)) (v.same ∙ s ∙ w.same) (v.puts.kept ∙ l ∙ w.puts.kept)
        (λ b. wrote_then w (wrote_then (g (below_item notes d z k b)) v)) (item_below notes' d z a) j
    list_walk (walked es x s l g a i) (unclosed {by = by} u us f c y n q) =
        refused {by = by} (rw y (s ∙ w.same)) (rw y (l ∙ w.puts.kept)) (base_list d z k ∙ ap (listed (token_of p)) x ∙ rw (f, c, n, q))

    pub list_stop : {by : Refused}
        → Walked t (type_at (d - 1) (rest t p.next)) (Noted notes (d - 1) (rest t p.next)) (Noted notes' (d - 1) (rest t p.next)) e₁ e₂ (Err by)
        → Walked t (base_at d (rest t at)) (Below notes d (rest t at)) (Below notes' d (rest t at)) e₀ e₂ (Err by)
    unfolding listed
    list_stop (refused s l x) = refused (s ∙ w.same) (l ∙ w.puts.kept) (base_list d z k ∙ ap (listed (token_of p)) x)

  -- a type: what the notes say of its `!`, the type but for its `!`, and its `!`
  module _ (d : ℕ) (notes notes' notes'' : List Bool) {e₀ e₁ e₂ : Events} (w : Wrote e₀ e₁ (pick (get_or notes d false) (opens 14 p.start ∷ []) [])) where
    pub type_walk : {e₃ : Events} {base to : Reached} {b : Bool}
        → Walked t (base_at d (rest t at)) (Below notes d (rest t at)) (Below notes' d (rest t at)) e₁ e₂ (Ok base)
        → (q : Peeked) → Front t base.next q → b ≡ eqb (token_of q).kind bang → Marked notes' notes'' d b → Ended t p.start base e₂ e₃ to
        → Walked t (type_at d (rest t at)) (Noted notes d (rest t at)) (Noted notes'' d (rest t at)) e₀ e₃ (Ok to)
    unfolding with_bang
    type_walk (walked es x s l g a i) q G m mk (banged u f c y j v) =
        walked (opens 14 p.start ∷ (es ++ (token_event u ∷ closes 14 p.start (end_of u) ∷ [])))
        (base_more d _ x ∙ rw (f, c, y)) (v.same ∙ s ∙ w.same) (v.puts.kept ∙ l ∙ w.puts.kept)
        (λ b.
        let h : get_or notes d false ≡ eqb u.kind bang = rw (x, f) at b.0 in
        wrote_then (rw (h ∙ c) at w) (wrote_then (g b.1) v))
        (rw (x, G.first) (mk.here ∙ m), below_same notes' notes'' d mk.under (rest t at) a) j
    type_walk {base = base} (walked es x s l g a i) q G m mk (bare u us f c y o) =
        rw (y, o) (walked {to = base} es (base_more d _ x ∙ rw (f, c)) (s ∙ w.same) (l ∙ w.puts.kept)
        (λ b.
        let h : get_or notes d false ≡ eqb u.kind bang = rw (x, f) at b.0 in
        wrote_then (rw (h ∙ c) at w) (g b.1))
        (rw (x, G.first) (mk.here ∙ m), below_same notes' notes'' d mk.under (rest t at) a) i)

    pub type_stop : {by : Refused} → Walked t (base_at d (rest t at)) (Below notes d (rest t at)) (Below notes' d (rest t at)) e₁ e₂ (Err by)
        → Walked t (type_at d (rest t at)) (Noted notes d (rest t at)) (Noted notes'' d (rest t at)) e₀ e₂ (Err by)
    type_stop (refused s l x) = refused (s ∙ w.same) (l ∙ w.puts.kept) (base_more d _ x)

-- what an answer tells
pub walked_inside : {t : List ℕ} {x : TypeRead} {before after : Type 0} {a b : Events} {to : Reached} → Walked t x before after a b (Ok to) → to.next < length (items t)
walked_inside (walked es x s l g a i) = i

pub walked_after : {t : List ℕ} {x : TypeRead} {before after : Type 0} {a b : Events} {to : Reached} → Walked t x before after a b (Ok to) → after
walked_after (walked es x s l g a i) = a

-- a walk by the right notes, and a walk that was refused
pub type_given : {t : List ℕ} {depth at : ℕ} {before after : Type 0} {a b : Events} {r : Result Reached Refused} → before
    → Walked t (type_at depth (rest t at)) before after a b r → TypeOutcome t depth at a b r
type_given b (walked es x s l g a i) = given es x (g b) i
type_given b (refused s l x) = withheld s l x

pub type_withheld : {t : List ℕ} {x : TypeRead} {before after : Type 0} {a b : Events} {by : Refused} → Walked t x before after a b (Err by)
    → x ≡ untyped (number_of by.refusal) by.place
type_withheld (refused s l x) = x
