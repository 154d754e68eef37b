-- What the machine accepts is trees of what is due, with the trees' events. Assumes nothing.
use Prim.Native.Nat.{ℕ}
use native.Mathlib.Omega.{arith}
use mathlib.Core.Path.{◌≡◌, refl, sym, ap, ap₂, ◌∙◌}
use mathlib.Core.Bool.{Bool, true, false}
use mathlib.Core.List.{List, [], ◌∷◌, ◌++◌, append_assoc}
use lib.Dec.{eqb}
use borrow.Author.Tests.{eqb-true, eqb-false}
use Rattle.base.specs.Text.{pick}
use Rattle.base.specs.Item.{Item}
use Rattle.syntax.specs.Token.{eof, Token, end_of}
use Rattle.syntax.specs.Machine.{Sym, Move, stop, halt, step, accepted, moved, run}
use Rattle.syntax.proofs.Steps.{emits_accepted, moved_also, end_after}
use Rattle.syntax.proofs.Forms.{Forms, tokens_of, events_of}
use Rattle.syntax.proofs.Back.{Back, takes, refuses, passes}
use Rattle.syntax.proofs.BackSets.{back}

-- the tokens ts begin with trees of P, which give the first of the events es; then K reads the rest and gives the others
pub record Reads (c : Bool) (P K : List Sym) (l : ℕ) (ts : List Token) (es : List Item) : Type 0 where
  pub forms : Forms c P
  pub rest : List Token
  pub others : List Item
  pub tokens : ts ≡ tokens_of forms ++ rest
  pub events : es ≡ events_of l forms ++ others
  pub goes : run c K (end_after l (tokens_of forms)) rest ≡ accepted others

sound_step : (c : Bool) (P K : List Sym) (l : ℕ) (t : Token) (ts : List Token) (es : List Item) (m : Move) → Back c l t P K m
    → ((Q : List Sym) (fs : List Item) → run c (Q ++ K) (end_of t) ts ≡ accepted fs → Reads c Q K (end_of t) ts fs)
    → moved m t.start (λ K'. run c K' (end_of t) ts) ≡ accepted es → Reads c P K l (t ∷ ts) es
unfolding run
sound_step c P K l t ts es m (takes fs Q e b) ih a =
    let v = emits_accepted (run c (Q ++ K) (end_of t) ts) fs es (rw e at a) in
    let s = ih Q v.0 v.1 in
    let w = b s.forms in
    record {
      forms = w.0;
      rest = s.rest;
      others = s.others;
      tokens = ap (λ (us : List Token). t ∷ us) s.tokens ∙ ap (λ (us : List Token). us ++ s.rest) (sym w.1);
      events = v.2 ∙ ap (λ (gs : List Item). fs ++ gs) s.events ∙ sym (append_assoc fs (events_of (end_of t) s.forms) s.others) ∙ ap (λ (gs : List Item). gs ++ s.others) (sym w.2);
      goes = rw w.1 s.goes;
    }
sound_step c P K l t ts es m (refuses n e) ih a = absurd (let z : ◌≡◌ {A = ℕ} 0 1 = cc in omega arith)
sound_step c P K l t ts es m (passes fs e G p q) ih a =
    let v = emits_accepted (run c K l (t ∷ ts)) fs es (sym (moved_also fs (step c l K t) t.start (λ K'. run c K' (end_of t) ts)) ∙ rw e at a) in
    record { forms = G; rest = t ∷ ts; others = v.0; tokens = ap (λ (us : List Token). us ++ (t ∷ ts)) (sym p); events = v.2 ∙ ap (λ (gs : List Item). gs ++ v.0) (sym q); goes = rw p v.1 }

-- what is accepted, with P due and K below it, begins with trees of P within the depths that are left
pub sound : (c : Bool) (ts : List Token) (P K : List Sym) (l : ℕ) (es : List Item) → run c (P ++ K) l ts ≡ accepted es → Reads c P K l ts es
unfolding run
sound c [] P K l es e = absurd (let z : ◌≡◌ {A = ℕ} 0 1 = cc in omega arith)
sound c (t ∷ ts) P K l es e =
    sound_step c P K l t ts es (step c l (P ++ K) t) (back c l t P K) (λ Q fs h. sound c ts Q K (end_of t) fs h) e

-- ---- Eof

-- with nothing due, Eof stands there
pub eof_sound : (c : Bool) (l : ℕ) (ts : List Token) (es : List Item) → run c [] l ts ≡ accepted es → (e : Token) × (us : List Token) × (ts ≡ e ∷ us) × (e.kind ≡ eof) × (es ≡ [])
unfolding run step
eof_sound c l [] es a = absurd (let z : ◌≡◌ {A = ℕ} 0 1 = cc in omega arith)
eof_sound c l (t ∷ ts) es a = by_eof (eqb t.kind eof) refl a
  where
    by_eof : (b : Bool) → eqb t.kind eof ≡ b → moved (pick b (halt []) (stop 9)) t.start (λ K. run c K (end_of t) ts) ≡ accepted es
        → (e : Token) × (us : List Token) × (t ∷ ts ≡ e ∷ us) × (e.kind ≡ eof) × (es ≡ [])
    by_eof true h a = (t, ts, refl, eqb-true t.kind eof h, cc)
    by_eof false h a = absurd (let z : ◌≡◌ {A = ℕ} 0 1 = cc in omega arith)

-- ---- where Eof is the last token, and the only one

-- no Eof in it
abbrev pub NoEof : List Token → Type 0
NoEof [] = Unit {0}
NoEof (t ∷ ts) = (eqb t.kind eof ≡ false) × NoEof ts

-- what stands before the only Eof
pub split_eof : (us vs ws : List Token) (e f : Token) → NoEof us → f.kind ≡ eof → us ++ (e ∷ []) ≡ vs ++ (f ∷ ws) → us ≡ vs
split_eof [] [] ws e f n k q = refl
split_eof [] (v ∷ []) ws e f n k q = absurd (let z : ◌≡◌ {A = ℕ} 0 1 = cc in omega arith)
split_eof [] (v ∷ w ∷ vs) ws e f n k q = absurd (let z : ◌≡◌ {A = ℕ} 0 1 = cc in omega arith)
split_eof (u ∷ us) [] ws e f n k q = let h : u ≡ f = cc in absurd (eqb-false u.kind eof n.0 (ap (λ (t : Token). t.kind) h ∙ k))
split_eof (u ∷ us) (v ∷ vs) ws e f n k q =
    let a : u ≡ v = cc in
    let b : us ++ (e ∷ []) ≡ vs ++ (f ∷ ws) = cc in
    ap₂ (λ (t : Token) (ts : List Token). t ∷ ts) a (split_eof us vs ws e f n.1 k b)
