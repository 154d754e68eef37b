-- Selection sets in the reader's definition, token by token and turn by turn. Assumes nothing.
use Prim.Native.Nat.{ℕ, zero, suc, ◌-◌}
use mathlib.Core.Path.{◌≡◌, refl, sym, ap, ◌∙◌}
use mathlib.Core.Bool.{Bool, true, false}
use mathlib.Core.List.{List, [], ◌∷◌}
use native.Mathlib.Omega.{arith}
use borrow.Author.Tests.{ne_eqb, eqb-true}
use lib.Dec.{eqb}
use Rattle.base.specs.Item.{Item}
use Rattle.base.proofs.Tests.{by, or_false, apart}
use Rattle.syntax.specs.Token.{is_name, Token, end_of, token_event, opens, closes}
use Rattle.syntax.specs.Machine.{Sym, selection_set, opt_selection_set, first_selection, selections, named, spread, go, stop, also, or_selection_set, or_selection, at_selections, step, emits}
use Rattle.syntax.proofs.Steps.{moved_also}
use Rattle.std.specs.Prelude.{Result}
use Rattle.codes.specs.RefusalNumbers.{number_of}
use Rattle.codes.specs.declared.refusal.Refused.{Refused}
use Rattle.parser.specs.declared.token.Peeked.{Peeked}
use Rattle.parser.specs.declared.token.Reached.{Reached}
use Rattle.parser.specs.declared.events.Events.{Events}
use Rattle.parser.specs.View.{behind, token_of, Front}
use Rattle.parser.specs.Events.{Wrote}
use Rattle.parser.specs.Promise.{reads, Took, Stopped, Outcome, Goes}
use Rattle.parser.proofs.Writing.{wrote_none}
use Rattle.parser.proofs.Moves.{run_at, took_one, stop_one, took_goes, goes_below}
use Rattle.selections.specs.Follows.{begins_selection}

-- ---- what a selection begins with

-- a `...` or a Name
pub begins_dots : (k : ℕ) → begins_selection k ≡ true → is_name k ≡ false → k ≡ 9
unfolding begins_selection
begins_dots k e n = by (eqb k 9) (λ z. eqb-true k 9 z) (λ z. apart (begins_selection k) e (rw (z, n)))

begins_not : (k : ℕ) → begins_selection k ≡ false → (eqb k 9 ≡ false) × (is_name k ≡ false)
unfolding begins_selection
begins_not k e = or_false (eqb k 9) (is_name k) e

-- a Name is neither `...` nor `}`
not_brace : (k : ℕ) → is_name k ≡ true → eqb k 17 ≡ false
unfolding is_name
not_brace k e = by (eqb k 17) (λ z. let q = eqb-true k 17 z in apart (is_name 17) (rw q at e) refl) (λ z. z)

-- ---- one token
module _ (c : Bool) (l d : ℕ) (t : Token) (K : List Sym) where
  at_set : t.kind ≡ 15 → step c l (selection_set d ∷ K) t ≡ go (opens 15 t.start ∷ token_event t ∷ []) (first_selection d t.start ∷ K)
  unfolding step or_selection_set
  at_set e = rw e

  no_set_lem : (t.kind ≡ 15 → ⊥) → step c l (selection_set d ∷ K) t ≡ stop 9
  unfolding step or_selection_set
  no_set_lem e = rw (ne_eqb t.kind 15 e)

  module _ (s : ℕ) where
    too_deep_lem : d ≡ 0 → step c l (first_selection d s ∷ K) t ≡ stop 7
    unfolding step
    too_deep_lem z = rw z

    set_ends : t.kind ≡ 17 → step c l (selections d s ∷ K) t ≡ go (token_event t ∷ closes 15 s (end_of t) ∷ []) K
    unfolding step at_selections
    set_ends e = rw e

    set_none : (t.kind ≡ 17 → ⊥) → begins_selection t.kind ≡ false → step c l (selections d s ∷ K) t ≡ stop 9
    unfolding step at_selections or_selection
    set_none b e = let n = begins_not t.kind e in rw (ne_eqb t.kind 17 b, n.1, n.0)

    set_name : is_name t.kind ≡ true → step c l (selections d s ∷ K) t ≡ go [] (named d t ∷ selections d s ∷ K)
    unfolding step at_selections or_selection
    set_name e = rw (not_brace t.kind e, e)

    set_dots : t.kind ≡ 9 → step c l (selections d s ∷ K) t ≡ go [] (spread d t ∷ selections d s ∷ K)
    unfolding step at_selections or_selection is_name
    set_dots e = rw e

first_none : (c : Bool) (l r s : ℕ) (t : Token) (K : List Sym) → begins_selection t.kind ≡ false → step c l (first_selection (suc r) s ∷ K) t ≡ stop 9
unfolding step or_selection
first_none c l r s t K e = let n = begins_not t.kind e in rw (n.1, n.0)

first_begins : (c : Bool) (l r s : ℕ) (t : Token) (K : List Sym) → begins_selection t.kind ≡ true
    → step c l (first_selection (suc r) s ∷ K) t ≡ step c l (selections r s ∷ K) t
unfolding step at_selections or_selection begins_selection is_name
first_begins c l r s t K e =
    by (eqb t.kind 17) (λ z. let q = eqb-true t.kind 17 z in apart (begins_selection 17) (rw q at e) refl) (λ z. rw z)

-- ---- a set begins at its `{`, which is p; or none stands there
module _ (c : Bool) (t : List ℕ) (from : Reached) (d : ℕ) (p : Peeked) (F : Front t from.next p) where
  pub set_opened : {a b : Events} → (token_of p).kind ≡ 15 → Wrote a b (opens 15 p.start ∷ token_event (token_of p) ∷ [])
      → Took c t (selection_set d ∷ []) (first_selection d p.start ∷ []) a b from (behind p)
  set_opened k w = took_one c t from p F (selection_set d ∷ []) (first_selection d p.start ∷ []) (λ K. at_set c from.end d (token_of p) K k) (λ z. omega arith) w

  pub set_missing : {a : Events} → ((token_of p).kind ≡ 15 → ⊥) → (r : Refused) → number_of r.refusal ≡ 9 → r.place ≡ p.start → Stopped c t (selection_set d ∷ []) a a from r
  set_missing e r n q = stop_one c t from p F (selection_set d ∷ []) r (λ K. rw n (no_set_lem c from.end d (token_of p) K e)) q

  opt_none : (K : List Sym) → ((token_of p).kind ≡ 15 → ⊥) → step c from.end (opt_selection_set d ∷ K) (token_of p) ≡ step c from.end K (token_of p)
  unfolding step or_selection_set
  opt_none K e = rw (ne_eqb (token_of p).kind 15 e)

  opt_some : (K : List Sym) → (token_of p).kind ≡ 15 → step c from.end (opt_selection_set d ∷ K) (token_of p) ≡ step c from.end (selection_set d ∷ K) (token_of p)
  unfolding step or_selection_set
  opt_some K e = rw e

  -- a selection set, or none
  pub set_absent : ((token_of p).kind ≡ 15 → ⊥) → (K : List Sym) → reads c t (opt_selection_set d ∷ K) from ≡ reads c t K from
  set_absent e K = run_at c t from p F (opt_selection_set d ∷ K) ∙ rw (opt_none K e) (sym (run_at c t from p F K))

  pub set_present : (token_of p).kind ≡ 15 → (K : List Sym) → reads c t (opt_selection_set d ∷ K) from ≡ reads c t (selection_set d ∷ K) from
  set_present e K = run_at c t from p F (opt_selection_set d ∷ K) ∙ rw (opt_some K e) (sym (run_at c t from p F (selection_set d ∷ K)))

  -- where one stack gives events and then does what another does
  pub also_run : (es : List Item) (S S' : List Sym) → step c from.end S (token_of p) ≡ also es (step c from.end S' (token_of p))
      → reads c t S from ≡ emits es (reads c t S' from)
  also_run es S S' e =
      run_at c t from p F S
      ∙ rw e (moved_also es (step c from.end S' (token_of p)) p.start (λ K'. reads c t K' (behind p)) ∙ ap (emits es) (sym (run_at c t from p F S')))

  -- ---- its first selection, which begins at p
  module _ (s : ℕ) where
    pub set_deep : {a : Events} → d ≡ 0 → (r : Refused) → number_of r.refusal ≡ 7 → r.place ≡ p.start → Stopped c t (first_selection d s ∷ []) a a from r
    set_deep z r n q = stop_one c t from p F (first_selection d s ∷ []) r (λ K. rw n (too_deep_lem c from.end d (token_of p) K s z)) q

    pub set_empty : {a : Events} → (d ≡ 0 → ⊥) → begins_selection (token_of p).kind ≡ false → (r : Refused) → number_of r.refusal ≡ 9 → r.place ≡ p.start
        → Stopped c t (first_selection d s ∷ []) a a from r
    set_empty z b r n q = stop_one c t from p F (first_selection d s ∷ []) r (λ K. rw n (none d z K)) q
      where
        none : (d : ℕ) → (d ≡ 0 → ⊥) → (K : List Sym) → step c from.end (first_selection d s ∷ K) (token_of p) ≡ stop 9
        none zero z K = absurd (z refl)
        none (suc r) z K = first_none c from.end r s (token_of p) K b

    -- with depth left, it is read as the further ones are
    pub first_run : (d ≡ 0 → ⊥) → begins_selection (token_of p).kind ≡ true → (K : List Sym) → reads c t (first_selection d s ∷ K) from ≡ reads c t (selections (d - 1) s ∷ K) from
    first_run z b K = run_at c t from p F (first_selection d s ∷ K) ∙ rw (first d z) (sym (run_at c t from p F (selections (d - 1) s ∷ K)))
      where
        first : (d : ℕ) → (d ≡ 0 → ⊥) → step c from.end (first_selection d s ∷ K) (token_of p) ≡ step c from.end (selections (d - 1) s ∷ K) (token_of p)
        first zero z = absurd (z refl)
        first (suc r) z = let q : suc r - 1 ≡ r = omega arith in rw q (first_begins c from.end r s (token_of p) K b)

    -- ---- at a token p of a selection set
    pub set_stop : {a : Events} → ((token_of p).kind ≡ 17 → ⊥) → begins_selection (token_of p).kind ≡ false → (r : Refused) → number_of r.refusal ≡ 9 → r.place ≡ p.start
        → Stopped c t (selections d s ∷ []) a a from r
    set_stop b e r n q = stop_one c t from p F (selections d s ∷ []) r (λ K. rw n (set_none c from.end d (token_of p) K s b e)) q

    pub set_end : {a b : Events} → (token_of p).kind ≡ 17 → Wrote a b (token_event (token_of p) ∷ closes 15 s (end_of (token_of p)) ∷ [])
        → Took c t (selections d s ∷ []) [] a b from (behind p)
    set_end k w = took_one c t from p F (selections d s ∷ []) [] (λ K. set_ends c from.end d (token_of p) K s k) (λ z. omega arith) w

    -- ---- a selection, whose first token is p
    begun_by : {a b : Events} {r : Result Reached Refused} (X : Sym) → ((token_of p).kind ≡ 0 → ⊥)
        → ((K : List Sym) → step c from.end (selections d s ∷ K) (token_of p) ≡ go [] (X ∷ selections d s ∷ K)) → Goes c t (X ∷ []) [] a b (behind p) r
        → Outcome c t (selections d s ∷ []) (selections d s ∷ []) a b from r
    begun_by {a} X n m h = took_goes (took_one c t from p F (selections d s ∷ []) (X ∷ selections d s ∷ []) m n (wrote_none a)) (goes_below (selections d s ∷ []) h)

    pub by_field : {a b : Events} {r : Result Reached Refused} → is_name (token_of p).kind ≡ true → Goes c t (named d (token_of p) ∷ []) [] a b (behind p) r
        → Outcome c t (selections d s ∷ []) (selections d s ∷ []) a b from r
    unfolding is_name
    by_field e h = begun_by (named d (token_of p)) (λ z. apart (is_name 0) (rw z at e) refl) (λ K. set_name c from.end d (token_of p) K s e) h

    pub by_dots : {a b : Events} {r : Result Reached Refused} → (token_of p).kind ≡ 9 → Goes c t (spread d (token_of p) ∷ []) [] a b (behind p) r
        → Outcome c t (selections d s ∷ []) (selections d s ∷ []) a b from r
    by_dots e h = begun_by (spread d (token_of p)) (λ z. omega arith) (λ K. set_dots c from.end d (token_of p) K s e) h
