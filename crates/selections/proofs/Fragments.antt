-- What follows a `...` in the reader's definition: a fragment spread, or an inline fragment. Assumes nothing.
use Prim.Native.Nat.{ℕ, ◌<◌}
use mathlib.Core.Path.{◌≡◌}
use mathlib.Core.Bool.{Bool, true, false}
use mathlib.Core.List.{List, [], ◌∷◌, ◌++◌}
use native.Mathlib.Omega.{arith}
use borrow.Author.Tests.{eq-eqb, ne_eqb, eqb-true}
use lib.Dec.{eqb}
use Rattle.base.specs.Text.{from}
use Rattle.base.proofs.Tests.{or_true, from_true}
use Rattle.syntax.specs.Token.{is_fragment_name, Token, end_of, token_event, opens, closes, name_events}
use Rattle.syntax.specs.Machine.{Sym, spread, named_type, opt_directives, selection_set, close, go, also, at_spread, step}
use Rattle.std.specs.Prelude.{Result}
use Rattle.codes.specs.declared.refusal.Refused.{Refused}
use Rattle.parser.specs.declared.token.Peeked.{Peeked}
use Rattle.parser.specs.declared.token.Reached.{Reached}
use Rattle.parser.specs.declared.events.Events.{Events}
use Rattle.parser.specs.View.{behind, token_of, Front}
use Rattle.parser.specs.Events.{Wrote}
use Rattle.parser.specs.Promise.{Ready, Went, Took, Goes, Begun}
use Rattle.parser.proofs.Writing.{wrote_then}
use Rattle.parser.proofs.Moves.{took_one, went_first, took_goes, goes_below, outcome_goes}
use Rattle.selections.proofs.Sets.{also_run}

-- the kinds of a fragment's name
pub fragment_kind_lem : (k : ℕ) → is_fragment_name k ≡ true → (k < 26) × (k ≡ 0 → ⊥)
unfolding is_fragment_name
fragment_kind_lem k e =
    or_true (eqb k 18) (from 22 24 k) e
    (λ h. let z = eqb-true k 18 h in (omega arith, λ w. omega arith))
    (λ h. let z = from_true 22 24 k h in (omega arith, λ w. omega arith))

-- what follows an inline fragment's type condition
abbrev pub body : (d s : ℕ) → List Sym
body d s = opt_directives d ∷ selection_set d ∷ close 24 s ∷ []

module _ (c : Bool) (l d : ℕ) (n t : Token) (K : List Sym) where
  at_fragment : is_fragment_name t.kind ≡ true
      → step c l (spread d n ∷ K) t ≡ go (opens 22 n.start ∷ token_event n ∷ opens 23 t.start ∷ (name_events t ++ (closes 23 t.start (end_of t) ∷ []))) (opt_directives d ∷ close 22 n.start ∷ K)
  unfolding step at_spread
  at_fragment e = rw e

  module _ (f : is_fragment_name t.kind ≡ false) where
    at_on : t.kind ≡ 25
        → step c l (spread d n ∷ K) t ≡ go (opens 24 n.start ∷ token_event n ∷ opens 25 t.start ∷ token_event t ∷ []) (named_type ∷ close 25 t.start ∷ (body d n.start ++ K))
    unfolding step at_spread
    at_on e = rw (f, eq-eqb t.kind 25 e)

    no_on : (t.kind ≡ 25 → ⊥) → step c l (spread d n ∷ K) t ≡ also (opens 24 n.start ∷ token_event n ∷ []) (step c l (body d n.start ++ K) t)
    unfolding step at_spread
    no_on e = rw (f, ne_eqb t.kind 25 e)

-- p follows the `...` n
module _ (c : Bool) (t : List ℕ) (at : Reached) (d : ℕ) (n : Token) (p : Peeked) (F : Front t at.next p) {a b : Events} where
  pub spread_name : is_fragment_name (token_of p).kind ≡ true
      → Wrote a b (opens 22 n.start ∷ token_event n ∷ opens 23 p.start ∷ (name_events (token_of p) ++ (closes 23 p.start (end_of (token_of p)) ∷ [])))
      → Took c t (spread d n ∷ []) (opt_directives d ∷ close 22 n.start ∷ []) a b at (behind p)
  spread_name e w =
      took_one c t at p F (spread d n ∷ []) (opt_directives d ∷ close 22 n.start ∷ []) (λ K. at_fragment c at.end d n (token_of p) K e) (fragment_kind_lem _ e).1 w

  module _ (f : is_fragment_name (token_of p).kind ≡ false) (w : Wrote a b (opens 24 n.start ∷ token_event n ∷ [])) where
    pub with_type : (token_of p).kind ≡ 25 → {e : Events} {r : Result Reached Refused}
        → Begun c t (opens 25 p.start ∷ token_event (token_of p) ∷ []) (named_type ∷ close 25 p.start ∷ []) [] b e (behind p) r
        → Goes c t (spread d n ∷ []) (body d n.start) a e at r
    with_type k h =
        outcome_goes
        (took_goes
        (took_one c t at p F (spread d n ∷ []) (named_type ∷ close 25 p.start ∷ body d n.start) (λ K. at_on c at.end d n (token_of p) K f k) (λ z. omega arith) (wrote_then w h.first))
        (goes_below (body d n.start) h.on))

    pub without_type : ((token_of p).kind ≡ 25 → ⊥) → Ready t at → Went c t (spread d n ∷ []) (body d n.start) a b at at
    without_type k R =
        went_first R w
        (λ K. also_run c t at d p F (opens 24 n.start ∷ token_event n ∷ []) (spread d n ∷ K) (body d n.start ++ K) (no_on c at.end d n (token_of p) K f k))
