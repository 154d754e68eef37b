-- Directives, step by step: what the reader does at a token, and what is read there. Assumes nothing.
use Prim.Native.Nat.{ℕ}
use mathlib.Core.Path.{◌≡◌, sym, ◌∙◌}
use mathlib.Core.Bool.{Bool}
use mathlib.Core.List.{List, [], ◌∷◌}
use native.Mathlib.Omega.{arith}
use borrow.Author.Tests.{eq-eqb, ne_eqb}
use Rattle.syntax.specs.Token.{Token, token_event, opens, closes}
use Rattle.syntax.specs.Machine.{Sym, name, close, opt_arguments, opt_directives, directives, go, or_directive, step, emits}
use Rattle.syntax.proofs.Steps.{emits_emits, run_close}
use Rattle.parser.specs.declared.token.Peeked.{Peeked}
use Rattle.parser.specs.declared.token.Reached.{Reached}
use Rattle.parser.specs.declared.events.Events.{Events}
use Rattle.parser.specs.View.{behind, rest, token_of, Front}
use Rattle.parser.specs.Events.{Wrote}
use Rattle.parser.specs.Promise.{Ready, reads, Went, Took}
use Rattle.parser.proofs.Moves.{run_at, took_one, went_first}

-- ---- the reader's step at a token t
module _ (c : Bool) (l r : ℕ) (t : Token) (K : List Sym) where
  pub directive_open : (s : ℕ) → t.kind ≡ 12
      → step c l (directives r s ∷ K) t ≡ go (opens 21 t.start ∷ token_event t ∷ []) (name ∷ opt_arguments r ∷ close 21 t.start ∷ directives r s ∷ K)
  unfolding step or_directive
  directive_open s e = rw (eq-eqb t.kind 12 e)

  -- no further one: the node closes
  pub no_directive : (s : ℕ) → (t.kind ≡ 12 → ⊥) → step c l (directives r s ∷ K) t ≡ step c l (close 20 s ∷ K) t
  unfolding step or_directive
  no_directive s e = rw (ne_eqb t.kind 12 e)

  pub directives_open : t.kind ≡ 12
      → step c l (opt_directives r ∷ K) t
      ≡ go (opens 20 t.start ∷ opens 21 t.start ∷ token_event t ∷ []) (name ∷ opt_arguments r ∷ close 21 t.start ∷ directives r t.start ∷ K)
  unfolding step or_directive
  directives_open e = rw (eq-eqb t.kind 12 e)

  pub no_directives_lem : (t.kind ≡ 12 → ⊥) → step c l (opt_directives r ∷ K) t ≡ step c l K t
  unfolding step or_directive
  no_directives_lem e = rw (ne_eqb t.kind 12 e)

-- ---- what is read at a token p
module _ (c : Bool) (t : List ℕ) (from : Reached) (d : ℕ) (p : Peeked) (F : Front t from.next p) where
  -- a directive's `@`
  pub directive_opened : {a b : Events} (s : ℕ) → (token_of p).kind ≡ 12 → Wrote a b (opens 21 p.start ∷ token_event (token_of p) ∷ [])
      → Took c t (directives d s ∷ []) (name ∷ opt_arguments d ∷ close 21 p.start ∷ directives d s ∷ []) a b from (behind p)
  directive_opened s k w =
      took_one c t from p F (directives d s ∷ []) (name ∷ opt_arguments d ∷ close 21 p.start ∷ directives d s ∷ [])
      (λ K. directive_open c from.end d (token_of p) K s k) (λ z. omega arith) w

  no_more : (s : ℕ) → ((token_of p).kind ≡ 12 → ⊥) → (K : List Sym) → reads c t (directives d s ∷ K) from ≡ reads c t (close 20 s ∷ K) from
  no_more s k K = run_at c t from p F (directives d s ∷ K) ∙ rw (no_directive c from.end d (token_of p) K s k) (sym (run_at c t from p F (close 20 s ∷ K)))

  -- no further one: the node closes
  pub directives_closed : {a b : Events} (s : ℕ) → ((token_of p).kind ≡ 12 → ⊥) → Ready t from → Wrote a b (closes 20 s from.end ∷ [])
      → Went c t (directives d s ∷ []) [] a b from from
  directives_closed s k R w = went_first R w (λ K. no_more s k K ∙ run_close c 20 s from.end K (rest t from.next))

  -- none at all: what follows is due
  pub directives_absent : ((token_of p).kind ≡ 12 → ⊥) → (K : List Sym) → reads c t (opt_directives d ∷ K) from ≡ reads c t K from
  directives_absent k K = run_at c t from p F (opt_directives d ∷ K) ∙ rw (no_directives_lem c from.end d (token_of p) K k) (sym (run_at c t from p F K))

  -- some: the node opens where the first begins
  pub directives_begin : (token_of p).kind ≡ 12
      → (K : List Sym) → reads c t (opt_directives d ∷ K) from ≡ emits (opens 20 p.start ∷ []) (reads c t (directives d p.start ∷ K) from)
  directives_begin k K =
      run_at c t from p F (opt_directives d ∷ K)
      ∙ rw (directives_open c from.end d (token_of p) K k, run_at c t from p F (directives d p.start ∷ K), directive_open c from.end d (token_of p) K p.start k)
      (sym (emits_emits (opens 20 p.start ∷ []) (opens 21 p.start ∷ token_event (token_of p) ∷ []) (reads c t (name ∷ opt_arguments d ∷ close 21 p.start ∷ directives d p.start ∷ K) (behind p))))
