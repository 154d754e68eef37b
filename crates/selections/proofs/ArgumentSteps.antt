-- Arguments, step by step: what the reader does at a token, and what is read there. Assumes nothing.
use Prim.Native.Nat.{ℕ}
use mathlib.Core.Path.{◌≡◌, refl, sym, ◌∙◌}
use mathlib.Core.Bool.{Bool, true, false}
use mathlib.Core.List.{List, [], ◌∷◌}
use native.Mathlib.Omega.{arith}
use borrow.Author.Tests.{eq-eqb, ne_eqb, eqb-true}
use lib.Dec.{eqb}
use Rattle.base.proofs.Tests.{by, apart}
use Rattle.syntax.specs.Token.{is_name, Token, end_of, token_event, opens, closes, name_events}
use Rattle.syntax.specs.Machine.{Sym, value, colon_due, close, opt_arguments, first_argument, arguments, go, stop, or_arguments, or_argument, at_arguments, step}
use Rattle.codes.specs.RefusalNumbers.{number_of}
use Rattle.codes.specs.declared.refusal.Refused.{Refused}
use Rattle.parser.specs.declared.token.Peeked.{Peeked}
use Rattle.parser.specs.declared.token.Reached.{Reached}
use Rattle.parser.specs.declared.events.Events.{Events}
use Rattle.parser.specs.View.{behind, token_of, Front}
use Rattle.parser.specs.Events.{Wrote}
use Rattle.parser.specs.Promise.{reads, Took, Stopped}
use Rattle.parser.proofs.Moves.{run_at, took_one, stop_one}
use Rattle.values.proofs.Steps.{name_kind}

-- ---- the reader's step at a token t
module _ (c : Bool) (l r : ℕ) (t : Token) (K : List Sym) where
  pub arguments_open : t.kind ≡ 7 → step c l (opt_arguments r ∷ K) t ≡ go (opens 18 t.start ∷ token_event t ∷ []) (first_argument r t.start ∷ K)
  unfolding step or_arguments
  arguments_open e = rw (eq-eqb t.kind 7 e)

  pub no_arguments_lem : (t.kind ≡ 7 → ⊥) → step c l (opt_arguments r ∷ K) t ≡ step c l K t
  unfolding step or_arguments
  no_arguments_lem e = rw (ne_eqb t.kind 7 e)

  pub no_argument : (s : ℕ) → is_name t.kind ≡ false → step c l (first_argument r s ∷ K) t ≡ stop 9
  unfolding step or_argument
  no_argument s e = rw e

  pub argument_name : (s : ℕ) → is_name t.kind ≡ true
      → step c l (arguments r s ∷ K) t ≡ go (opens 19 t.start ∷ name_events t) (colon_due ∷ value r ∷ close 19 t.start ∷ arguments r s ∷ K)
  unfolding step or_argument at_arguments is_name
  argument_name s e = by (eqb t.kind 8) (λ z. let k = eqb-true t.kind 8 z in apart (is_name 8) (rw k at e) refl) (λ z. rw (z, e))

  -- the first argument is as any other
  pub first_argument_lem : (s : ℕ) → is_name t.kind ≡ true → step c l (first_argument r s ∷ K) t ≡ step c l (arguments r s ∷ K) t
  unfolding step or_argument
  first_argument_lem s e = rw e (sym (argument_name s e))

  pub arguments_end : (s : ℕ) → t.kind ≡ 8 → step c l (arguments r s ∷ K) t ≡ go (token_event t ∷ closes 18 s (end_of t) ∷ []) K
  unfolding step at_arguments
  arguments_end s e = rw (eq-eqb t.kind 8 e)

  pub arguments_none : (s : ℕ) → (t.kind ≡ 8 → ⊥) → is_name t.kind ≡ false → step c l (arguments r s ∷ K) t ≡ stop 9
  unfolding step at_arguments or_argument
  arguments_none s b e = rw (ne_eqb t.kind 8 b, e)

-- ---- what is read at a token p
module _ (c : Bool) (t : List ℕ) (from : Reached) (d : ℕ) (p : Peeked) (F : Front t from.next p) where
  -- no arguments: what follows is due
  pub arguments_absent : ((token_of p).kind ≡ 7 → ⊥) → (K : List Sym) → reads c t (opt_arguments d ∷ K) from ≡ reads c t K from
  arguments_absent k K = run_at c t from p F (opt_arguments d ∷ K) ∙ rw (no_arguments_lem c from.end d (token_of p) K k) (sym (run_at c t from p F K))

  -- the `(`
  pub arguments_opened : {a b : Events} → (token_of p).kind ≡ 7 → Wrote a b (opens 18 p.start ∷ token_event (token_of p) ∷ [])
      → Took c t (opt_arguments d ∷ []) (first_argument d p.start ∷ []) a b from (behind p)
  arguments_opened k w = took_one c t from p F (opt_arguments d ∷ []) (first_argument d p.start ∷ []) (λ K. arguments_open c from.end d (token_of p) K k) (λ z. omega arith) w

  -- the first argument is as any other
  pub first_run : (s : ℕ) → is_name (token_of p).kind ≡ true → (K : List Sym) → reads c t (first_argument d s ∷ K) from ≡ reads c t (arguments d s ∷ K) from
  first_run s e K = run_at c t from p F (first_argument d s ∷ K) ∙ rw (first_argument_lem c from.end d (token_of p) K s e) (sym (run_at c t from p F (arguments d s ∷ K)))

  -- at least one is due
  pub first_stop : {a : Events} (s : ℕ) → is_name (token_of p).kind ≡ false → (r : Refused) → number_of r.refusal ≡ 9 → r.place ≡ p.start
      → Stopped c t (first_argument d s ∷ []) a a from r
  first_stop s e r n q = stop_one c t from p F (first_argument d s ∷ []) r (λ K. rw n (no_argument c from.end d (token_of p) K s e)) q

  pub arguments_stop : {a : Events} (s : ℕ) → ((token_of p).kind ≡ 8 → ⊥) → is_name (token_of p).kind ≡ false → (r : Refused) → number_of r.refusal ≡ 9 → r.place ≡ p.start
      → Stopped c t (arguments d s ∷ []) a a from r
  arguments_stop s b e r n q = stop_one c t from p F (arguments d s ∷ []) r (λ K. rw n (arguments_none c from.end d (token_of p) K s b e)) q

  -- an argument's name
  pub argument_named : {a b : Events} (s : ℕ) → is_name (token_of p).kind ≡ true → Wrote a b (opens 19 p.start ∷ name_events (token_of p))
      → Took c t (arguments d s ∷ []) (colon_due ∷ value d ∷ close 19 p.start ∷ arguments d s ∷ []) a b from (behind p)
  argument_named s e w =
      took_one c t from p F (arguments d s ∷ []) (colon_due ∷ value d ∷ close 19 p.start ∷ arguments d s ∷ [])
      (λ K. argument_name c from.end d (token_of p) K s e) (name_kind _ e).1 w

  -- the `)`
  pub arguments_closed : {a b : Events} (s : ℕ) → (token_of p).kind ≡ 8 → Wrote a b (token_event (token_of p) ∷ closes 18 s (end_of (token_of p)) ∷ [])
      → Took c t (arguments d s ∷ []) [] a b from (behind p)
  arguments_closed s k w = took_one c t from p F (arguments d s ∷ []) [] (λ K. arguments_end c from.end d (token_of p) K s k) (λ z. omega arith) w
