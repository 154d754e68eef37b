-- A field's first name in the reader's definition: an alias, or the field's own. Assumes nothing.
use Prim.Native.Nat.{ℕ}
use mathlib.Core.Path.{◌≡◌}
use mathlib.Core.Bool.{Bool}
use mathlib.Core.List.{List, [], ◌∷◌, ◌++◌}
use native.Mathlib.Omega.{arith}
use borrow.Author.Tests.{ne_eqb}
use Rattle.syntax.specs.Token.{Token, end_of, token_event, opens, closes, name_events}
use Rattle.syntax.specs.Machine.{Sym, named, name, opt_arguments, opt_directives, opt_selection_set, close, go, also, step}
use Rattle.parser.specs.declared.token.Peeked.{Peeked}
use Rattle.parser.specs.declared.token.Reached.{Reached}
use Rattle.parser.specs.declared.events.Events.{Events}
use Rattle.parser.specs.View.{behind, token_of, Front}
use Rattle.parser.specs.Events.{Wrote}
use Rattle.parser.specs.Promise.{Ready, Went, Took}
use Rattle.parser.proofs.Moves.{took_one, went_first}
use Rattle.selections.proofs.Sets.{also_run}

-- what may follow a field's name
abbrev pub parts : (d s : ℕ) → List Sym
parts d s = opt_arguments d ∷ opt_directives d ∷ opt_selection_set d ∷ close 16 s ∷ []

module _ (c : Bool) (l d : ℕ) (n t : Token) (K : List Sym) where
  at_alias : t.kind ≡ 10
      → step c l (named d n ∷ K) t ≡ go (opens 16 n.start ∷ opens 17 n.start ∷ (name_events n ++ (token_event t ∷ closes 17 n.start (end_of t) ∷ []))) (name ∷ (parts d n.start ++ K))
  unfolding step
  at_alias e = rw e

  no_alias_lem : (t.kind ≡ 10 → ⊥) → step c l (named d n ∷ K) t ≡ also (opens 16 n.start ∷ name_events n) (step c l (parts d n.start ++ K) t)
  unfolding step
  no_alias_lem e = rw (ne_eqb t.kind 10 e)

-- p follows the name n
module _ (c : Bool) (t : List ℕ) (from : Reached) (d : ℕ) (n : Token) (p : Peeked) (F : Front t from.next p) {a b : Events} where
  pub own_name : ((token_of p).kind ≡ 10 → ⊥) → Ready t from → Wrote a b (opens 16 n.start ∷ name_events n) → Went c t (named d n ∷ []) (parts d n.start) a b from from
  own_name e R w =
      went_first R w
      (λ K. also_run c t from d p F (opens 16 n.start ∷ name_events n) (named d n ∷ K) (parts d n.start ++ K) (no_alias_lem c from.end d n (token_of p) K e))

  pub alias_name : (token_of p).kind ≡ 10
      → Wrote a b (opens 16 n.start ∷ opens 17 n.start ∷ (name_events n ++ (token_event (token_of p) ∷ closes 17 n.start (end_of (token_of p)) ∷ [])))
      → Took c t (named d n ∷ []) (name ∷ parts d n.start) a b from (behind p)
  alias_name e w = took_one c t from p F (named d n ∷ []) (name ∷ parts d n.start) (λ K. at_alias c from.end d n (token_of p) K e) (λ z. omega arith) w
