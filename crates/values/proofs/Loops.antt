-- Lists, objects and fields, turn by turn. Assumes nothing.
use Prim.Native.Nat.{ℕ, zero, suc, ◌-◌}
use mathlib.Core.Path.{◌≡◌, refl, sym, ◌∙◌}
use mathlib.Core.Bool.{Bool, false}
use mathlib.Core.List.{List, [], ◌∷◌, ◌++◌}
use native.Mathlib.Omega.{arith}
use Rattle.codes.specs.RefusalNumbers.{number_of}
use Rattle.codes.specs.declared.refusal.Refused.{Refused}
use Rattle.syntax.specs.Token.{is_name, Token, end_of, token_event, opens, closes}
use Rattle.syntax.specs.Machine.{Sym, value, deeper, items, fields, run}
use Rattle.parser.specs.declared.token.Peeked.{Peeked}
use Rattle.parser.specs.declared.token.Reached.{Reached}
use Rattle.parser.specs.declared.events.Events.{Events}
use Rattle.parser.specs.View.{behind, rest, token_of, Front}
use Rattle.parser.specs.Events.{Wrote}
use Rattle.parser.specs.Promise.{reads, Took, Stopped}
use Rattle.parser.proofs.Moves.{run_at, took_one, stop_one, took_above, took_same, stopped_above, stopped_same}
use Rattle.values.proofs.Steps.{at_bracket, at_brace, list_ends, list_cut, list_deep, list_item, object_ends, object_none, too_deep_lem, one_deeper}

module _ (c : Bool) (t : List ℕ) (from : Reached) where
  -- with depth left, an item of a list is a value with one level less
  item_run : (d s : ℕ) (p : Peeked) → Front t from.next p → ((token_of p).kind ≡ 14 → ⊥) → ((token_of p).kind ≡ 0 → ⊥) → (d ≡ 0 → ⊥)
      → (K : List Sym) → reads c t (items d s ∷ K) from ≡ reads c t (value (d - 1) ∷ items d s ∷ K) from
  item_run zero s p F b e z K = absurd (z refl)
  item_run (suc r) s p F b e z K =
      let q : suc r - 1 ≡ r = omega arith in
      rw q (run_at c t from p F (items (suc r) s ∷ K) ∙ rw (list_item c from.end r s (token_of p) K b e) (sym (run_at c t from p F (value r ∷ items (suc r) s ∷ K))))

  -- and so is what follows a field's `:`
  deeper_run : (d : ℕ) → (d ≡ 0 → ⊥) → (K : List Sym) → reads c t (deeper d ∷ K) from ≡ reads c t (value (d - 1) ∷ K) from
  unfolding run
  deeper_run zero z K = absurd (z refl)
  deeper_run (suc r) z K = let q : suc r - 1 ≡ r = omega arith in rw q (go (rest t from.next))
    where
      go : (ts : List Token) → run c (deeper (suc r) ∷ K) from.end ts ≡ run c (value r ∷ K) from.end ts
      go [] = refl
      go (u ∷ us) = rw (one_deeper c from.end r u K)

  -- ---- a list or an object opens, with p
  module _ (d : ℕ) (p : Peeked) (F : Front t from.next p) {a b : Events} where
    pub list_opened : (token_of p).kind ≡ 13 → Wrote a b (opens 8 p.start ∷ token_event (token_of p) ∷ [])
        → Took c t (value d ∷ []) (items d p.start ∷ []) a b from (behind p)
    list_opened k w = took_one c t from p F (value d ∷ []) (items d p.start ∷ []) (λ K. at_bracket c from.end d (token_of p) K k) (λ z. omega arith) w

    pub object_opened : (token_of p).kind ≡ 15 → Wrote a b (opens 9 p.start ∷ token_event (token_of p) ∷ [])
        → Took c t (value d ∷ []) (fields d p.start ∷ []) a b from (behind p)
    object_opened k w = took_one c t from p F (value d ∷ []) (fields d p.start ∷ []) (λ K. at_brace c from.end d (token_of p) K k) (λ z. omega arith) w

  -- ---- at a token p of a list or an object
  module _ (d s : ℕ) (p : Peeked) (F : Front t from.next p) where
    pub list_end : {a b : Events} → (token_of p).kind ≡ 14 → Wrote a b (token_event (token_of p) ∷ closes 8 s (end_of (token_of p)) ∷ [])
        → Took c t (items d s ∷ []) [] a b from (behind p)
    list_end k w = took_one c t from p F (items d s ∷ []) [] (λ K. list_ends c from.end d (token_of p) K s k) (λ z. omega arith) w

    pub list_eof : {a : Events} → (token_of p).kind ≡ 0 → (r : Refused) → number_of r.refusal ≡ 9 → r.place ≡ p.start → Stopped c t (items d s ∷ []) a a from r
    list_eof k r n e = stop_one c t from p F (items d s ∷ []) r (λ K. rw n (list_cut c from.end d (token_of p) K s k)) e

    pub list_no_depth : {a : Events} → ((token_of p).kind ≡ 14 → ⊥) → ((token_of p).kind ≡ 0 → ⊥) → d ≡ 0 → (r : Refused) → number_of r.refusal ≡ 7 → r.place ≡ p.start
        → Stopped c t (items d s ∷ []) a a from r
    list_no_depth b e z r n q = stop_one c t from p F (items d s ∷ []) r (λ K. rw n (list_deep c from.end d (token_of p) K s b e z)) q

    -- an item: a value with one level less
    pub list_value_item : {a b : Events} {to : Reached} → ((token_of p).kind ≡ 14 → ⊥) → ((token_of p).kind ≡ 0 → ⊥) → (d ≡ 0 → ⊥)
        → Took c t (value (d - 1) ∷ []) [] a b from to → Took c t (items d s ∷ []) (items d s ∷ []) a b from to
    list_value_item b e z h = took_same (items d s ∷ []) (item_run d s p F b e z) (took_above (items d s ∷ []) h)

    pub list_value_stop : {a b : Events} {r : Refused} → ((token_of p).kind ≡ 14 → ⊥) → ((token_of p).kind ≡ 0 → ⊥) → (d ≡ 0 → ⊥)
        → Stopped c t (value (d - 1) ∷ []) a b from r → Stopped c t (items d s ∷ []) a b from r
    list_value_stop b e z h = stopped_same (items d s ∷ []) (item_run d s p F b e z) (stopped_above (items d s ∷ []) h)

    pub object_end : {a b : Events} → (token_of p).kind ≡ 17 → Wrote a b (token_event (token_of p) ∷ closes 9 s (end_of (token_of p)) ∷ [])
        → Took c t (fields d s ∷ []) [] a b from (behind p)
    object_end k w = took_one c t from p F (fields d s ∷ []) [] (λ K. object_ends c from.end d (token_of p) K s k) (λ z. omega arith) w

    pub object_stop : {a : Events} → ((token_of p).kind ≡ 17 → ⊥) → is_name (token_of p).kind ≡ false → (r : Refused) → number_of r.refusal ≡ 9 → r.place ≡ p.start
        → Stopped c t (fields d s ∷ []) a a from r
    object_stop b e r n q = stop_one c t from p F (fields d s ∷ []) r (λ K. rw n (object_none c from.end d (token_of p) K s b e)) q

    -- 7 after a field's `:`
    pub field_no_depth : {a : Events} (left : List Sym) → d ≡ 0 → (r : Refused) → number_of r.refusal ≡ 7 → r.place ≡ p.start → Stopped c t (deeper d ∷ left) a a from r
    field_no_depth left z r n q = stop_one c t from p F (deeper d ∷ left) r (λ K. rw n (too_deep_lem c from.end d (token_of p) (left ++ K) z)) q

  -- ---- a field's value, after its name and `:`
  pub field_value : (d : ℕ) (left : List Sym) {a b : Events} {to : Reached} → (d ≡ 0 → ⊥) → Took c t (value (d - 1) ∷ []) [] a b from to
      → Took c t (deeper d ∷ left) left a b from to
  field_value d left z h = took_same (deeper d ∷ left) (λ K. deeper_run d z (left ++ K)) (took_above left h)

  pub field_value_stop : (d : ℕ) (left : List Sym) {a b : Events} {r : Refused} → (d ≡ 0 → ⊥) → Stopped c t (value (d - 1) ∷ []) a b from r
      → Stopped c t (deeper d ∷ left) a b from r
  field_value_stop d left z h = stopped_same (deeper d ∷ left) (λ K. deeper_run d z (left ++ K)) (stopped_above left h)
