-- The first error item, entry after entry, and as `find_map` over the entries' numbers finds it. Assumes nothing.
use Prim.Native.Nat.{ℕ, zero, suc, ◌+◌, ◌-◌, ◌<◌, ◌≤◌}
use mathlib.Core.Path.{◌≡◌, refl, sym, ap, subst, ◌∙◌}
use mathlib.Core.List.{List}
use mathlib.Core.Bool.{true, true≢false}
use denote.Param.Members.{Mut}
use Rattle.std.specs.Prelude.{Option, None, Some}
use Rattle.std.specs.Option.{MatchOption, SomeIff, IsSomeAnd, is_some, option_map}
use Rattle.std.specs.Fn.{Called}
use Rattle.std.specs.Iterator.Runs.{SomeRun, AllItemsGive, IsFirstToGive}
use Rattle.std.specs.declared.ops.Range.{Range}
use Rattle.std.proofs.iter.Yields.{nat_range_steps}
use Rattle.std.proofs.iter.runs.Sources.{range_runs}
use native.Mathlib.Omega.{arith}
use borrow.Author.Tests.{le-leb, lt-leb}
use Rattle.print.specs.Entries.{entry_at, first_error}

same : (o : Option ℕ) (n : ℕ) → option_map (λ y. y) o ≡ Some n → o ≡ Some n
same None n e = absurd (true≢false (sym (ap is_some e)))
same (Some x) n e = e

module _ (tape : List ℕ) where
  -- no error among n entries from i on
  nowhere : (i n : ℕ) → ((k : ℕ) → i ≤ k → k < i + n → (entry_at tape k).code < 64) → None ≡ first_error tape i n
  unfolding first_error
  nowhere i zero h = refl
  nowhere i (suc n) h =
      let z : (entry_at tape i).code < 64 = h i (omega arith) (omega arith) in
      rw (lt-leb 64 (entry_at tape i).code z) (nowhere (suc i) n (λ k a b. h k (omega arith) (omega arith)))

  -- the first error of n entries from i on is at k
  found : (i n d k : ℕ) → d < n → k ≡ i + d → ((j : ℕ) → i ≤ j → j < k → (entry_at tape j).code < 64) → 64 ≤ (entry_at tape k).code
      → Some ((entry_at tape k).code - 64) ≡ first_error tape i n
  unfolding first_error
  found i zero d k l e h g = absurd (omega arith)
  found i (suc n) zero k l e h g =
      let m : k ≡ i = omega arith in
      rw (← m, le-leb 64 (entry_at tape k).code g)
  found i (suc n) (suc d) k l e h g =
      let z : (entry_at tape i).code < 64 = h i (omega arith) (omega arith) in
      rw (lt-leb 64 (entry_at tape i).code z) (found (suc i) n d k (omega arith) (omega arith) (λ j a b. h j (omega arith) b) g)

  -- what `find_map` over the numbers of the entries stops with
  module _ {F : Type 0} (g : Mut F (ℕ × Unit {0}) (Option ℕ)) (f : F)
      (shows : (k : ℕ) (r : Option ℕ) (q : F) → Called g f (k, tt) r q → (q ≡ f) × SomeIff r (64 ≤ (entry_at tape k).code) ((entry_at tape k).code - 64)) where
    keeps : (a : ℕ × Unit {0}) (r : Option ℕ) (q : F) → Called g f a r q → q ≡ f
    keeps a r q h = (shows a.0 r q h).0

    clean : (k : ℕ) → Called g f (k, tt) None f → (entry_at tape k).code < 64
    clean k h = omega (arith, (shows k None f h).1)

    pub searched : (n : ℕ) (s : Range ℕ) (r : Option ℕ) → s ≡ record { start = 0; end = n }
        → SomeRun nat_range_steps s (λ p. MatchOption r ((p.whole ≡ true) × AllItemsGive p g f None)
        (λ y. (i : ℕ) × (i < p.len) × (p.len ≡ i + 1) × IsFirstToGive p g f (Some y) None i))
        → r ≡ first_error tape 0 n
    searched n s r e (p, b, h) = go r h
      where
        start : p.from.start ≡ 0
        start = ap (λ (t : Range ℕ). t.start) (b ∙ e)

        end : p.from.end ≡ n
        end = ap (λ (t : Range ℕ). t.end) (b ∙ e)

        at : (k : ℕ) → k < p.len → p.at k ≡ Some k
        at k l = same (p.at k) k ((range_runs p p.seen).3 k l ∙ ap Some (omega (arith, start)))

        go : (o : Option ℕ) → MatchOption o ((p.whole ≡ true) × AllItemsGive p g f None)
            (λ y. (i : ℕ) × (i < p.len) × (p.len ≡ i + 1) × IsFirstToGive p g f (Some y) None i) → o ≡ first_error tape 0 n
        go None (w, a) =
            let l : p.len ≡ n = omega (arith, (range_runs p p.seen).1 w, start, end) in
            nowhere 0 n (λ k i j. clean k (subst (λ o. MatchOption o (Unit {0}) (λ x. Called g f (x, tt) None f)) (at k (omega arith)) (a keeps k)))
        go (Some y) (i, l, m, a) =
            let u : i < n = omega (arith, (range_runs p p.seen).0, start, end) in
            let v = (shows i (Some y) f (subst (λ o. IsSomeAnd o (λ x. Called g f (x, tt) (Some y) f)) (at i l) (a keeps).0)).1 in
            ap Some v.1 ∙ found 0 n i i u (omega arith)
            (λ k _ b. clean k (subst (λ o. IsSomeAnd o (λ x. Called g f (x, tt) None f)) (at k (omega arith)) ((a keeps).1 k b))) v.0
