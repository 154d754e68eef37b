-- The first error item, as `find` over the items' numbers finds it. Assumes nothing.
use Prim.Native.Nat.{ℕ, zero, suc, ◌≤◌, ◌<◌, zero-le, suc-le-suc}
use mathlib.Core.Path.{◌≡◌, ap}
use mathlib.Core.List.{List, [], ◌∷◌}
use native.Mathlib.Omega.{arith}
use borrow.Author.Tests.{le-leb, lt-leb}
use lib.ListN.{length, get_or}
use Rattle.std.specs.Prelude.{Option, None, Some}
use Rattle.std.specs.Option.{MatchOption}
use Rattle.base.specs.Item.{Item}
use Rattle.tiles.specs.Tiles.{eof}
use Rattle.grammar.specs.Answers.{is_error, first_error}
use Rattle.grammar.specs.Promise.{IsFirst}

-- no error among the first i items
passed : (xs : List Item) (i : ℕ) → i ≤ length xs → ((k : ℕ) → k < i → (get_or xs k (eof 0)).code < 64) → i ≤ first_error xs
unfolding first_error is_error
passed xs zero l h = zero-le
passed [] (suc i) l h = absurd (omega arith)
passed (x ∷ xs) (suc i) l h = rw (lt-leb 64 x.code (h 0 (omega arith))) (suc-le-suc (passed xs i (omega arith) (λ k b. h (suc k) (omega arith))))

-- item i is the first
found : (xs : List Item) (i : ℕ) → i < length xs → ((k : ℕ) → k < i → (get_or xs k (eof 0)).code < 64) → 64 ≤ (get_or xs i (eof 0)).code → i ≡ first_error xs
unfolding first_error is_error
found [] i l h g = absurd (omega arith)
found (x ∷ xs) zero l h g = rw (le-leb 64 x.code g)
found (x ∷ xs) (suc i) l h g = rw (lt-leb 64 x.code (h 0 (omega arith))) (ap suc (found xs i (omega arith) (λ k b. h (suc k) (omega arith)) g))

-- the items' codes are read off a tape
pub first_found : (xs : List Item) (n : ℕ) (code : ℕ → ℕ) → n ≡ length xs → ((k : ℕ) → k < length xs → code k ≡ (get_or xs k (eof 0)).code) → (r : Option ℕ)
    → MatchOption r ((k : ℕ) → 0 ≤ k → k < n → code k < 64) (λ i. (0 ≤ i) × (i < n) × (64 ≤ code i) × ((k : ℕ) → 0 ≤ k → k < i → code k < 64)) → IsFirst xs r
first_found xs n code e c None h = passed xs (length xs) (omega arith) (λ k b. omega (arith, h k (omega arith) (omega arith), c k b))
first_found xs n code e c (Some i) (_, l, g, h) =
    let l' : i < length xs = omega arith in
    (found xs i l' (λ k b. omega (arith, h k (omega arith) b, c k (omega arith))) (omega (arith, g, c i l')), l')
