-- Block strings as the code reads them: `"""` and `\"""` at a place, and the loop that goes on from place to place. Assumes nothing.
use mathlib.Core.Path.{◌≡◌, refl, ◌∙◌}
use mathlib.Core.Bool.{Bool, true, false, ◌&&◌}
use mathlib.Core.List.{List, [], ◌∷◌}
use Prim.Native.Nat.{ℕ, zero, suc, ◌+◌, ◌-◌, ◌≤◌, ◌<◌}
use native.Mathlib.Nat.{add-zero, zero-add, suc-add, add_assoc, not-suc-le-zero, le_of_suc-le-suc}
use native.Mathlib.Numerals.{add-one, one-add}
use native.Mathlib.Omega.{arith}
use borrow.Author.Tests.{eqb-true, eq-eqb, ne_eqb}
use lib.Dec.{eqb}
use lib.ListN.{length, get_or, drop, length-drop, drop_of_length-le}
use lib.Seq.{drop-cons, drop-drop, get_or-drop}
use Rattle.base.specs.Text.{pick}
use Rattle.base.specs.Item.{Lexeme, lexeme}
use Rattle.base.proofs.Tests.{apart, by, and_true}
use Rattle.rules.specs.Faults.{Scan, quotes, escaped, block}
use Rattle.rules.proofs.BlockExact.{quotes_true}
use Rattle.strings.specs.String.{block_of}

-- `"""` has three bytes
pub quotes_long : (t : List ℕ) → quotes t ≡ true → 3 ≤ length t
quotes_long [] e = let q = (quotes_true [] e).0 in absurd (omega arith)
quotes_long (x ∷ []) e = let q = (quotes_true (x ∷ []) e).1 in absurd (omega arith)
quotes_long (x ∷ y ∷ []) e = let q = (quotes_true (x ∷ y ∷ []) e).2 in absurd (omega arith)
quotes_long (x ∷ y ∷ z ∷ t) e = omega arith

-- where no quote stands at i, no `"""` does
quotes_off : (s : List ℕ) (i : ℕ) → (get_or s i 0 ≡ 34 → ⊥) → quotes (drop i s) ≡ false
unfolding quotes
quotes_off s i n = simp (get_or-drop, add-zero) (rw (ne_eqb _ 34 n))

-- `\"""` at i, by its first byte and what follows that
escaped_by : (s : List ℕ) (i : ℕ) → i < length s → escaped (drop i s) ≡ pick (eqb (get_or s i 0) 92 && quotes (drop (i + 1) s)) 3 0
unfolding escaped
escaped_by s i h = rw (add-one, drop-cons s i 0 h)

-- a `\"""` ends within the text
escaped_in : (b : ℕ) (bs : List ℕ) → escaped (b ∷ bs) ≤ length bs
unfolding escaped
escaped_in b bs = go (eqb b 92 && quotes bs) refl
  where
    go : (q : Bool) → eqb b 92 && quotes bs ≡ q → pick q 3 0 ≤ length bs
    go true e = quotes_long bs (and_true (eqb b 92) (quotes bs) e).1
    go false e = omega arith

-- a scan that began k bytes earlier
abbrev on : ℕ → Scan → Scan
on k r = record { closed = r.closed; size = k + r.size; faults = r.faults }

-- bytes that are skipped count, and are as good as dropped
block_skip : (k : ℕ) (t : List ℕ) → k ≤ length t → block k t ≡ on k (block 0 (drop k t))
unfolding block
block_skip zero t h = rw zero-add
block_skip (suc k) [] h = absurd (not-suc-le-zero h)
block_skip (suc k) (b ∷ bs) h = rw (block_skip k bs (le_of_suc-le-suc h), suc-add)

-- no `"""` in front: on by one byte, or over a `\"""`
block_step : (t : List ℕ) → 0 < length t → quotes t ≡ false → block 0 t ≡ on (1 + escaped t) (block 0 (drop (1 + escaped t) t))
unfolding block
block_step [] h e = absurd (omega arith)
block_step (b ∷ bs) h e = rw (e, one-add, suc-add, block_skip (escaped (b ∷ bs)) bs (escaped_in b bs))

-- the answer of a block string that is read on from i
abbrev pub block_from : ℕ → List ℕ → Lexeme
block_from i t = lexeme (pick (block 0 (drop i t)).closed 19 76) (i + (block 0 (drop i t)).size)

-- it is read on from the opening `"""`
pub block_begins : (t : List ℕ) → block_of t ≡ block_from 3 t
unfolding block_of
block_begins t = let e : suc (suc (suc (block 0 (drop 3 t)).size)) ≡ 3 + (block 0 (drop 3 t)).size = omega arith in rw e

-- the closing `"""` stands at i
pub block_closes : (i : ℕ) (t : List ℕ) → i < length t → quotes (drop i t) ≡ true
    → block_from i t ≡ lexeme 19 (i + 3)
unfolding block
block_closes i t h e = rw (shut (drop i t) (simp length-drop (omega arith)) e)
  where
    shut : (s : List ℕ) → 0 < length s → quotes s ≡ true → block 0 s ≡ record { closed = true; size = 3; faults = [] }
    shut [] h e = absurd (omega arith)
    shut (b ∷ bs) h e = rw e

-- no `"""` at i: one turn of the loop, which stays within the text
block_turn : (i : ℕ) (t : List ℕ) → i < length t → quotes (drop i t) ≡ false → block_from i t ≡ block_from (i + (1 + escaped (drop i t))) t
block_turn i t h e =
    rw (add_assoc, ← drop-drop, block_step (drop i t) (simp length-drop (omega arith)) e)

block_within : (i : ℕ) (t : List ℕ) → i < length t → i + (1 + escaped (drop i t)) ≤ length t
block_within i t h = go (drop i t) (length-drop i t)
  where
    go : (s : List ℕ) → length s ≡ length t - i → i + (1 + escaped s) ≤ length t
    go [] l = absurd (omega arith)
    go (b ∷ bs) l = let w = escaped_in b bs in omega arith

-- over a `\"""` at i
pub block_over : (i : ℕ) (t : List ℕ) → i < length t → get_or t i 0 ≡ 92 → quotes (drop (i + 1) t) ≡ true → (i + 4 ≤ length t) × (block_from i t ≡ block_from (i + 4) t)
block_over i t h e q =
    let four = rw (e, q) at (escaped_by t i h) in
    (rw four at (block_within i t h), rw four at (block_turn i t h (quotes_off t i (λ z. omega arith))))

-- on by one byte, where neither stands at i
pub block_on : (i : ℕ) (t : List ℕ) → i < length t → (get_or t i 0 ≡ 34 → quotes (drop i t) ≡ false) → (get_or t i 0 ≡ 92 → quotes (drop (i + 1) t) ≡ false)
    → block_from i t ≡ block_from (i + 1) t
block_on i t h n m = rw none at (block_turn i t h (by (eqb (get_or t i 0) 34) (λ e. n (eqb-true _ 34 e)) (λ e. quotes_off t i (λ z. apart _ (eq-eqb _ 34 z) e))))
  where
    none : escaped (drop i t) ≡ 0
    none = escaped_by t i h ∙ by (eqb (get_or t i 0) 92) (λ e. rw (e, m (eqb-true _ 92 e))) (λ e. rw e)

-- the text ends
pub block_ends : (i : ℕ) (t : List ℕ) → length t ≤ i → block_from i t ≡ lexeme 76 i
unfolding block
block_ends i t h = rw (drop_of_length-le t h, add-zero)
