-- The loop that reads a number, on plain values: where it begins, one turn, and each way out. Assumes nothing.
use Prim.Native.Nat.{ℕ, ◌+◌, ◌-◌, ◌≤◌, ◌<◌}
use mathlib.Core.Path.{◌≡◌, refl, sym, ap, ◌∙◌}
use mathlib.Core.List.{List}
use native.Mathlib.Numerals.{add-one}
use native.Mathlib.Omega.{arith}
use lib.ListN.{length, take, drop, get_or, length-drop, drop_of_length-le}
use lib.Seq.{drop-cons}
use Rattle.base.specs.Item.{lexeme}
use Rattle.base.proofs.Lists.{part_rest}
use Rattle.codes.specs.declared.fault.Fault.{Fault}
use Rattle.codes.specs.FaultNumbers.{number_of}
use Rattle.utf8.specs.Sequence.{size}
use Rattle.utf8.proofs.Characters.{size_le}
use Rattle.numbers.specs.declared.NumberState.{NumberState}
use Rattle.numbers.specs.declared.NumberStep.TheVariants.{Go, Done, Error}
use Rattle.numbers.specs.Number.{end_of, step_of, scan_by, scan_from}

-- the loop stands at i in the state s: what was to be read from the state `start` after one byte is what is to be read from here
pub record Passed (t : List ℕ) (start s : NumberState) (i : ℕ) : Type 0 where
  pub fits : i ≤ length t
  pub same : scan_from start 1 (drop 1 t) ≡ scan_from s i (drop i t)

-- at the start
pub begin : (t : List ℕ) (s : NumberState) → 0 < length t → Passed t s s 1
begin t s h = record { fits = omega arith; same = refl }

module _ (t : List ℕ) (start s : NumberState) (i : ℕ) (p : Passed t start s i) where
  -- one byte more
  next_byte : i < length t → scan_from start 1 (drop 1 t) ≡ scan_by (step_of s (get_or t i 0)) s i (drop i t) (λ next. scan_from next (i + 1) (drop (i + 1) t))
  unfolding scan_from
  next_byte l = p.same ∙ rw (add-one i, drop-cons t i 0 l)

  -- it belongs to the number
  pub turn : (next : NumberState) → i < length t → step_of s (get_or t i 0) ≡ Go next → Passed t start next (i + 1)
  turn next l e = record { fits = omega arith; same = rw e at (next_byte l) }

  -- the number ends before it
  pub done : i < length t → step_of s (get_or t i 0) ≡ Done → lexeme (end_of s) i ≡ scan_from start 1 (drop 1 t)
  done l e = sym (rw e at (next_byte l))

  -- the text ends
  pub ended : length t ≤ i → lexeme (end_of s) (length t) ≡ scan_from start 1 (drop 1 t)
  unfolding scan_from
  ended l =
      let f = p.fits in
      let whole : length t ≡ i = omega arith in
      rw whole (sym (p.same ∙ rw (drop_of_length-le t l)))

  -- an error, through the character at i, which has n bytes
  module _ (n : ℕ) (c : n ≡ size (take (length t - i) (drop i t))) where
    -- the call tells of the character at i
    character : n ≡ size (drop i t)
    character = c ∙ ap size (part_rest t i p.fits)

    -- the error ends within the text
    pub error_fits : i + n ≤ length t
    error_fits = let l = size_le (drop i t) in let f = p.fits in let e = character in omega (arith, length-drop i t)

    -- and it is the answer
    pub failed : (f : Fault) → i < length t → step_of s (get_or t i 0) ≡ Error f → lexeme (64 + number_of f) (i + n) ≡ scan_from start 1 (drop 1 t)
    failed f l e = rw character (sym (rw e at (next_byte l)))
