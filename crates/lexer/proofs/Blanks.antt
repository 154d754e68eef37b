-- Blanks as the code finds them: by the class of a byte or as U+FEFF, and one after the other. Assumes nothing.
use Prim.Native.Nat.{ℕ, ◌+◌, ◌-◌, ◌≤◌, ◌<◌}
use mathlib.Core.Path.{◌≡◌, sym, ap, ◌∙◌}
use mathlib.Core.Bool.{true, false}
use mathlib.Core.List.{List}
use native.Mathlib.Omega.{arith}
use borrow.Author.Tests.{eqb-true}
use lib.Dec.{eqb}
use lib.ListN.{length, take, drop, get_or, length-drop}
use Rattle.base.specs.Span.{span}
use Rattle.base.proofs.Lists.{part_rest}
use Rattle.base.proofs.Span.{span_stop, span_turn}
use Rattle.base.proofs.Tests.{or_true}
use Rattle.rules.specs.Tokens.{blank_by, blank, blanks}
use Rattle.rules.proofs.Blanks.{blank_le}
use Rattle.lookup.specs.Class.{class_of}
use Rattle.lookup.proofs.Classes.{blank_byte, class_blank}

-- one byte
by_one : (a b c : ℕ) → blank_byte a ≡ true → blank_by a b c ≡ 1
unfolding blank_by
by_one a b c e =
    or_true (eqb a 9) _ e (λ h. rw h)
    (λ e. or_true (eqb a 10) _ e (λ h. rw (eqb-true a 10 h))
    (λ e. or_true (eqb a 13) _ e (λ h. rw (eqb-true a 13 h))
    (λ e. or_true (eqb a 32) false e (λ h. rw (eqb-true a 32 h)) (λ z. let n : ◌≡◌ {A = ℕ} 0 1 = cc in absurd (omega arith)))))

pub blank_one : (s : List ℕ) → class_of (get_or s 0 0) ≡ 1 → blank s ≡ 1
unfolding blank
blank_one s e = by_one _ _ _ (class_blank _ e)

-- the loop: a blank of n bytes stands at i, or none
rest : (s : List ℕ) (i n : ℕ) → i ≤ length s → blank (take (length s - i) (drop i s)) ≡ n → blank (drop i s) ≡ n
rest s i n h e = ap blank (sym (part_rest s i h)) ∙ e

pub record Turn (s : List ℕ) (i n : ℕ) : Type 0 where
  pub fits : i + n ≤ length s
  pub again : blanks s ≡ i + n + span blank 0 (drop (i + n) s)

pub turn : (s : List ℕ) (i n : ℕ) → i ≤ length s → blanks s ≡ i + span blank 0 (drop i s) → 0 < n → blank (take (length s - i) (drop i s)) ≡ n → Turn s i n
turn s i n h inv d e =
    let u = rest s i n h e in
    let l = rw u at (blank_le (drop i s)) in
    record {
      fits = omega (arith, length-drop i s);
      again = span_turn blank s i n (blanks s) inv u d l;
    }

pub stop : (s : List ℕ) (i : ℕ) → i ≤ length s → blanks s ≡ i + span blank 0 (drop i s) → blank (take (length s - i) (drop i s)) ≡ 0 → i ≡ blanks s
stop s i h inv e = let st = span_stop blank (drop i s) (rest s i 0 h e) in omega arith
