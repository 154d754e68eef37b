-- The machine of numbers is right: what it gives of a text that starts with a digit or `-` is the item of document 01. Assumes nothing.
use Prim.Native.Nat.{ℕ, suc, ◌+◌, ◌≤◌, ◌<◌}
use mathlib.Core.Path.{◌≡◌, refl, sym}
use mathlib.Core.List.{List, [], ◌∷◌, ◌++◌, append_assoc, append-nil}
use mathlib.Core.Bool.{Bool, true, false, ◌||◌}
use native.Mathlib.Numerals.{add-one}
use native.Mathlib.Omega.{arith}
use borrow.Author.Tests.{eqb-true, ne_eqb}
use lib.Dec.{eqb}
use lib.ListN.{length, drop, get_or, length-append}
use lib.Seq.{append_snoc}
use Rattle.base.specs.Text.{pick, from, All, Optional, missing, given}
use Rattle.base.proofs.Tests.{or_true, from_true, from_below}
use Rattle.codes.specs.declared.fault.Fault as declared
use Rattle.codes.specs.declared.fault.Fault.TheVariants as fault
use Rattle.codes.specs.FaultNumbers.{number_of}
use Rattle.utf8.specs.Sequence.{width, size}
use Rattle.rules.specs.Classes.{digit, nonzero, letter, name_start, exponent_mark, sign, after_number, point_or_name}
use Rattle.rules.specs.Rules.{Digits, digits, IntegerPart, unsigned, FractionalPart, plain, signed, ExponentPart, mark, FloatValue, fraction, exponent, both, int, float}
use Rattle.rules.specs.Rules
use Rattle.rules.specs.Errors.{LeadingZero, nought, minus_nought, to_point, to_mark, to_sign, Fault, second_digit, suffix, no_fraction, after_fraction, after_exponent, no_exponent, no_signed, ended, Stands, token, error}
use Rattle.rules.specs.Errors
use Rattle.rules.specs.Items.{item_at}
use Rattle.rules.proofs.Classes.{digit_range, digit_nonzero}
use Rattle.rules.proofs.Items.{Is, item_complete}
use Rattle.numbers.specs.declared.NumberState.{NumberState}
use Rattle.numbers.specs.declared.NumberState.TheVariants as state
use Rattle.numbers.specs.declared.NumberStep.{NumberStep}
use Rattle.numbers.specs.declared.NumberStep.TheVariants.{Go, Done, Error}
use Rattle.numbers.specs.Number.{end_of, after_integer, after_float, digit_step, other_step, step_of, scan_by, scan_from}

-- a byte of ASCII is a character of its own
low_one : (b : ℕ) (r : List ℕ) → b ≤ 127 → size (b ∷ r) ≡ 1
unfolding size width
low_one b r h = rw (from_below 194 223 b (omega arith), from_below 224 239 b (omega arith), from_below 240 244 b (omega arith)) (omega arith)

-- so is a digit
digit_one : (b : ℕ) (r : List ℕ) → digit b ≡ true → size (b ∷ r) ≡ 1
digit_one b r e = let h = digit_range b e in low_one b r (omega arith)

-- and a name start
name_one : (b : ℕ) (r : List ℕ) → name_start b ≡ true → size (b ∷ r) ≡ 1
unfolding name_start letter
name_one b r e =
    or_true (letter b) (eqb b 95) e
    (λ h. or_true (from 65 90 b) (from 97 122 b) h (λ g. let k = from_true 65 90 b g in low_one b r (omega arith)) (λ g. let k = from_true 97 122 b g in low_one b r (omega arith)))
    (λ h. let k = eqb-true b 95 h in low_one b r (omega arith))

-- digits, and one digit more
all_more : (a : List ℕ) (b : ℕ) → All digit a → digit b ≡ true → All digit (a ++ (b ∷ []))
all_more [] b h d = (d, tt)
all_more (x ∷ a) b h d = (h.0, all_more a b h.1 d)

-- Digit+, and one digit more
digits_more : {a : List ℕ} (b : ℕ) → Digits a → digit b ≡ true → Digits (a ++ (b ∷ []))
digits_more b (digits {a = a} h g) d = digits h (all_more a b g d)

-- a fraction, and one digit more
fraction_more : {a : List ℕ} (b : ℕ) → FractionalPart a → digit b ≡ true → FractionalPart (a ++ (b ∷ []))
fraction_more b (Rules.point h) d = Rules.point (digits_more b h d)

-- an exponent, and one digit more
exponent_more : {a : List ℕ} (b : ℕ) → ExponentPart a → digit b ≡ true → ExponentPart (a ++ (b ∷ []))
exponent_more b (mark m (plain h)) d = mark m (plain (digits_more b h d))
exponent_more b (mark m (signed s h)) d = mark m (signed s (digits_more b h d))

-- the bytes that lead to each state
data Form : NumberState → List ℕ → Type 0 where
  minus_sign : Form state.MinusSign (45 ∷ [])
  leading_zero : {a : List ℕ} → LeadingZero a → Form state.LeadingZero a
  positive : {b : ℕ} {a : List ℕ} → nonzero b ≡ true → All digit a → Form state.IntegerPart (b ∷ a)
  negative : {b : ℕ} {a : List ℕ} → nonzero b ≡ true → All digit a → Form state.IntegerPart (45 ∷ b ∷ a)
  decimal_point : (i : List ℕ) → IntegerPart i → Form state.DecimalPoint (i ++ (46 ∷ []))
  fractional : (i f : List ℕ) → IntegerPart i → FractionalPart f → Form state.FractionalPart (i ++ f)
  indicator : (i f : List ℕ) (x : ℕ) → IntegerPart i → Optional FractionalPart f → exponent_mark x ≡ true
      → Form state.ExponentIndicator (i ++ (f ++ (x ∷ [])))
  exponent_sign : (i f : List ℕ) (x s : ℕ) → IntegerPart i → Optional FractionalPart f → exponent_mark x ≡ true → sign s ≡ true
      → Form state.ExponentSign (i ++ (f ++ (x ∷ s ∷ [])))
  exponent_digit : (i f e : List ℕ) → IntegerPart i → Optional FractionalPart f → ExponentPart e → Form state.ExponentDigit (i ++ (f ++ e))

-- what a step has to be, where the bytes p led to the state s, and b and r follow: p and b lead to the next state; a number ends before b;
-- or an error covers p and the character at b
data Right (s : NumberState) (p : List ℕ) (b : ℕ) (r : List ℕ) : NumberStep → Type 0 where
  goes : {next : NumberState} → Form next (p ++ (b ∷ [])) → Right s p b r (Go next)
  ends : Stands (end_of s) (p ++ (b ∷ r)) (length p) → Right s p b r Done
  fails : {f : declared.Fault} → Fault (number_of f) (p ++ (b ∷ r)) (length p + size (b ∷ r)) → Right s p b r (Error f)

-- by a test
tested : {s : NumberState} {p : List ℕ} {b : ℕ} {r : List ℕ} {x y : NumberStep} (v : Bool) → (v ≡ true → Right s p b r x) → (v ≡ false → Right s p b r y)
    → Right s p b r (pick v x y)
tested true f g = f refl
tested false f g = g refl

-- bytes of a state's form, in other words
led : {s : NumberState} {p q : List ℕ} → q ≡ p → Form s p → Form s q
led e h = rw e h

-- an error, of a text and a size in other words
moved : {k n m : ℕ} {t u : List ℕ} → u ≡ t → m ≡ n → Fault k t n → Fault k u m
moved e l h = rw (e, l) h

-- after an integer part
after_integer_lem : (s : NumberState) (i : List ℕ) (b : ℕ) (r : List ℕ) → end_of s ≡ 20 → IntegerPart i → digit b ≡ false → Right s i b r (after_integer b)
unfolding after_integer after_number
after_integer_lem s i b r k h d =
    tested (eqb b 46) (λ p. goes (rw (eqb-true b 46 p) (decimal_point i h)))
    (λ p. tested (exponent_mark b) (λ m. goes (indicator i [] b h missing m))
    (λ m. tested (name_start b) (λ n. fails (rw (name_one b r n) (suffix i (b ∷ r) h n m)))
    (λ n. ends (rw k (token (int i (b ∷ r) h (rw (d, p, n))))))))

-- after a fraction or an exponent, where `.` and a name start are error 5
after_float_lem : (s : NumberState) (p : List ℕ) (b : ℕ) (r : List ℕ) → end_of s ≡ 21 → FloatValue p → digit b ≡ false
    → (point_or_name b ≡ true → Fault 5 (p ++ (b ∷ r)) (length p + 1)) → Right s p b r (after_float b)
unfolding after_float after_number point_or_name
after_float_lem s p b r k h d w =
    tested (eqb b 46) (λ e. fails (rw (low_one b r (let l = eqb-true b 46 e in omega arith)) (w (rw e))))
    (λ e. tested (name_start b) (λ n. fails (rw (name_one b r n) (w (rw (e, n)))))
    (λ n. ends (rw k (token (float p (b ∷ r) h (rw (d, e, n)))))))

-- a leading zero is an integer part
leading_integer : {a : List ℕ} → LeadingZero a → IntegerPart a
leading_integer nought = unsigned Rules.nought
leading_integer minus_nought = Rules.minus Rules.nought

-- a number with an exponent is a FloatValue
exponent_float : {i f e : List ℕ} → IntegerPart i → Optional FractionalPart f → ExponentPart e → FloatValue (i ++ (f ++ e))
exponent_float {i} {f} {e} h missing k = exponent i e h k
exponent_float {i} {f} {e} h (given g) k = both i f e h g k

-- an integer part, a fraction and one part more, with what follows them
regroup : (i f a r : List ℕ) → (i ++ (f ++ a)) ++ r ≡ i ++ (f ++ (a ++ r))
regroup i f a r = simp append_assoc

-- each step on a digit is right
digit_right : {s : NumberState} {p : List ℕ} (b : ℕ) (r : List ℕ) → Form s p → digit b ≡ true → Right s p b r (digit_step s b)
unfolding digit_step
digit_right b r minus_sign d =
    tested (eqb b 48) (λ z. goes (rw (eqb-true b 48 z) (leading_zero minus_nought))) (λ z. goes (negative (digit_nonzero b d z) tt))
digit_right b r (leading_zero {a = a} h) d = fails {f = fault.SecondDigit} (rw (digit_one b r d) (second_digit a (b ∷ r) h d))
digit_right b r (positive {a = a} n h) d = goes (positive n (all_more a b h d))
digit_right b r (negative {a = a} n h) d = goes (negative n (all_more a b h d))
digit_right b r (decimal_point i h) d = goes (led (append_snoc i 46 (b ∷ [])) (fractional i (46 ∷ b ∷ []) h (Rules.point (digits d tt))))
digit_right b r (fractional i f h g) d = goes (led (append_assoc i f (b ∷ [])) (fractional i (f ++ (b ∷ [])) h (fraction_more b g d)))
digit_right b r (indicator i f x h g m) d = goes (led (regroup i f (x ∷ []) (b ∷ [])) (exponent_digit i f (x ∷ b ∷ []) h g (mark m (plain (digits d tt)))))
digit_right b r (exponent_sign i f x s h g m p) d =
    goes (led (regroup i f (x ∷ s ∷ []) (b ∷ [])) (exponent_digit i f (x ∷ s ∷ b ∷ []) h g (mark m (signed p (digits d tt)))))
digit_right b r (exponent_digit i f e h g k) d = goes (led (regroup i f e (b ∷ [])) (exponent_digit i f (e ++ (b ∷ [])) h g (exponent_more b k d)))

-- and each on another byte
other_right : {s : NumberState} {p : List ℕ} (b : ℕ) (r : List ℕ) → Form s p → digit b ≡ false → Right s p b r (other_step s b)
unfolding other_step sign
other_right b r minus_sign d = fails (Errors.minus (b ∷ r) d)
other_right b r (leading_zero {a = a} h) d = after_integer_lem state.LeadingZero a b r refl (leading_integer h) d
other_right b r (positive {b = x} {a = a} n h) d = after_integer_lem state.IntegerPart (x ∷ a) b r refl (unsigned (Rules.positive n h)) d
other_right b r (negative {b = x} {a = a} n h) d = after_integer_lem state.IntegerPart (45 ∷ x ∷ a) b r refl (Rules.minus (Rules.positive n h)) d
other_right b r (decimal_point i h) d = fails (moved (append_snoc i 46 (b ∷ r)) (simp length-append) (no_fraction i (b ∷ r) h refl d))
other_right b r (fractional i f h g) d =
    tested (exponent_mark b) (λ m. goes (led (append_assoc i f (b ∷ [])) (indicator i f b h (given g) m)))
    (λ m. after_float_lem state.FractionalPart (i ++ f) b r refl (fraction i f h g) d
    (λ w. moved (append_assoc i f (b ∷ r)) (simp length-append) (after_fraction i f (b ∷ r) h g w m)))
other_right b r (indicator i f x h g m) d =
    tested (eqb b 43) (λ p. goes (led (regroup i f (x ∷ []) (b ∷ [])) (exponent_sign i f x b h g m (rw p))))
    (λ p. tested (eqb b 45) (λ q. goes (led (regroup i f (x ∷ []) (b ∷ [])) (exponent_sign i f x b h g m (rw (p, q)))))
    (λ q. fails (moved (regroup i f (x ∷ []) (b ∷ r)) (simp length-append (omega arith)) (no_exponent i f (b ∷ r) x h g m refl d (rw (p, q))))))
other_right b r (exponent_sign i f x s h g m p) d =
    fails (moved (regroup i f (x ∷ s ∷ []) (b ∷ r)) (simp length-append (omega arith)) (no_signed i f (b ∷ r) x s h g m p refl d))
other_right b r (exponent_digit i f e h g k) d =
    after_float_lem state.ExponentDigit (i ++ (f ++ e)) b r refl (exponent_float h g k) d
    (λ w. moved (regroup i f e (b ∷ r)) (simp length-append (omega arith)) (after_exponent i f e (b ∷ r) h g k w))

-- so each step is right
step_right : {s : NumberState} {p : List ℕ} (b : ℕ) (r : List ℕ) → Form s p → Right s p b r (step_of s b)
unfolding step_of
step_right b r h = tested (digit b) (digit_right b r h) (other_right b r h)

-- so is the answer where the text ends
end_right : {s : NumberState} {p : List ℕ} → Form s p → Stands (end_of s) (p ++ []) (length p)
unfolding size
end_right minus_sign = error (Errors.minus [] refl)
end_right (leading_zero {a = a} h) = token (int a [] (leading_integer h) refl)
end_right (positive {b = b} {a = a} n h) = token (int (b ∷ a) [] (unsigned (Rules.positive n h)) refl)
end_right (negative {b = b} {a = a} n h) = token (int (45 ∷ b ∷ a) [] (Rules.minus (Rules.positive n h)) refl)
end_right (decimal_point i h) = rw append-nil (error (ended _ (to_point i h)))
end_right (fractional i f h g) = token (float (i ++ f) [] (fraction i f h g) refl)
end_right (indicator i f x h g m) = rw append-nil (error (ended _ (to_mark i f x h g m)))
end_right (exponent_sign i f x s h g m p) = rw append-nil (error (ended _ (to_sign i f x s h g m p)))
end_right (exponent_digit i f e h g k) = token (float (i ++ (f ++ e)) [] (exponent_float h g k) refl)

-- what the machine gives of bytes that led to a state and what follows them stands there
scan_right : {s : NumberState} {p : List ℕ} (r : List ℕ) → Form s p → Is (p ++ r) (scan_from s (length p) r)
unfolding scan_from
scan_right [] h = end_right h
scan_right {s} {p} (b ∷ r) h = go (step_right b r h) (λ next k. scan_right {s = next} r k)
  where
    go : {x : NumberStep} → Right s p b r x
        → ((next : NumberState) → Form next (p ++ (b ∷ [])) → Is ((p ++ (b ∷ [])) ++ r) (scan_from next (length (p ++ (b ∷ []))) r))
        → Is (p ++ (b ∷ r)) (scan_by x s (length p) (b ∷ r) (λ next. scan_from next (suc (length p)) r))
    go (goes {next = next} k) ih = rw (append_snoc, length-append, add-one) at (ih next k)
    go (ends k) ih = k
    go (fails k) ih = error k

-- what the machine gives of a text that starts with `-` is its item
pub machine_minus : (t : List ℕ) → 0 < length t → get_or t 0 0 ≡ 45 → scan_from state.MinusSign 1 (drop 1 t) ≡ item_at t
machine_minus [] l e = absurd (omega arith)
machine_minus (b ∷ r) l e = rw e (sym (item_complete (scan_right r minus_sign)))

-- and so of one that starts with `0`
pub machine_zero : (t : List ℕ) → 0 < length t → get_or t 0 0 ≡ 48 → scan_from state.LeadingZero 1 (drop 1 t) ≡ item_at t
machine_zero [] l e = absurd (omega arith)
machine_zero (b ∷ r) l e = rw e (sym (item_complete (scan_right r (leading_zero nought))))

-- and of one that starts with another digit
pub machine_nonzero : (t : List ℕ) → 0 < length t → (digit (get_or t 0 0) || eqb (get_or t 0 0) 45) ≡ true → (get_or t 0 0 ≡ 45 → ⊥) → (get_or t 0 0 ≡ 48 → ⊥)
    → scan_from state.IntegerPart 1 (drop 1 t) ≡ item_at t
machine_nonzero [] l e m z = absurd (omega arith)
machine_nonzero (b ∷ r) l e m z =
    or_true (digit b) (eqb b 45) e (λ d. sym (item_complete (scan_right r (positive {a = []} (digit_nonzero b d (ne_eqb b 48 z)) tt))))
    (λ h. absurd (m (eqb-true b 45 h)))
