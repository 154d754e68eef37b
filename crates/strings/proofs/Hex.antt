-- A hex digit as the library reads it. Assumes nothing.
use Prim.Native.Nat.{ℕ, ◌≤◌, ◌<◌}
use mathlib.Core.Path.{◌≡◌}
use mathlib.Core.Bool.{true, ◌||◌}
use native.Mathlib.Omega.{arith}
use Rattle.std.specs.Prelude.{Option, None, Some, SomeIff}
use Rattle.std.specs.Char.{digit_value}
use Rattle.std.proofs.lemmas.Bool.Decides.{nat_tests}
use Rattle.base.specs.Text.{pick, from}
use Rattle.base.proofs.Tests.{refuted, or_true, from_true}
use Rattle.rules.specs.Classes.{hex_digit, hex_value}

-- a hex digit lies in one of three ranges
hex_cases : {A : Type 0} (b : ℕ) → hex_digit b ≡ true → (48 ≤ b → b ≤ 57 → A) → (65 ≤ b → b ≤ 70 → A) → (97 ≤ b → b ≤ 102 → A) → A
unfolding hex_digit
hex_cases b e f g h =
    or_true (from 48 57 b) (from 65 70 b || from 97 102 b) e (λ x. let r = from_true 48 57 b x in f r.0 r.1)
    (λ y. or_true (from 65 70 b) (from 97 102 b) y (λ x. let r = from_true 65 70 b x in g r.0 r.1) (λ x. let r = from_true 97 102 b x in h r.0 r.1))

-- it has the library's value
hex_is : (b : ℕ) → hex_digit b ≡ true → (digit_value b < 16) × (digit_value b ≡ hex_value b)
unfolding hex_value
hex_is b e =
    hex_cases b e (λ l u. (grind (arith, nat_tests), grind (arith, nat_tests))) (λ l u. (grind (arith, nat_tests), grind (arith, nat_tests)))
    (λ l u. (grind (arith, nat_tests), grind (arith, nat_tests)))

-- and no other byte has a value below 16
is_hex : (b : ℕ) → digit_value b < 16 → hex_digit b ≡ true
unfolding hex_digit
is_hex b h = grind (arith, nat_tests)

pub hex_read : (b : ℕ) (r : Option ℕ) → SomeIff r (digit_value b < 16) (digit_value b) → r ≡ pick (hex_digit b) (Some (hex_value b)) None
hex_read b None n = rw (refuted (hex_digit b) (λ e. n (hex_is b e).0))
hex_read b (Some v) h = let e = is_hex b h.0 in rw (e, h.1, (hex_is b e).1)
