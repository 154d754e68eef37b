-- A kind's number is its own, and none is an error's. Assumes nothing.
use Prim.Native.Nat.{◌≤◌, ◌<◌}
use mathlib.Core.Path.{◌≡◌, refl, sym, ◌∙◌}
use native.Mathlib.Omega.{arith}
use denote.Enum.Declared.{tag_of}
use denote.Enum.Bare.{tag_one}
use Rattle.codes.specs.contracts.kind.Kind.{the_type}
use Rattle.codes.specs.declared.kind.Kind.{Kind}
use Rattle.codes.specs.declared.kind.Kind.TheVariants as the
use Rattle.codes.specs.KindNumbers.{number_of}

-- the kinds are declared in the order of their numbers
kind_tag : (k : Kind) → tag_of the_type k ≡ number_of k
kind_tag the.Eof = refl
kind_tag _ = refl

-- two kinds with the same number are one
pub kind_one : (x y : Kind) → number_of x ≡ number_of y → x ≡ y
kind_one x y e = tag_one the_type tt x y (kind_tag x ∙ e ∙ sym (kind_tag y))

-- numbers from 64 on are errors'
pub kind_below : (k : Kind) → number_of k < 64
kind_below the.Eof = omega arith
kind_below _ = omega arith

-- what is left of the kinds is a punctuator of one character
pub kind_mark : (k : Kind) → (k ≡ the.Eof → ⊥) → (k ≡ the.Whitespace → ⊥) → (k ≡ the.Comment → ⊥) → (k ≡ the.Spread → ⊥) → (k ≡ the.Name → ⊥) → (k ≡ the.StringValue → ⊥)
    → (k ≡ the.Int → ⊥) → (k ≡ the.Float → ⊥) → (3 ≤ number_of k) × (number_of k ≤ 17) × (number_of k ≡ 9 → ⊥)
kind_mark the.Eof e w c s n v i f = absurd (e refl)
kind_mark the.Whitespace e w c s n v i f = absurd (w refl)
kind_mark the.Comment e w c s n v i f = absurd (c refl)
kind_mark the.Spread e w c s n v i f = absurd (s refl)
kind_mark the.Name e w c s n v i f = absurd (n refl)
kind_mark the.StringValue e w c s n v i f = absurd (v refl)
kind_mark the.Int e w c s n v i f = absurd (i refl)
kind_mark the.Float e w c s n v i f = absurd (f refl)
kind_mark _ e w c s n v i f = (omega arith, omega arith, λ z. omega arith)
