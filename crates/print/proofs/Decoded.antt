-- What stands at an index, by what is decoded from there on. Assumes nothing.
use Prim.Native.Nat.{ℕ, ◌-◌, ◌<◌}
use mathlib.Core.Path.{◌≡◌, ap, ◌∙◌}
use mathlib.Core.List.{List}
use native.Mathlib.Omega.{arith}
use borrow.Author.Tests.{lt-leb}
use Rattle.std.specs.Prelude.{Some, Result}
use lib.ListN.{length, take, drop, get_or}
use Rattle.base.proofs.Lists.{part_rest}
use Rattle.utf8.specs.Answers.{character_of}
use Rattle.codes.specs.declared.refusal.Refusal.{Refusal}
use Rattle.utf8.specs.declared.Scalar.{Scalar}
use Rattle.print.specs.Characters.{seen_of, seen_at}

pub decoded : (t : List ℕ) (i : ℕ) (x : Result Scalar Refusal) → i < length t → x ≡ character_of (take (length t - i) (drop i t)) → Some (seen_of (get_or t i 0) x) ≡ seen_at t i
unfolding seen_at
decoded t i x h e = rw (lt-leb (length t) i h) (ap (λ y. Some (seen_of (get_or t i 0) y)) (e ∙ ap character_of (part_rest t i (omega arith))))
