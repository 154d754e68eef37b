-- Words, and the tape as tokens. Assumes nothing.
use Prim.Native.Nat.{ℕ, ◌+◌, ◌≤◌}
use mathlib.Core.Path.{◌≡◌, refl, ap}
use mathlib.Core.Bool.{◌&&◌}
use mathlib.Core.List.{List, [], ◌∷◌}
use borrow.Author.Tests.{le-leb}
use lib.Dec.{eqb}
use lib.Pointwise.{pointwise}
use Rattle.std.proofs.Common.{nat_eq}
use lib.ListN.{length, take, drop}
use Rattle.syntax.specs.Words.{same}
use Rattle.reader.specs.Part.{part_of}

-- the library's comparison of slices tells the same bytes
pub same_eq : (a b : List ℕ) → pointwise nat_eq a b ≡ same a b
unfolding same
same_eq [] [] = refl
same_eq [] (y ∷ ys) = refl
same_eq (x ∷ xs) [] = refl
same_eq (x ∷ xs) (y ∷ ys) = ap (λ v. eqb x y && v) (same_eq xs ys)

-- a part inside the text
pub part_in : (t : List ℕ) (start size : ℕ) → start + size ≤ length t → part_of t start size ≡ take size (drop start t)
unfolding part_of
part_in t start size h = rw (le-leb (start + size) (length t) h)
