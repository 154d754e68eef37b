-- `word_kind` meets its contract, word by word. Assumes nothing.
use mathlib.Core.Path.{◌≡◌, sym, ap, ◌∙◌}
use mathlib.Core.Bool.{Bool}
use mathlib.Core.List.{List}
use Prim.Native.Nat.{ℕ}
use lib.Pointwise.{pointwise}
use Rattle.std.proofs.Common.{nat_eq}
use Rattle.syntax.specs.Words.{same, word_of}
use Rattle.parser.proofs.View.{same_eq}
use Rattle.parser.proofs.tokens.word_kind.Goals as goal

-- a comparison with a word, as the test that the definition makes
is : (a b w : List ℕ) (r v : Bool) → r ≡ pointwise nat_eq a b → b ≡ w → r ≡ v → same a w ≡ v
is a b w r v e l t = sym (same_eq a w) ∙ ap (pointwise nat_eq a) (sym l) ∙ sym e ∙ t

pub returns-then-eq : goal.returns-then-eq
unfolding word_of
returns-then-eq c = rw (is _ _ _ _ _ c.eq.ensures c.as_slice.ensures c.if-eq.true)

pub returns-then-eq-2 : goal.returns-then-eq-2
unfolding word_of
returns-then-eq-2 c = rw (is _ _ _ _ _ c.eq.ensures c.as_slice.ensures c.if-eq.false, is _ _ _ _ _ c.eq-2.ensures c.as_slice-2.ensures c.if-eq-2.true)

pub returns-then-eq-3 : goal.returns-then-eq-3
unfolding word_of
returns-then-eq-3 c = rw (is _ _ _ _ _ c.eq.ensures c.as_slice.ensures c.if-eq.false, is _ _ _ _ _ c.eq-2.ensures c.as_slice-2.ensures c.if-eq-2.false, is _ _ _ _ _ c.eq-3.ensures c.as_slice-3.ensures c.if-eq-3.true)

pub returns-then-eq-4 : goal.returns-then-eq-4
unfolding word_of
returns-then-eq-4 c = rw (is _ _ _ _ _ c.eq.ensures c.as_slice.ensures c.if-eq.false, is _ _ _ _ _ c.eq-2.ensures c.as_slice-2.ensures c.if-eq-2.false, is _ _ _ _ _ c.eq-3.ensures c.as_slice-3.ensures c.if-eq-3.false, is _ _ _ _ _ c.eq-4.ensures c.as_slice-4.ensures c.if-eq-4.true)

pub returns : goal.returns
unfolding word_of
returns c = rw (is _ _ _ _ _ c.eq.ensures c.as_slice.ensures c.if-eq.false, is _ _ _ _ _ c.eq-2.ensures c.as_slice-2.ensures c.if-eq-2.false, is _ _ _ _ _ c.eq-3.ensures c.as_slice-3.ensures c.if-eq-3.false, is _ _ _ _ _ c.eq-4.ensures c.as_slice-4.ensures c.if-eq-4.false)
