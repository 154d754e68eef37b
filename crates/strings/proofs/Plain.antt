-- Runs of plain bytes in a quoted string: they change neither the state nor the fault, so that they are passed at once. Assumes nothing.
use mathlib.Core.Path.{◌≡◌, refl, ap, ◌∙◌}
use mathlib.Core.Bool.{Bool, true, false, not, ◌&&◌}
use mathlib.Core.List.{List, [], ◌∷◌}
use Prim.Native.Nat.{ℕ, suc, ◌+◌, ◌≤◌, zero-le}
use native.Mathlib.Nat.{add-zero, zero-add}
use native.Mathlib.Omega.{arith}
use borrow.Author.Tests.{not-true}
use lib.Dec.{eqb}
use lib.ListN.{length, drop, length-drop}
use lib.Seq.{drop-drop}
use Rattle.base.specs.Text.{pick}
use Rattle.base.specs.Run.{run}
use Rattle.std.specs.Prelude.{Option, None}
use Rattle.codes.specs.declared.fault.Fault.{Fault}
use Rattle.base.specs.Item.{Lexeme, lexeme}
use Rattle.base.proofs.Tests.{and_true}
use Rattle.base.proofs.Runs.{run_fits}
use Rattle.rules.specs.Classes.{line_end, plain_character}
use Rattle.strings.specs.declared.StringState.{StringState}
use Rattle.strings.specs.declared.StringState.TheVariants.{StringLiteral}
use Rattle.strings.specs.declared.StringStep.TheVariants.{Go}
use Rattle.strings.specs.String.{in_text, string_step, later_of, further, quoted_from, plain_run}

-- a plain byte in plain text: no other state, and no fault
plain_goes : (b : ℕ) → plain_character b ≡ true → string_step StringLiteral b ≡ Go StringLiteral None
unfolding plain_character string_step in_text
plain_goes b e =
    let h = and_true (not (eqb b 34)) (not (eqb b 92) && not (line_end b)) e in
    let k = and_true (not (eqb b 92)) (not (line_end b)) h.1 in
    rw (not-true (eqb b 34) h.0, not-true (eqb b 92) k.0, not-true (line_end b) k.1)

-- m bytes and n bytes earlier
further_sum : (m n k : ℕ) (x : Lexeme) → m + n ≡ k → further m (further n x) ≡ further k x
further_sum m n k x e =
    let sizes : m + (n + x.size) ≡ k + x.size = omega arith in
    ap (lexeme x.code) sizes

-- from the front of a text
plain_front : (err : Option Fault) (t : List ℕ)
    → quoted_from StringLiteral err t ≡ further (run plain_character t) (quoted_from StringLiteral err (drop (run plain_character t) t))
unfolding quoted_from run later_of
plain_front err [] = refl
plain_front err (b ∷ t) = go (plain_character b) refl (plain_front err t)
  where
    go : (v : Bool) → plain_character b ≡ v
        → quoted_from StringLiteral err t ≡ further (run plain_character t) (quoted_from StringLiteral err (drop (run plain_character t) t))
        → quoted_from StringLiteral err (b ∷ t) ≡ further (pick v (suc (run plain_character t)) 0) (quoted_from StringLiteral err (drop (pick v (suc (run plain_character t)) 0) (b ∷ t)))
    go true e h = rw (plain_goes b e) (ap (further 1) h ∙ further_sum 1 (run plain_character t) _ _ (omega arith))
    go false e h = rw zero-add

-- from i on, in any state
pub plain_passes : (s : StringState) (err : Option Fault) (i : ℕ) (t : List ℕ)
    → further i (quoted_from s err (drop i t)) ≡ further (i + plain_run s (drop i t)) (quoted_from s err (drop (i + plain_run s (drop i t)) t))
unfolding plain_run
plain_passes StringLiteral err i t =
    let n = run plain_character (drop i t) in
    ap (further i) (plain_front err (drop i t)) ∙ further_sum i n (i + n) _ refl ∙ rw (drop-drop n i t)
plain_passes _ err i t = rw (add-zero i)

plain_fits : (s : StringState) (t : List ℕ) → plain_run s t ≤ length t
unfolding plain_run
plain_fits StringLiteral t = run_fits plain_character t
plain_fits _ t = zero-le

-- from i on
pub plain_within : (s : StringState) (i : ℕ) (t : List ℕ) → i ≤ length t → i + plain_run s (drop i t) ≤ length t
plain_within s i t h = omega (arith, plain_fits s (drop i t), length-drop i t)

-- in these no byte is passed
pub plain_none : (s : StringState) (t : List ℕ) → (s ≡ StringLiteral → ⊥) → plain_run s t ≡ 0
unfolding plain_run
plain_none StringLiteral t k = absurd (k refl)
plain_none _ t k = refl
