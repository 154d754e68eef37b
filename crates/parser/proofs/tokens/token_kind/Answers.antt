-- `token_kind` meets its contract. Assumes nothing.
use mathlib.Core.Path.{◌≡◌, ap, ◌∙◌}
use Prim.Native.Nat.{ℕ, ◌≤◌, ◌-◌}
use native.Mathlib.Omega.{arith}
use borrow.Author.Tests.{ne_eqb}
use Rattle.codes.specs.FaultNumbers as faults
use Rattle.codes.specs.KindNumbers as kinds
use Rattle.codes.specs.declared.kind.Kind.{Kind}
use Rattle.syntax.specs.Words.{word_of, token_of}
use Rattle.parser.specs.View.{IsCode, of_token, of_error}
use Rattle.parser.proofs.View.{part_in}
use Rattle.parser.proofs.Codes.{some_kind, ok_fault}
use Rattle.parser.proofs.tokens.token_kind.Goals as goal

-- a code that is no kind's is an error's
is_error : {c : ℕ} → IsCode c → ((k : Kind) → kinds.number_of k ≡ c → ⊥) → (65 ≤ c) × (c ≤ 82)
is_error (of_token h) f = absurd (some_kind _ h f)
is_error (of_error l h) f = (l, h)

pub returns-then-e : goal.returns-then-e
unfolding token_of
returns-then-e c = c.word_kind.ensures ∙ ap word_of (c.part.ensures ∙ part_in _ _ _ c.requires.inside) ∙ rw c.if-e.true

pub overflow_sub-e : goal.overflow_sub-e
overflow_sub-e c = let h = is_error c.requires.code (c.in-Err.ensures) in omega (arith, h.0)

pub unwrap-requires : goal.unwrap-requires
unwrap-requires c =
    let h = is_error c.requires.code (c.in-Err.ensures) in
    ok_fault (c.args.e.code - 64) (omega (arith, h.0)) (omega (arith, h.1)) _ c.try_from-in-Err.ensures

pub returns-in-Ok : goal.returns-in-Ok
unfolding token_of
returns-in-Ok c = rw (ne_eqb _ _ c.if-e.false) c.in-Ok.ensures

pub returns-in-Err : goal.returns-in-Err
unfolding token_of
returns-in-Err c =
    let h = is_error c.requires.code (c.in-Err.ensures) in
    let n : faults.number_of c.unwrap.result ≡ c.args.e.code - 64 = rw c.unwrap.ensures at c.try_from-in-Err.ensures in
    rw (ne_eqb _ _ c.if-e.false) (omega (arith, h.0, n))
