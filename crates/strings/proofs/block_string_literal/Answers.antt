-- `strings::block_string_literal` meets its contract. Assumes nothing.
use mathlib.Core.Path.{◌≡◌, sym, ap, ◌∙◌}
use mathlib.Core.Bool.{false}
use Prim.Native.Nat.{◌+◌}
use native.Mathlib.Omega.{arith}
use lib.ListN.{get_or, drop}
use Rattle.base.specs.Lexed.{lexed_of}
use Rattle.base.proofs.Lists.{part_rest}
use Rattle.rules.specs.Faults.{quotes}
use Rattle.strings.proofs.Block.{block_begins, block_closes, block_over, block_on, block_ends}
use Rattle.strings.proofs.block_string_literal.Goals as goal
use Rattle.strings.proofs.block_string_literal.Goals.{in_default-via-in-34+else-has_quotes, in_default-via-in-92+else-has_quotes-2, in_default-via-in_default-1}

pub loop-i-init : goal.loop-i-init
loop-i-init c = (c.requires, block_begins c.args.rest.now)

pub returns-in-34 : goal.returns-in-34
unfolding lexed_of
returns-in-34 c =
    let q = rw (part_rest c.args.rest.now c.loop-i.i c.loop-i.invariant.0) at c.if-has_quotes.ensures in
    c.token.ensures ∙ ap lexed_of (sym (c.loop-i.invariant.1 ∙ block_closes c.loop-i.i c.args.rest.now c.loop-i-test.true (sym q)))

pub loop-i-preserved-then-has_quotes-2 : goal.loop-i-preserved-then-has_quotes-2
loop-i-preserved-then-has_quotes-2 c =
    let q = rw (part_rest c.args.rest.now (c.loop-i.i + 1) (omega arith)) at c.if-has_quotes-2.ensures in
    let over = block_over c.loop-i.i c.args.rest.now c.loop-i-test.true c.in-92.is (sym q) in
    (over.0, c.loop-i.invariant.1 ∙ over.1)

pub loop-i-preserved : goal.loop-i-preserved
loop-i-preserved c =
    let t = c.args.rest.now in
    let i = c.loop-i.i in
    let quote : get_or t i 0 ≡ 34 → quotes (drop i t) ≡ false =
    elim c.in_default.branch [
      | in_default-via-in-34+else-has_quotes w ↦ λ z. sym (rw (part_rest t i c.loop-i.invariant.0) at w.if-has_quotes.ensures)
      | in_default-via-in-92+else-has_quotes-2 w ↦ λ z. absurd (omega (arith, w.in-92.is))
      | in_default-via-in_default-1 w ↦ λ z. absurd (omega arith)
    ] in
    let backslash : get_or t i 0 ≡ 92 → quotes (drop (i + 1) t) ≡ false =
    elim c.in_default.branch [
      | in_default-via-in-34+else-has_quotes w ↦ λ z. absurd (omega (arith, w.in-34.is))
      | in_default-via-in-92+else-has_quotes-2 w ↦ λ z. sym (rw (part_rest t (i + 1) (omega arith)) at w.if-has_quotes-2.ensures)
      | in_default-via-in_default-1 w ↦ λ z. absurd (omega arith)
    ] in
    (omega arith, c.loop-i.invariant.1 ∙ block_on i t c.loop-i-test.true quote backslash)

pub returns : goal.returns
unfolding lexed_of
returns c = c.error.ensures ∙ ap lexed_of (sym (c.loop-i.invariant.1 ∙ block_ends c.loop-i.i c.args.rest.now c.loop-i-test.false))
