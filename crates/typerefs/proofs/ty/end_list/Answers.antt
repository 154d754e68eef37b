-- `end_list` meets its contract. Assumes nothing.
use mathlib.Core.Path.{refl, sym, ◌∙◌}
use native.Mathlib.Omega.{arith}
use Rattle.parser.specs.View.{rest, token_of}
use Rattle.parser.proofs.Codes.{is_yes}
use Rattle.typerefs.specs.Walk.{closed, unclosed}
use Rattle.typerefs.proofs.ty.end_list.Goals as goal

pub returns-then-not-ends : goal.returns-then-not-ends
returns-then-not-ends c =
    unclosed (token_of c.peek-token.result) (rest c.args.tokens.now.text.now c.peek-token.result.next) c.peek-token.ensures.first
    (sym c.is-ends.ensures ∙ c.if-not-ends.true) refl (rw c.refused.ensures.refusal) c.refused.ensures.place

pub returns : goal.returns
returns c =
    closed (token_of c.peek-token.result) (rw c.reached.ensures.next c.peek-token.ensures.first) (sym c.is-ends.ensures ∙ c.if-not-ends.false) c.reached.ensures.end
    (rw c.reached.ensures.next (c.peek-token.ensures.inside (λ z. let k = is_yes c.is-ends.ensures c.if-not-ends.false in omega (arith, z, k)))) c.close_with.ensures
