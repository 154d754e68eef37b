-- `values::token::colon` meets its contract. Assumes nothing.
use mathlib.Core.Path.{sym, ◌∙◌}
use mathlib.Core.List.{[], ◌∷◌}
use borrow.Author.Tests.{eqb-true, eqb-false}
use native.Mathlib.Omega.{arith}
use Rattle.syntax.specs.Machine.{colon_due}
use Rattle.parser.specs.Promise.{took, stopped}
use Rattle.parser.proofs.Moves.{took_one, took_to, stop_one}
use Rattle.values.proofs.Steps.{at_colon_lem, no_colon}
use Rattle.values.proofs.token.colon.Goals as goal

pub returns-then-not-has_colon : goal.returns-then-not-has_colon
returns-then-not-has_colon c = λ b.
    stopped (stop_one b _ c.args.from c.peek-token.result c.peek-token.ensures (colon_due ∷ []) c.refused.result (λ K. rw c.refused.ensures.refusal (no_colon b _ _ K (eqb-false _ _ (sym c.is-has_colon.ensures ∙ c.if-not-has_colon.true)))) c.refused.ensures.place)

pub returns : goal.returns
returns c = λ b.
    let k = eqb-true _ _ (sym c.is-has_colon.ensures ∙ c.if-not-has_colon.false) in
    took (took_to c.peek-token.result (took_one b _ c.args.from c.peek-token.result c.peek-token.ensures (colon_due ∷ []) [] (λ K. at_colon_lem b _ _ K k) (λ z. omega (arith, k, z)) c.token.ensures) _ c.reached.ensures.next c.reached.ensures.end)
