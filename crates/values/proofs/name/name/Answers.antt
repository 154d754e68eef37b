-- `values::name::name` meets its contract. Assumes nothing.
use mathlib.Core.Path.{sym, ◌∙◌}
use mathlib.Core.List.{[], ◌∷◌}
use Rattle.syntax.specs.Machine.{name}
use Rattle.parser.specs.Promise.{took, stopped}
use Rattle.parser.proofs.Moves.{took_one, took_to, stop_one}
use Rattle.values.proofs.Steps.{name_kind, at_name_lem, no_name}
use Rattle.values.proofs.name.name.Goals as goal

pub returns-then-not-is_name : goal.returns-then-not-is_name
returns-then-not-is_name c = λ b.
    stopped (stop_one b _ c.args.from c.peek-token.result c.peek-token.ensures (name ∷ []) c.refused.result (λ K. rw c.refused.ensures.refusal (no_name b _ _ K (sym c.is_name.ensures ∙ c.if-not-is_name.true))) c.refused.ensures.place)

pub returns : goal.returns
returns c = λ b.
    let n = sym c.is_name.ensures ∙ c.if-not-is_name.false in
    took (took_to c.peek-token.result (took_one b _ c.args.from c.peek-token.result c.peek-token.ensures (name ∷ []) [] (λ K. at_name_lem b _ _ K n) (name_kind _ n).1 c.leaf.ensures) _ c.reached.ensures.next c.reached.ensures.end)
