-- `named_type` meets its contract. Assumes nothing.
use mathlib.Core.Path.{sym, ◌∙◌}
use mathlib.Core.List.{[], ◌∷◌}
use Rattle.syntax.specs.Machine.{named_type}
use Rattle.parser.specs.Promise.{took, stopped}
use Rattle.parser.proofs.Moves.{took_one, took_to, stop_one}
use Rattle.values.proofs.Steps.{name_kind}
use Rattle.typerefs.proofs.Steps.{at_named_type_lem, no_named_type}
use Rattle.typerefs.proofs.ty.named_type.Goals as goal

pub returns-then-not-is_name : goal.returns-then-not-is_name
returns-then-not-is_name c = λ b.
    stopped (stop_one b _ c.args.from c.peek-token.result c.peek-token.ensures (named_type ∷ []) c.refused.result (λ K. rw c.refused.ensures.refusal (no_named_type b _ _ K (sym c.is_name.ensures ∙ c.if-not-is_name.true))) c.refused.ensures.place)

pub returns : goal.returns
returns c = λ b.
    let n = sym c.is_name.ensures ∙ c.if-not-is_name.false in
    took (took_to c.peek-token.result (took_one b _ c.args.from c.peek-token.result c.peek-token.ensures (named_type ∷ []) [] (λ K. at_named_type_lem b _ _ K n) (name_kind _ n).1 c.named.ensures) _ c.reached.ensures.next c.reached.ensures.end)
