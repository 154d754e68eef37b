-- `arguments` meets its contract. Assumes nothing.
use mathlib.Core.Path.{refl, sym, ◌∙◌}
use mathlib.Core.Bool.{false}
use mathlib.Core.List.{[], ◌∷◌}
use native.Mathlib.Omega.{arith}
use Rattle.std.proofs.lemmas.Result.{err_from_is_err_and}
use Rattle.parser.specs.Promise.{took, stopped}
use Rattle.parser.proofs.Codes.{is_yes, is_no}
use Rattle.syntax.specs.Machine.{first_argument}
use Rattle.parser.proofs.Moves.{from_item, ready_behind, ready_at, took_to, took_went, took_same, stopped_same, stopped_then, ok_took, err_stopped, begun, passed_took, passed_stopped, passed_more}
use Rattle.selections.proofs.ArgumentSteps.{arguments_opened, first_run, first_stop, arguments_stop, arguments_closed}
use Rattle.selections.proofs.argument.arguments.Goals as goal

pub peek-first-requires : goal.peek-first-requires
peek-first-requires c = (ready_at c.args.token (ready_behind false _ (from_item c.requires.seen.at 0) c.args.token c.requires.seen.front (λ z. omega (arith, z, c.requires.kind_value))) _ c.reached-at.ensures.next c.reached-at.ensures.end).inside

pub returns-then-not-is_name : goal.returns-then-not-is_name
returns-then-not-is_name c = λ from F. stopped
    (stopped_then (took_to c.args.token (arguments_opened false _ from c.args.depth c.args.token F c.requires.kind_value c.open_with.ensures) _ c.reached-at.ensures.next c.reached-at.ensures.end).went (first_stop false _ c.reached-at.result c.args.depth c.peek-first.result c.peek-first.ensures c.args.token.start (sym c.is_name.ensures ∙ c.if-not-is_name.true) c.refused.result (rw c.refused.ensures.refusal) c.refused.ensures.place))

pub loop-events-init : goal.loop-events-init
loop-events-init c = (ready_at c.args.token (ready_behind false _ (from_item c.requires.seen.at 0) c.args.token c.requires.seen.front (λ z. omega (arith, z, c.requires.kind_value))) _ c.reached-at.ensures.next c.reached-at.ensures.end, begun)

pub returns-then-ends : goal.returns-then-ends
returns-then-ends c = λ from F. took
    (took_went (took_to c.args.token (arguments_opened false _ from c.args.depth c.args.token F c.requires.kind_value c.open_with.ensures) _ c.reached-at.ensures.next c.reached-at.ensures.end)
    (took_same (first_argument c.args.depth c.args.token.start ∷ []) (first_run false _ c.reached-at.result c.args.depth c.peek-first.result c.peek-first.ensures c.args.token.start (sym c.is_name.ensures ∙ c.if-not-is_name.false)) (passed_took c.loop-events.invariant.1 (took_to c.peek-next.result (arguments_closed false _ c.loop-events.at c.args.depth c.peek-next.result c.peek-next.ensures c.args.token.start (is_yes c.is-ends.ensures c.if-ends.true) c.close_with.ensures) _ c.reached.ensures.next c.reached.ensures.end))).went)

pub returns-in_default : goal.returns-in_default
returns-in_default c = λ from F. stopped
    (stopped_then (took_to c.args.token (arguments_opened false _ from c.args.depth c.args.token F c.requires.kind_value c.open_with.ensures) _ c.reached-at.ensures.next c.reached-at.ensures.end).went
    (stopped_same (first_argument c.args.depth c.args.token.start ∷ []) (first_run false _ c.reached-at.result c.args.depth c.peek-first.result c.peek-first.ensures c.args.token.start (sym c.is_name.ensures ∙ c.if-not-is_name.false)) (passed_stopped c.loop-events.invariant.1 (arguments_stop false _ c.loop-events.at c.args.depth c.peek-next.result c.peek-next.ensures c.args.token.start (is_no c.is-ends.ensures c.if-ends.false) (c.in_default.ensures.none refl) c.refused-in_default.result (rw c.refused-in_default.ensures.refusal) c.refused-in_default.ensures.place))))

pub returns-in_err-at : goal.returns-in_err-at
returns-in_err-at c =
    let p = err_from_is_err_and c.from_residual.result c.from_residual.ensures.1 in
    rw (p.1, p.2) (λ from F. stopped
    (stopped_then (took_to c.args.token (arguments_opened false _ from c.args.depth c.args.token F c.requires.kind_value c.open_with.ensures) _ c.reached-at.ensures.next c.reached-at.ensures.end).went
    (stopped_same (first_argument c.args.depth c.args.token.start ∷ []) (first_run false _ c.reached-at.result c.args.depth c.peek-first.result c.peek-first.ensures c.args.token.start (sym c.is_name.ensures ∙ c.if-not-is_name.false)) (passed_stopped c.loop-events.invariant.1 (err_stopped (c.in_err-at.ensures c.loop-events.at c.args.token.start (rw c.in-Some.ensures.some c.peek-next.ensures)))))))

pub loop-events-smaller : goal.loop-events-smaller
loop-events-smaller c =
    let h = ok_took (c.in_ok-at.ensures c.loop-events.at c.args.token.start (rw c.in-Some.ensures.some c.peek-next.ensures)) in
    omega (arith, h.ahead, h.went.ready.inside)

pub loop-events-preserved : goal.loop-events-preserved
loop-events-preserved c =
    let h = ok_took (c.in_ok-at.ensures c.loop-events.at c.args.token.start (rw c.in-Some.ensures.some c.peek-next.ensures)) in
    (h.went.ready, passed_more c.loop-events.invariant.1 h)
