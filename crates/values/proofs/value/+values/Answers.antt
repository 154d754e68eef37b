-- Values, lists, objects and their fields meet their contracts, together: depth falls from one to the other. Assumes nothing.
use mathlib.Core.Path.{refl, sym, ◌∙◌}
use mathlib.Core.List.{[], ◌∷◌}
use native.Mathlib.Omega.{arith}
use Rattle.std.proofs.lemmas.Result.{err_from_is_err_and}
use Rattle.syntax.specs.Machine.{value as value_due, fields, close}
use Rattle.parser.specs.View.{token_of}
use Rattle.parser.specs.Promise.{took, stopped}
use Rattle.parser.proofs.Codes.{node_some, is_yes, is_no}
use Rattle.parser.proofs.Moves.{from_item, ready_behind, ready_at, took_one, took_to, took_closed, stop_one, stopped_then, took_went, ok_took, err_stopped, begun, passed_took, passed_stopped, passed_more}
use Rattle.values.proofs.Steps.{scalar_kind, enum_kind_lem, at_scalar, at_enum, no_value_lem, in_constant}
use Rattle.values.proofs.Loops.{list_opened, object_opened, list_end, list_eof, list_no_depth, list_value_item, list_value_stop, object_end, object_stop, field_no_depth, field_value, field_value_stop}
use Rattle.values.proofs.value.+values.Goals as goal

-- ---- a list
pub list_value-loop-at-init : goal.list_value-loop-at-init
list_value-loop-at-init t c = (
  ready_at c.args.token (ready_behind c.args.constant _ (from_item c.requires.seen.at 0) c.args.token c.requires.seen.front (λ z. omega (arith, z, c.requires.kind_value))) _ c.reached-at.ensures.next c.reached-at.ensures.end,
  begun,
)

pub list_value-returns-then-ends : goal.list_value-returns-then-ends
list_value-returns-then-ends t c = λ from F. took
    (took_went (took_to c.args.token (list_opened c.args.constant _ from c.args.depth c.args.token F c.requires.kind_value c.open_with.ensures) _ c.reached-at.ensures.next c.reached-at.ensures.end)
    (passed_took c.loop-at.invariant.1 (took_to c.peek-next.result (list_end c.args.constant _ c.loop-at.at c.args.depth c.args.token.start c.peek-next.result c.peek-next.ensures (is_yes c.is-ends.ensures c.if-ends.true) c.close_with.ensures) _ c.reached.ensures.next c.reached.ensures.end)).went)

pub list_value-returns-then-is_cut : goal.list_value-returns-then-is_cut
list_value-returns-then-is_cut t c = λ from F. stopped
    (stopped_then (took_to c.args.token (list_opened c.args.constant _ from c.args.depth c.args.token F c.requires.kind_value c.open_with.ensures) _ c.reached-at.ensures.next c.reached-at.ensures.end).went
    (passed_stopped c.loop-at.invariant.1 (list_eof c.args.constant _ c.loop-at.at c.args.depth c.args.token.start c.peek-next.result c.peek-next.ensures (is_yes c.is-is_cut.ensures c.if-is_cut.true) c.refused.result (rw c.refused.ensures.refusal) c.refused.ensures.place)))

pub list_value-returns-then-depth-eq0 : goal.list_value-returns-then-depth-eq0
list_value-returns-then-depth-eq0 t c = λ from F. stopped
    (stopped_then (took_to c.args.token (list_opened c.args.constant _ from c.args.depth c.args.token F c.requires.kind_value c.open_with.ensures) _ c.reached-at.ensures.next c.reached-at.ensures.end).went
    (passed_stopped c.loop-at.invariant.1 (list_no_depth c.args.constant _ c.loop-at.at c.args.depth c.args.token.start c.peek-next.result c.peek-next.ensures (is_no c.is-ends.ensures c.if-ends.false) (is_no c.is-is_cut.ensures c.if-is_cut.false) c.if-depth-eq0.true c.refused-then-depth-eq0.result (rw c.refused-then-depth-eq0.ensures.refusal) c.refused-then-depth-eq0.ensures.place)))

pub list_value-returns-in_err-at : goal.list_value-returns-in_err-at
list_value-returns-in_err-at t c =
    let p = err_from_is_err_and c.from_residual.result c.from_residual.ensures.1 in
    rw (p.1, p.2) (λ from F. stopped
    (stopped_then (took_to c.args.token (list_opened c.args.constant _ from c.args.depth c.args.token F c.requires.kind_value c.open_with.ensures) _ c.reached-at.ensures.next c.reached-at.ensures.end).went
    (passed_stopped c.loop-at.invariant.1 (list_value_stop c.args.constant _ c.loop-at.at c.args.depth c.args.token.start c.peek-next.result c.peek-next.ensures (is_no c.is-ends.ensures c.if-ends.false) (is_no c.is-is_cut.ensures c.if-is_cut.false) c.if-depth-eq0.false (err_stopped c.in_err-at.ensures)))))

pub list_value-loop-at-preserved : goal.list_value-loop-at-preserved
list_value-loop-at-preserved t c =
    let h = list_value_item c.args.constant _ c.loop-at.at c.args.depth c.args.token.start c.peek-next.result c.peek-next.ensures (is_no c.is-ends.ensures c.if-ends.false) (is_no c.is-is_cut.ensures c.if-is_cut.false) c.if-depth-eq0.false (ok_took c.in_ok-at.ensures) in
    (h.went.ready, passed_more c.loop-at.invariant.1 h)

-- ---- an object's field
pub object_field-returns-in_err-named : goal.object_field-returns-in_err-named
object_field-returns-in_err-named t c =
    let p = err_from_is_err_and c.from_residual.result c.from_residual.ensures.1 in
    rw (p.1, p.2) (λ from s F. stopped (err_stopped (c.in_err-named.ensures c.args.constant from c.args.depth s F)))

pub object_field-peek-next-requires : goal.object_field-peek-next-requires
object_field-peek-next-requires t c = (ok_took (c.in_ok-named.ensures c.args.constant (from_item c.requires.at 0) c.args.depth 0 c.requires.front)).went.ready.inside

pub object_field-returns-then-depth-eq0 : goal.object_field-returns-then-depth-eq0
object_field-returns-then-depth-eq0 t c = λ from s F. stopped
    (stopped_then (ok_took (c.in_ok-named.ensures c.args.constant from c.args.depth s F)).went
    (field_no_depth c.args.constant _ c.in_ok-named.named c.args.depth s c.peek-next.result c.peek-next.ensures (close 10 c.args.name.token.start ∷ fields c.args.depth s ∷ []) c.if-depth-eq0.true c.refused.result (rw c.refused.ensures.refusal) c.refused.ensures.place))

pub object_field-value-requires : goal.object_field-value-requires
object_field-value-requires t c = (
  omega (arith, c.decreases, c.if-depth-eq0.false),
  (ok_took (c.in_ok-named.ensures c.args.constant (from_item c.requires.at 0) c.args.depth 0 c.requires.front)).went.ready.inside,
)

pub object_field-returns-in_err-held : goal.object_field-returns-in_err-held
object_field-returns-in_err-held t c =
    let p = err_from_is_err_and c.from_residual-in_err-held.result c.from_residual-in_err-held.ensures.1 in
    rw (p.1, p.2) (λ from s F. stopped
    (stopped_then (ok_took (c.in_ok-named.ensures c.args.constant from c.args.depth s F)).went
    (field_value_stop c.args.constant _ c.in_ok-named.named c.args.depth (close 10 c.args.name.token.start ∷ fields c.args.depth s ∷ []) c.if-depth-eq0.false (err_stopped c.in_err-held.ensures))))

pub object_field-returns : goal.object_field-returns
object_field-returns t c = λ from s F. took
    (took_closed (took_went (ok_took (c.in_ok-named.ensures c.args.constant from c.args.depth s F))
    (field_value c.args.constant _ c.in_ok-named.named c.args.depth (close 10 c.args.name.token.start ∷ fields c.args.depth s ∷ []) c.if-depth-eq0.false (ok_took c.in_ok-held.ensures)).went) c.close.ensures)

-- ---- an object
pub object_value-loop-events-init : goal.object_value-loop-events-init
object_value-loop-events-init t c = (
  ready_at c.args.token (ready_behind c.args.constant _ (from_item c.requires.seen.at 0) c.args.token c.requires.seen.front (λ z. omega (arith, z, c.requires.kind_value))) _ c.reached-at.ensures.next c.reached-at.ensures.end,
  begun,
)

pub object_value-returns-then-ends : goal.object_value-returns-then-ends
object_value-returns-then-ends t c = λ from F. took
    (took_went (took_to c.args.token (object_opened c.args.constant _ from c.args.depth c.args.token F c.requires.kind_value c.open_with.ensures) _ c.reached-at.ensures.next c.reached-at.ensures.end)
    (passed_took c.loop-events.invariant.1 (took_to c.peek-next.result (object_end c.args.constant _ c.loop-events.at c.args.depth c.args.token.start c.peek-next.result c.peek-next.ensures (is_yes c.is-ends.ensures c.if-ends.true) c.close_with.ensures) _ c.reached.ensures.next c.reached.ensures.end)).went)

pub object_value-returns-in_default : goal.object_value-returns-in_default
object_value-returns-in_default t c = λ from F. stopped
    (stopped_then (took_to c.args.token (object_opened c.args.constant _ from c.args.depth c.args.token F c.requires.kind_value c.open_with.ensures) _ c.reached-at.ensures.next c.reached-at.ensures.end).went
    (passed_stopped c.loop-events.invariant.1 (object_stop c.args.constant _ c.loop-events.at c.args.depth c.args.token.start c.peek-next.result c.peek-next.ensures (is_no c.is-ends.ensures c.if-ends.false) (c.in_default.ensures.none refl) c.refused.result (rw c.refused.ensures.refusal) c.refused.ensures.place)))

pub object_value-returns-in_err-at : goal.object_value-returns-in_err-at
object_value-returns-in_err-at t c =
    let p = err_from_is_err_and c.from_residual.result c.from_residual.ensures.1 in
    rw (p.1, p.2) (λ from F. stopped
    (stopped_then (took_to c.args.token (object_opened c.args.constant _ from c.args.depth c.args.token F c.requires.kind_value c.open_with.ensures) _ c.reached-at.ensures.next c.reached-at.ensures.end).went
    (passed_stopped c.loop-events.invariant.1 (err_stopped (c.in_err-at.ensures c.loop-events.at c.args.token.start (rw c.in-Some.ensures.some c.peek-next.ensures))))))

pub object_value-loop-events-smaller : goal.object_value-loop-events-smaller
object_value-loop-events-smaller t c =
    let h = ok_took (c.in_ok-at.ensures c.loop-events.at c.args.token.start (rw c.in-Some.ensures.some c.peek-next.ensures)) in
    omega (arith, h.ahead, h.went.ready.inside)

pub object_value-loop-events-preserved : goal.object_value-loop-events-preserved
object_value-loop-events-preserved t c =
    let h = ok_took (c.in_ok-at.ensures c.loop-events.at c.args.token.start (rw c.in-Some.ensures.some c.peek-next.ensures)) in
    (h.went.ready, passed_more c.loop-events.invariant.1 h)

-- ---- a value
pub value-returns-in-Some : goal.value-returns-in-Some
value-returns-in-Some t c =
    let n = sym c.in-Some.ensures in
    took (took_to c.peek-token.result (took_one c.args.constant _ c.args.from c.peek-token.result c.peek-token.ensures (value_due c.args.depth ∷ []) [] (λ K. at_scalar c.args.constant _ c.args.depth (token_of c.peek-token.result) K _ n (node_some c.in-Some.node)) (scalar_kind _ _ n (node_some c.in-Some.node)).1 c.leaf.ensures) _ c.reached.ensures.next c.reached.ensures.end)

pub value-returns-then-is_enum : goal.value-returns-then-is_enum
value-returns-then-is_enum t c =
    let e = sym c.is_enum.ensures ∙ c.if-is_enum.true in
    took (took_to c.peek-token.result (took_one c.args.constant _ c.args.from c.peek-token.result c.peek-token.ensures (value_due c.args.depth ∷ []) [] (λ K. at_enum c.args.constant _ c.args.depth (token_of c.peek-token.result) K c.in_default.ensures e) (enum_kind_lem _ e).1 c.named.ensures) _ c.reached-then-is_enum.ensures.next c.reached-then-is_enum.ensures.end)

pub value-returns-then-not-is_variable : goal.value-returns-then-not-is_variable
value-returns-then-not-is_variable t c =
    stopped (stop_one c.args.constant _ c.args.from c.peek-token.result c.peek-token.ensures (value_due c.args.depth ∷ []) c.refused.result (λ K. rw c.refused.ensures.refusal (no_value_lem c.args.constant _ c.args.depth (token_of c.peek-token.result) K c.in_default.ensures (sym c.is_enum.ensures ∙ c.if-is_enum.false) (is_no c.is-is_list.ensures c.if-is_list.false) (is_no c.is-is_object.ensures c.if-is_object.false) (is_no c.is-is_variable.ensures c.if-not-is_variable.true))) c.refused.ensures.place)

pub value-returns-then-constant : goal.value-returns-then-constant
value-returns-then-constant t c =
    stopped (stop_one c.args.constant _ c.args.from c.peek-token.result c.peek-token.ensures (value_due c.args.depth ∷ []) c.refused-then-constant.result (λ K. rw (c.refused-then-constant.ensures.refusal, c.if-constant.true) (in_constant _ c.args.depth (token_of c.peek-token.result) K (is_yes c.is-is_variable.ensures c.if-not-is_variable.false))) c.refused-then-constant.ensures.place)
