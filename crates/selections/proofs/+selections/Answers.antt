-- Fields, fragments, selections and their sets meet their contracts, together: depth falls from one to the other. Assumes nothing.
use mathlib.Core.Path.{refl, sym, ◌∙◌}
use mathlib.Core.Bool.{false}
use mathlib.Core.List.{[], ◌∷◌}
use native.Mathlib.Omega.{arith}
use Rattle.std.proofs.lemmas.Result.{err_from_is_err_and}
use Rattle.parser.specs.Promise.{took, stopped}
use Rattle.parser.specs.Promise as promise
use Rattle.parser.proofs.Codes.{is_yes, is_no}
use Prim.Native.Nat.{◌-◌}
use Rattle.syntax.specs.Machine.{close, selection_set, opt_selection_set, first_selection}
use Rattle.parser.proofs.Moves.{from_item, ready_behind, ready_at, took_to, took_went, took_same, stopped_same, stopped_then, stopped_above, went_then, went_above, went_closed, went_nothing, ok_took, err_stopped, goes_went, goes_stopped, goes_same, outcome_goes, begun, passed_took, passed_stopped, passed_more}
use Rattle.selections.proofs.Sets.{begins_dots, set_opened, set_missing, set_absent, set_present, set_deep, set_empty, first_run, set_stop, set_end, by_field, by_dots}
use Rattle.selections.proofs.+selections.Goals as goal

-- ---- a field
pub field::field-returns-in_err-parts : goal.field::field-returns-in_err-parts
field::field-returns-in_err-parts t c =
    let p = err_from_is_err_and c.from_residual.result c.from_residual.ensures.1 in
    rw (p.1, p.2) (promise.Goes.stopped (goes_stopped c.in_err-parts.ensures))

pub field::field-returns-in_err-set : goal.field::field-returns-in_err-set
field::field-returns-in_err-set t c =
    let p = err_from_is_err_and c.from_residual-in_err-set.result c.from_residual-in_err-set.ensures.1 in
    rw (p.1, p.2) (promise.Goes.stopped (stopped_then (goes_went c.in_ok-parts.ensures) (stopped_above (close 16 c.args.first.token.start ∷ []) (goes_stopped c.in_err-set.ensures))))

pub field::field-returns : goal.field::field-returns
field::field-returns t c = promise.went (went_closed (went_then (goes_went c.in_ok-parts.ensures) (went_above (close 16 c.args.first.token.start ∷ []) (goes_went c.in_ok-set.ensures))) c.close.ensures)

-- ---- an inline fragment
pub fragment::inline_fragment-returns-in_err-head : goal.fragment::inline_fragment-returns-in_err-head
fragment::inline_fragment-returns-in_err-head t c =
    let p = err_from_is_err_and c.from_residual.result c.from_residual.ensures.1 in
    rw (p.1, p.2) (promise.Goes.stopped (goes_stopped (c.in_err-head.ensures false c.args.depth)))

pub fragment::inline_fragment-opt_directives-requires : goal.fragment::inline_fragment-opt_directives-requires
fragment::inline_fragment-opt_directives-requires t c = (goes_went (c.in_ok-head.ensures false c.args.depth)).ready

pub fragment::inline_fragment-returns-in_err-directed : goal.fragment::inline_fragment-returns-in_err-directed
fragment::inline_fragment-returns-in_err-directed t c =
    let p = err_from_is_err_and c.from_residual-in_err-directed.result c.from_residual-in_err-directed.ensures.1 in
    rw (p.1, p.2) (promise.Goes.stopped (stopped_then (goes_went (c.in_ok-head.ensures false c.args.depth)) (stopped_above (selection_set c.args.depth ∷ close 24 c.args.spread.dots.start ∷ []) (goes_stopped c.in_err-directed.ensures))))

pub fragment::inline_fragment-returns-in_err-set : goal.fragment::inline_fragment-returns-in_err-set
fragment::inline_fragment-returns-in_err-set t c =
    let p = err_from_is_err_and c.from_residual-in_err-set.result c.from_residual-in_err-set.ensures.1 in
    rw (p.1, p.2) (promise.Goes.stopped (stopped_then (went_then (goes_went (c.in_ok-head.ensures false c.args.depth)) (went_above (selection_set c.args.depth ∷ close 24 c.args.spread.dots.start ∷ []) (goes_went c.in_ok-directed.ensures))) (stopped_above (close 24 c.args.spread.dots.start ∷ []) (goes_stopped c.in_err-set.ensures))))

pub fragment::inline_fragment-returns : goal.fragment::inline_fragment-returns
fragment::inline_fragment-returns t c = promise.went
    (went_closed (went_then (went_then (goes_went (c.in_ok-head.ensures false c.args.depth)) (went_above (selection_set c.args.depth ∷ close 24 c.args.spread.dots.start ∷ []) (goes_went c.in_ok-directed.ensures))) (went_above (close 24 c.args.spread.dots.start ∷ []) (goes_went c.in_ok-set.ensures))) c.close.ensures)

-- ---- a selection set, or none
pub selection::opt_selection_set-returns-then-not-begins : goal.selection::opt_selection_set-returns-then-not-begins
selection::opt_selection_set-returns-then-not-begins t c = promise.went
    (went_nothing c.requires (set_absent false _ c.args.from c.args.depth c.peek-token.result c.peek-token.ensures (is_no c.is-begins.ensures c.if-not-begins.true)))

pub selection::opt_selection_set-returns : goal.selection::opt_selection_set-returns
selection::opt_selection_set-returns t c =
    goes_same (opt_selection_set c.args.depth ∷ []) (set_present false _ c.args.from c.args.depth c.peek-token.result c.peek-token.ensures (is_yes c.is-begins.ensures c.if-not-begins.false)) (outcome_goes (c.selections.ensures c.args.from c.peek-token.ensures))

pub selection::selection_set-returns-then-not-begins : goal.selection::selection_set-returns-then-not-begins
selection::selection_set-returns-then-not-begins t c =
    promise.Goes.stopped (set_missing false _ c.args.from c.args.depth c.peek-token.result c.peek-token.ensures (is_no c.is-begins.ensures c.if-not-begins.true) c.refused.result (rw c.refused.ensures.refusal) c.refused.ensures.place)

pub selection::selection_set-returns : goal.selection::selection_set-returns
selection::selection_set-returns t c = outcome_goes (c.selections.ensures c.args.from c.peek-token.ensures)

-- ---- a selection
pub selection::selection-field-requires : goal.selection::selection-field-requires
selection::selection-field-requires t c = (omega (arith, c.decreases), rw c.in-Some.ensures.some c.requires.seen)

pub selection::selection-returns-in-Some : goal.selection::selection-returns-in-Some
selection::selection-returns-in-Some t c = λ from s F.
    by_field false _ from c.args.depth c.args.token F s (rw (← c.in-Some.ensures.some) c.in-Some.name.is) (rw (← c.in-Some.ensures.some) c.field.ensures)

pub selection::selection-peek-next-requires : goal.selection::selection-peek-next-requires
selection::selection-peek-next-requires t c =
    let k = begins_dots _ c.requires.kind_value (c.in_default.ensures.none refl) in
    (ready_behind false _ (from_item c.requires.seen.at 0) c.args.token c.requires.seen.front (λ z. omega (arith, z, k))).inside

pub selection::selection-invariant_of-spread : goal.selection::selection-invariant_of-spread
selection::selection-invariant_of-spread t c = record { is = begins_dots _ c.requires.kind_value (c.in_default.ensures.none refl) }

pub selection::selection-invariant_of-spread-2 : goal.selection::selection-invariant_of-spread-2
selection::selection-invariant_of-spread-2 t c = record { is = begins_dots _ c.requires.kind_value (c.in_default.ensures.none refl) }

pub selection::selection-inline_fragment-requires : goal.selection::selection-inline_fragment-requires
selection::selection-inline_fragment-requires t c =
    (omega (arith, c.decreases), (c.requires.seen, (sym c.is_fragment_name.ensures ∙ c.if-is_fragment_name.false, c.peek-next.ensures)))

pub selection::selection-returns-then-is_fragment_name : goal.selection::selection-returns-then-is_fragment_name
selection::selection-returns-then-is_fragment_name t c = λ from s F.
    by_dots false _ from c.args.depth c.args.token F s (begins_dots _ c.requires.kind_value (c.in_default.ensures.none refl)) c.fragment_spread.ensures

pub selection::selection-returns : goal.selection::selection-returns
selection::selection-returns t c = λ from s F.
    by_dots false _ from c.args.depth c.args.token F s (begins_dots _ c.requires.kind_value (c.in_default.ensures.none refl)) c.inline_fragment.ensures

-- ---- a selection set
pub selection::selections-returns-then-depth-eq0 : goal.selection::selections-returns-then-depth-eq0
selection::selections-returns-then-depth-eq0 t c = λ from F. stopped
    (stopped_then (took_to c.args.token (set_opened false _ from c.args.depth c.args.token F c.requires.kind_value c.open_with.ensures) _ c.reached-at.ensures.next c.reached-at.ensures.end).went (set_deep false _ c.reached-at.result c.args.depth c.peek-first.result c.peek-first.ensures c.args.token.start c.if-depth-eq0.true c.refused.result (rw c.refused.ensures.refusal) c.refused.ensures.place))

pub selection::selections-returns-then-not-begins_selection : goal.selection::selections-returns-then-not-begins_selection
selection::selections-returns-then-not-begins_selection t c = λ from F. stopped
    (stopped_then (took_to c.args.token (set_opened false _ from c.args.depth c.args.token F c.requires.kind_value c.open_with.ensures) _ c.reached-at.ensures.next c.reached-at.ensures.end).went (set_empty false _ c.reached-at.result c.args.depth c.peek-first.result c.peek-first.ensures c.args.token.start c.if-depth-eq0.false (sym c.begins_selection.ensures ∙ c.if-not-begins_selection.true) c.refused-then-not-begins_selection.result (rw c.refused-then-not-begins_selection.ensures.refusal) c.refused-then-not-begins_selection.ensures.place))

pub selection::selections-loop-events-init : goal.selection::selections-loop-events-init
selection::selections-loop-events-init t c = (ready_at c.args.token (ready_behind false _ (from_item c.requires.seen.at 0) c.args.token c.requires.seen.front (λ z. omega (arith, z, c.requires.kind_value))) _ c.reached-at.ensures.next c.reached-at.ensures.end, begun)

pub selection::selections-returns-then-ends : goal.selection::selections-returns-then-ends
selection::selections-returns-then-ends t c = λ from F. took
    (took_went (took_to c.args.token (set_opened false _ from c.args.depth c.args.token F c.requires.kind_value c.open_with.ensures) _ c.reached-at.ensures.next c.reached-at.ensures.end)
    (took_same (first_selection c.args.depth c.args.token.start ∷ []) (first_run false _ c.reached-at.result c.args.depth c.peek-first.result c.peek-first.ensures c.args.token.start c.if-depth-eq0.false (sym c.begins_selection.ensures ∙ c.if-not-begins_selection.false)) (passed_took c.loop-events.invariant.1 (took_to c.peek-next.result (set_end false _ c.loop-events.at (c.args.depth - 1) c.peek-next.result c.peek-next.ensures c.args.token.start (is_yes c.is-ends.ensures c.if-ends.true) c.close_with.ensures) _ c.reached.ensures.next c.reached.ensures.end))).went)

pub selection::selections-returns-then-not-begins_selection-2 : goal.selection::selections-returns-then-not-begins_selection-2
selection::selections-returns-then-not-begins_selection-2 t c = λ from F. stopped
    (stopped_then (took_to c.args.token (set_opened false _ from c.args.depth c.args.token F c.requires.kind_value c.open_with.ensures) _ c.reached-at.ensures.next c.reached-at.ensures.end).went
    (stopped_same (first_selection c.args.depth c.args.token.start ∷ []) (first_run false _ c.reached-at.result c.args.depth c.peek-first.result c.peek-first.ensures c.args.token.start c.if-depth-eq0.false (sym c.begins_selection.ensures ∙ c.if-not-begins_selection.false)) (passed_stopped c.loop-events.invariant.1 (set_stop false _ c.loop-events.at (c.args.depth - 1) c.peek-next.result c.peek-next.ensures c.args.token.start (is_no c.is-ends.ensures c.if-ends.false) (sym c.begins_selection-in-loop-events.ensures ∙ c.if-not-begins_selection-2.true) c.refused-then-not-begins_selection-2.result (rw c.refused-then-not-begins_selection-2.ensures.refusal) c.refused-then-not-begins_selection-2.ensures.place))))

pub selection::selections-returns-in_err-at : goal.selection::selections-returns-in_err-at
selection::selections-returns-in_err-at t c =
    let p = err_from_is_err_and c.from_residual.result c.from_residual.ensures.1 in
    rw (p.1, p.2) (λ from F. stopped
    (stopped_then (took_to c.args.token (set_opened false _ from c.args.depth c.args.token F c.requires.kind_value c.open_with.ensures) _ c.reached-at.ensures.next c.reached-at.ensures.end).went
    (stopped_same (first_selection c.args.depth c.args.token.start ∷ []) (first_run false _ c.reached-at.result c.args.depth c.peek-first.result c.peek-first.ensures c.args.token.start c.if-depth-eq0.false (sym c.begins_selection.ensures ∙ c.if-not-begins_selection.false)) (passed_stopped c.loop-events.invariant.1 (err_stopped (c.in_err-at.ensures c.loop-events.at c.args.token.start c.peek-next.ensures))))))

pub selection::selections-loop-events-smaller : goal.selection::selections-loop-events-smaller
selection::selections-loop-events-smaller t c =
    let h = ok_took (c.in_ok-at.ensures c.loop-events.at c.args.token.start c.peek-next.ensures) in
    omega (arith, h.ahead, h.went.ready.inside)

pub selection::selections-loop-events-preserved : goal.selection::selections-loop-events-preserved
selection::selections-loop-events-preserved t c =
    let h = ok_took (c.in_ok-at.ensures c.loop-events.at c.args.token.start c.peek-next.ensures) in
    (h.went.ready, passed_more c.loop-events.invariant.1 h)
