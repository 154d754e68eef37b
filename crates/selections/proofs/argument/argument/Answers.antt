-- `argument` meets its contract. Assumes nothing.
use mathlib.Core.Bool.{false}
use mathlib.Core.List.{[], ◌∷◌}
use Rattle.std.proofs.lemmas.Result.{err_from_is_err_and}
use Rattle.parser.specs.Promise.{took, stopped}
use Rattle.parser.proofs.Writing.{wrote_then}
use Rattle.syntax.specs.Machine.{value, close, arguments}
use Rattle.parser.proofs.Moves.{from_item, ready_behind, ready_at, took_to, took_went, took_closed, went_above, stopped_above, stopped_then, ok_took, err_stopped}
use Rattle.values.proofs.Steps.{name_kind}
use Rattle.selections.proofs.ArgumentSteps.{argument_named}
use Rattle.selections.proofs.argument.argument.Goals as goal

pub colon-requires : goal.colon-requires
colon-requires c = (ready_at c.args.name.token (ready_behind false _ (from_item c.requires.at 0) c.args.name.token c.requires.front (name_kind _ c.args.name.is).1) _ c.reached.ensures.next c.reached.ensures.end).inside

pub returns-in_err-parted : goal.returns-in_err-parted
returns-in_err-parted c =
    let p = err_from_is_err_and c.from_residual.result c.from_residual.ensures.1 in
    rw (p.1, p.2) (λ from s F. stopped (stopped_then (took_to c.args.name.token (argument_named false _ from c.args.depth c.args.name.token F s c.args.name.is (wrote_then c.open.ensures c.leaf.ensures)) _ c.reached.ensures.next c.reached.ensures.end).went (stopped_above (value c.args.depth ∷ close 19 c.args.name.token.start ∷ arguments c.args.depth s ∷ []) (err_stopped (c.in_err-parted.ensures false)))))

pub value-requires : goal.value-requires
value-requires c = (ok_took (c.in_ok-parted.ensures false)).went.ready.inside

pub returns-in_err-valued : goal.returns-in_err-valued
returns-in_err-valued c =
    let p = err_from_is_err_and c.from_residual-in_err-valued.result c.from_residual-in_err-valued.ensures.1 in
    rw (p.1, p.2) (λ from s F. stopped (stopped_then (took_went (took_to c.args.name.token (argument_named false _ from c.args.depth c.args.name.token F s c.args.name.is (wrote_then c.open.ensures c.leaf.ensures)) _ c.reached.ensures.next c.reached.ensures.end) (went_above (value c.args.depth ∷ close 19 c.args.name.token.start ∷ arguments c.args.depth s ∷ []) (ok_took (c.in_ok-parted.ensures false)).went)).went (stopped_above (close 19 c.args.name.token.start ∷ arguments c.args.depth s ∷ []) (err_stopped c.in_err-valued.ensures))))

pub returns : goal.returns
returns c = λ from s F. took
    (took_closed (took_went (took_went (took_to c.args.name.token (argument_named false _ from c.args.depth c.args.name.token F s c.args.name.is (wrote_then c.open.ensures c.leaf.ensures)) _ c.reached.ensures.next c.reached.ensures.end) (went_above (value c.args.depth ∷ close 19 c.args.name.token.start ∷ arguments c.args.depth s ∷ []) (ok_took (c.in_ok-parted.ensures false)).went)) (went_above (close 19 c.args.name.token.start ∷ arguments c.args.depth s ∷ []) (ok_took c.in_ok-valued.ensures).went)) c.close.ensures)
