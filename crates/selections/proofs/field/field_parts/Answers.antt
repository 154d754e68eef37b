-- `field_parts` meets its contract. Assumes nothing.
use mathlib.Core.Bool.{false}
use mathlib.Core.List.{[], ◌∷◌}
use Rattle.std.proofs.lemmas.Result.{err_from_is_err_and}
use Rattle.parser.specs.Promise.{took, stopped}
use Rattle.parser.specs.Promise as promise
use Rattle.syntax.specs.Machine.{opt_directives, opt_selection_set, close}
use Rattle.parser.proofs.Moves.{went_then, went_above, stopped_above, stopped_then, goes_went, goes_stopped, goes_then, goes_below}
use Rattle.selections.proofs.field.field_parts.Goals as goal

pub returns-in_err-head : goal.returns-in_err-head
returns-in_err-head c =
    let p = err_from_is_err_and c.from_residual.result c.from_residual.ensures.1 in
    rw (p.1, p.2) (promise.Goes.stopped (goes_stopped (c.in_err-head.ensures false c.args.depth)))

pub opt_arguments-requires : goal.opt_arguments-requires
opt_arguments-requires c = (goes_went (c.in_ok-head.ensures false c.args.depth)).ready

pub returns-in_err-given : goal.returns-in_err-given
returns-in_err-given c =
    let p = err_from_is_err_and c.from_residual-in_err-given.result c.from_residual-in_err-given.ensures.1 in
    rw (p.1, p.2) (promise.Goes.stopped (stopped_then (goes_went (c.in_ok-head.ensures false c.args.depth)) (stopped_above (opt_directives c.args.depth ∷ opt_selection_set c.args.depth ∷ close 16 c.args.first.token.start ∷ []) (goes_stopped c.in_err-given.ensures))))

pub opt_directives-requires : goal.opt_directives-requires
opt_directives-requires c = (goes_went c.in_ok-given.ensures).ready

pub returns : goal.returns
returns c = goes_then (went_then (goes_went (c.in_ok-head.ensures false c.args.depth)) (went_above (opt_directives c.args.depth ∷ opt_selection_set c.args.depth ∷ close 16 c.args.first.token.start ∷ []) (goes_went c.in_ok-given.ensures))) (goes_below (opt_selection_set c.args.depth ∷ close 16 c.args.first.token.start ∷ []) c.opt_directives.ensures)
