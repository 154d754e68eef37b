-- `directive` meets its contract. Assumes nothing.
use mathlib.Core.Bool.{false}
use mathlib.Core.List.{[], ◌∷◌}
use Rattle.std.proofs.lemmas.Result.{err_from_is_err_and}
use Rattle.parser.specs.Promise.{took, stopped}
use Rattle.syntax.specs.Machine.{close, opt_arguments, directives}
use Rattle.parser.proofs.Moves.{took_to, took_went, took_closed, went_above, stopped_above, stopped_then, ok_took, err_stopped, goes_went, goes_stopped}
use Rattle.selections.proofs.DirectiveSteps.{directive_opened}
use Rattle.selections.proofs.directive.directive.Goals as goal

pub returns-in_err-named : goal.returns-in_err-named
returns-in_err-named c =
    let p = err_from_is_err_and c.from_residual.result c.from_residual.ensures.1 in
    rw (p.1, p.2) (λ from s F. stopped (stopped_then (took_to c.args.token (directive_opened false _ from c.args.depth c.args.token F s c.requires.kind_value c.open_with.ensures) _ c.reached.ensures.next c.reached.ensures.end).went (stopped_above (opt_arguments c.args.depth ∷ close 21 c.args.token.start ∷ directives c.args.depth s ∷ []) (err_stopped (c.in_err-named.ensures false)))))

pub opt_arguments-requires : goal.opt_arguments-requires
opt_arguments-requires c = (ok_took (c.in_ok-named.ensures false)).went.ready

pub returns-in_err-given : goal.returns-in_err-given
returns-in_err-given c =
    let p = err_from_is_err_and c.from_residual-in_err-given.result c.from_residual-in_err-given.ensures.1 in
    rw (p.1, p.2) (λ from s F. stopped (stopped_then (took_went (took_to c.args.token (directive_opened false _ from c.args.depth c.args.token F s c.requires.kind_value c.open_with.ensures) _ c.reached.ensures.next c.reached.ensures.end) (went_above (opt_arguments c.args.depth ∷ close 21 c.args.token.start ∷ directives c.args.depth s ∷ []) (ok_took (c.in_ok-named.ensures false)).went)).went (stopped_above (close 21 c.args.token.start ∷ directives c.args.depth s ∷ []) (goes_stopped c.in_err-given.ensures))))

pub returns : goal.returns
returns c = λ from s F. took
    (took_closed (took_went (took_went (took_to c.args.token (directive_opened false _ from c.args.depth c.args.token F s c.requires.kind_value c.open_with.ensures) _ c.reached.ensures.next c.reached.ensures.end) (went_above (opt_arguments c.args.depth ∷ close 21 c.args.token.start ∷ directives c.args.depth s ∷ []) (ok_took (c.in_ok-named.ensures false)).went)) (went_above (close 21 c.args.token.start ∷ directives c.args.depth s ∷ []) (goes_went c.in_ok-given.ensures))) c.close.ensures)
