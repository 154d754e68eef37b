-- `fragment_spread` meets its contract. Assumes nothing.
use mathlib.Core.Bool.{false}
use mathlib.Core.List.{[], ◌∷◌}
use Rattle.std.proofs.lemmas.Result.{err_from_is_err_and}
use Rattle.parser.specs.View.{token_of, behind}
use Rattle.parser.specs.Promise.{took, stopped}
use Rattle.parser.specs.Promise as promise
use Rattle.parser.proofs.Writing.{wrote_then}
use Rattle.syntax.specs.Machine.{close}
use Rattle.parser.proofs.Moves.{narrow_end, ready_behind, ready_at, took_to, went_then, went_above, went_closed, stopped_above, stopped_then, goes_went, goes_stopped}
use Rattle.selections.proofs.Fragments.{fragment_kind_lem, spread_name}
use Rattle.selections.proofs.fragment.fragment_spread.Goals as goal

pub opt_directives-requires : goal.opt_directives-requires
opt_directives-requires c = ready_at c.args.spread.next (ready_behind false _ (behind c.args.spread.dots) c.args.spread.next c.requires.front (fragment_kind_lem _ c.requires.kind_value).1) _ c.reached.ensures.next c.reached.ensures.end

pub returns-in_err-directed : goal.returns-in_err-directed
returns-in_err-directed c =
    let p = err_from_is_err_and c.from_residual.result c.from_residual.ensures.1 in
    rw (p.1, p.2) (promise.Goes.stopped (stopped_then (took_to c.args.spread.next (spread_name false _ (behind c.args.spread.dots) c.args.depth (token_of c.args.spread.dots) c.args.spread.next c.requires.front c.requires.kind_value (wrote_then c.open_with.ensures c.named.ensures)) _ c.reached.ensures.next c.reached.ensures.end).went (stopped_above (close 22 c.args.spread.dots.start ∷ []) (goes_stopped c.in_err-directed.ensures))))

pub close-requires : goal.close-requires
close-requires c = narrow_end (goes_went c.in_ok-directed.ensures).ready c.args.tokens.now.holds.short

pub returns : goal.returns
returns c = promise.went (went_closed (went_then (took_to c.args.spread.next (spread_name false _ (behind c.args.spread.dots) c.args.depth (token_of c.args.spread.dots) c.args.spread.next c.requires.front c.requires.kind_value (wrote_then c.open_with.ensures c.named.ensures)) _ c.reached.ensures.next c.reached.ensures.end).went (went_above (close 22 c.args.spread.dots.start ∷ []) (goes_went c.in_ok-directed.ensures))) c.close.ensures)
