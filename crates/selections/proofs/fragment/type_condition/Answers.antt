-- `type_condition` meets its contract. Assumes nothing.
use mathlib.Core.Bool.{true}
use mathlib.Core.List.{[], ◌∷◌}
use Rattle.std.proofs.lemmas.Result.{err_from_is_err_and}
use Rattle.parser.specs.Promise.{took, stopped}
use Rattle.parser.specs.Promise as promise
use Rattle.syntax.specs.Machine.{close}
use Rattle.parser.proofs.Moves.{narrow_end, reached_is, went_above, went_closed, stopped_above, ok_took, err_stopped}
use Rattle.selections.proofs.fragment.type_condition.Goals as goal

pub returns-in_err-named : goal.returns-in_err-named
returns-in_err-named c =
    let p = err_from_is_err_and c.from_residual.result c.from_residual.ensures.1 in
    rw (p.1, p.2) (λ b. record {
      between = c.open_with.new.self;
      first = c.open_with.ensures;
      on = promise.Goes.stopped (stopped_above (close 25 c.args.token.start ∷ []) (err_stopped (rw (reached_is c.args.token c.reached.result c.reached.ensures.next c.reached.ensures.end) at (c.in_err-named.ensures b))));
    })

pub close-requires : goal.close-requires
close-requires c = narrow_end (ok_took (c.in_ok-named.ensures true)).went.ready c.args.tokens.now.holds.short

pub returns : goal.returns
returns c = λ b. record {
  between = c.open_with.new.self;
  first = c.open_with.ensures;
  on = promise.went (went_closed (went_above (close 25 c.args.token.start ∷ []) (ok_took (rw (reached_is c.args.token c.reached.result c.reached.ensures.next c.reached.ensures.end) at (c.in_ok-named.ensures b))).went) c.close.ensures);
}
