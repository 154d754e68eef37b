-- `directives` meets its contract. Assumes nothing.
use mathlib.Core.Bool.{false}
use native.Mathlib.Omega.{arith}
use Rattle.std.proofs.lemmas.Result.{err_from_is_err_and}
use Rattle.parser.specs.Promise.{took, stopped}
use Rattle.parser.specs.Promise as promise
use Rattle.parser.proofs.Codes.{is_no}
use Rattle.parser.proofs.Moves.{narrow_end, ok_took, err_stopped, begun, passed_went, passed_stopped, passed_more}
use Rattle.selections.proofs.DirectiveSteps.{directives_closed}
use Rattle.selections.proofs.directive.directives.Goals as goal

pub loop-token-init : goal.loop-token-init
loop-token-init c = (c.requires, begun)

pub close-requires : goal.close-requires
close-requires c = narrow_end c.loop-token.invariant.0 c.args.tokens.now.holds.short

pub returns-then-not-goes_on : goal.returns-then-not-goes_on
returns-then-not-goes_on c = promise.went
    (passed_went c.loop-token.invariant.1 (directives_closed false _ c.loop-token.at c.args.depth c.peek-token.result c.peek-token.ensures c.args.first.start (is_no c.is-goes_on.ensures c.if-not-goes_on.true) c.loop-token.invariant.0 c.close.ensures))

pub returns-in_err-at : goal.returns-in_err-at
returns-in_err-at c =
    let p = err_from_is_err_and c.from_residual.result c.from_residual.ensures.1 in
    rw (p.1, p.2) (promise.Goes.stopped (passed_stopped c.loop-token.invariant.1 (err_stopped (c.in_err-at.ensures c.loop-token.at c.args.first.start c.peek-token.ensures))))

pub loop-token-smaller : goal.loop-token-smaller
loop-token-smaller c =
    let h = ok_took (c.in_ok-at.ensures c.loop-token.at c.args.first.start c.peek-token.ensures) in
    omega (arith, h.ahead, h.went.ready.inside)

pub loop-token-preserved : goal.loop-token-preserved
loop-token-preserved c =
    let h = ok_took (c.in_ok-at.ensures c.loop-token.at c.args.first.start c.peek-token.ensures) in
    (h.went.ready, passed_more c.loop-token.invariant.1 h)
