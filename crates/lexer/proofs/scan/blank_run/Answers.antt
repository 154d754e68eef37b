-- `lexer::scan::blank_run` meets its contract. Assumes nothing.
use native.Mathlib.Omega.{arith}
use Rattle.lexer.proofs.Blanks.{Turn, turn, stop}
use Rattle.lexer.proofs.scan.blank_run.Goals as goal
use Rattle.lexer.proofs.scan.blank_run.Goals.{In-Some}

step : (c : In-Some) → Turn c.args.s.now c.loop-n.i c.in-Some.n
step c = turn c.args.s.now c.loop-n.i c.in-Some.n c.loop-n.invariant.0 c.loop-n.invariant.1 c.in-Some.ensures.0 c.in-Some.ensures.1

pub overflow_add-i : goal.overflow_add-i
overflow_add-i c = let f = (step (goal.at.overflow_add-i c).In-Some).fits in omega arith

pub loop-n-smaller : goal.loop-n-smaller
loop-n-smaller c =
    let f = (step (goal.at.loop-n-smaller c).In-Some).fits in
    let d = c.in-Some.ensures.0 in
    omega arith

pub loop-n-preserved : goal.loop-n-preserved
loop-n-preserved c = let t = step (goal.at.loop-n-preserved c).In-Some in (t.fits, t.again)

pub returns : goal.returns
returns c = stop c.args.s.now c.loop-n.i c.loop-n.invariant.0 c.loop-n.invariant.1 c.in_default.ensures
