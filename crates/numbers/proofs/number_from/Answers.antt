-- `numbers::number_from` meets its contract. Assumes nothing.
use mathlib.Core.Path.{sym, ap, ◌∙◌}
use native.Mathlib.Omega.{arith}
use Rattle.base.specs.Lexed.{lexed_of}
use Rattle.base.proofs.Found.{error_lexed}
use Rattle.numbers.proofs.Turn.{turn, done, ended, error_fits, failed}
use Rattle.numbers.proofs.number_from.Goals as goal

pub returns-in-Done : goal.returns-in-Done
returns-in-Done c = c.ended.ensures ∙ ap lexed_of (done _ _ _ _ c.loop-i.invariant c.loop-i-test.true (sym c.in-Done.ensures))

pub overflow_add-i : goal.overflow_add-i
overflow_add-i c = let f = error_fits _ _ _ _ c.loop-i.invariant _ c.size_at.ensures in omega arith

pub returns-in-Error : goal.returns-in-Error
returns-in-Error c = c.error.ensures ∙ error_lexed _ _
    ∙ ap lexed_of (failed _ _ _ _ c.loop-i.invariant _ c.size_at.ensures _ c.loop-i-test.true (sym c.in-Error.ensures))

pub loop-i-preserved : goal.loop-i-preserved
loop-i-preserved c = turn _ _ _ _ c.loop-i.invariant _ c.loop-i-test.true (sym c.in-Go.ensures)

pub returns : goal.returns
returns c = c.ended-2.ensures ∙ ap lexed_of (ended _ _ _ _ c.loop-i.invariant c.loop-i-test.false)
