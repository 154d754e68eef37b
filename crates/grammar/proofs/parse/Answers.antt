-- `parse` meets its contract. Assumes nothing.
use borrow.Author.Rules.{rules}
use Rattle.std.proofs.lemmas.Result.{err_from_is_err_and}
use Rattle.parser.proofs.Codes.{is_yes, is_no}
use Rattle.grammar.proofs.Readings.{ends, goes_on, ended}
use Rattle.grammar.proofs.parse.Goals as goal

pub returns-in_err-reached : goal.returns-in_err-reached
returns-in_err-reached c =
    let p = err_from_is_err_and c.from_residual.result c.from_residual.ensures.1 in
    let b = rw c.new-events.ensures.tape at (ended c.new-events.ensures.none c.in_err-reached.ensures.begins) in
    rw (p.1, p.2) (search rules)

pub returns-then-not-ends : goal.returns-then-not-ends
returns-then-not-ends c =
    let b = rw c.new-events.ensures.tape at (goes_on c.new-events.ensures.none c.in_ok-reached.ensures.begins c.peek-token.result c.peek-token.ensures (is_no c.is-ends.ensures c.if-not-ends.true) c.refused.result (rw c.refused.ensures.refusal) c.refused.ensures.place) in
    search rules

pub returns : goal.returns
returns c =
    let b = rw c.new-events.ensures.tape at (ends c.new-events.ensures.none c.in_ok-reached.ensures.begins c.peek-token.result c.peek-token.ensures (is_yes c.is-ends.ensures c.if-not-ends.false)) in
    search rules
