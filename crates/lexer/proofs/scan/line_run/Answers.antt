-- `lexer::scan::line_run` meets its contract. Assumes nothing.
use Rattle.std.proofs.Common.{rules, tests}
use Rattle.base.proofs.Runs.{run_counted}
use Rattle.rules.specs.Classes.{line_end, not_line_end}
use Rattle.lexer.proofs.scan.line_run.Goals as goal

pub returns : goal.returns
unfolding line_end
returns c = run_counted not_line_end _ c.args.s.now _ c.count.ensures.ran (cc) c.take_while.ensures.closure c.take_while.ensures.done (λ x r q k. search (rules, tests))
