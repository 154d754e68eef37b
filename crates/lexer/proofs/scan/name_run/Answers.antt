-- `lexer::scan::name_run` meets its contract. Assumes nothing.
use Rattle.std.proofs.Common.{rules, tests}
use Rattle.base.proofs.Runs.{run_counted}
use Rattle.rules.specs.Classes.{name_continue}
use Rattle.lexer.proofs.scan.name_run.Goals as goal

pub returns : goal.returns
returns c = run_counted name_continue _ c.args.s.now _ c.count.ensures.ran (cc) c.take_while.ensures.closure c.take_while.ensures.done (λ x r q k. search (rules, tests))
