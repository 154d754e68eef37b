-- `strings::plain_run` meets its contract, state by state. Assumes nothing.
use mathlib.Core.Path.{sym}
use Rattle.std.proofs.Common.{rules, tests}
use Rattle.base.proofs.Runs.{run_counted}
use Rattle.rules.specs.Classes.{plain_character}
use Rattle.strings.specs.String.{plain_run}
use Rattle.strings.proofs.Plain.{plain_none}
use Rattle.strings.proofs.plain_run.Goals as goal

pub returns-in-StringLiteral : goal.returns-in-StringLiteral
unfolding plain_run
returns-in-StringLiteral c =
    rw c.in-StringLiteral.is
    (run_counted plain_character _ c.args.s.now _ c.count.ensures.ran (cc) c.take_while.ensures.closure c.take_while.ensures.done (λ x r q k. search (rules, tests)))

pub returns-in_default : goal.returns-in_default
returns-in_default c = sym (plain_none c.args.state c.args.s.now c.in_default.not-StringLiteral)
