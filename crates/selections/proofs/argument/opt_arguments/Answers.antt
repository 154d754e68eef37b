-- `opt_arguments` meets its contract. Assumes nothing.
use mathlib.Core.Bool.{false}
use Rattle.parser.specs.Promise.{took, stopped}
use Rattle.parser.specs.Promise as promise
use Rattle.parser.proofs.Codes.{is_no}
use Rattle.parser.proofs.Moves.{went_nothing, outcome_goes}
use Rattle.selections.proofs.ArgumentSteps.{arguments_absent}
use Rattle.selections.proofs.argument.opt_arguments.Goals as goal

pub returns-then-not-begins : goal.returns-then-not-begins
returns-then-not-begins c = promise.went (went_nothing c.requires (arguments_absent false _ c.args.from c.args.depth c.peek-token.result c.peek-token.ensures (is_no c.is-begins.ensures c.if-not-begins.true)))

pub returns : goal.returns
returns c = outcome_goes (c.arguments.ensures c.args.from c.peek-token.ensures)
