-- `opt_directives` meets its contract. Assumes nothing.
use mathlib.Core.Bool.{false}
use Rattle.parser.specs.Promise.{took, stopped}
use Rattle.parser.specs.Promise as promise
use Rattle.parser.proofs.Codes.{is_yes, is_no}
use Rattle.parser.proofs.Moves.{went_nothing, went_first, goes_then}
use Rattle.selections.proofs.DirectiveSteps.{directives_absent, directives_begin}
use Rattle.selections.proofs.directive.opt_directives.Goals as goal

pub returns-then-not-begins : goal.returns-then-not-begins
returns-then-not-begins c = promise.went (went_nothing c.requires (directives_absent false _ c.args.from c.args.depth c.peek-token.result c.peek-token.ensures (is_no c.is-begins.ensures c.if-not-begins.true)))

pub returns : goal.returns
returns c = goes_then (went_first c.requires c.open.ensures (directives_begin false _ c.args.from c.args.depth c.peek-token.result c.peek-token.ensures (is_yes c.is-begins.ensures c.if-not-begins.false))) c.directives.ensures
