-- `fragment_head` meets its contract. Assumes nothing.
use mathlib.Core.Path.{sym}
use native.Mathlib.Omega.{arith}
use Rattle.parser.specs.View.{token_of, behind}
use Rattle.parser.specs.Promise.{took, stopped}
use Rattle.parser.specs.Promise as promise
use Rattle.parser.proofs.Codes.{is_yes, is_no}
use Rattle.parser.proofs.Moves.{from_item, ready_behind, went_at}
use Rattle.selections.proofs.Fragments.{with_type, without_type}
use Rattle.selections.proofs.fragment.fragment_head.Goals as goal

pub returns-then-is_on : goal.returns-then-is_on
returns-then-is_on c = λ b d. with_type b _ (behind c.args.spread.dots) d (token_of c.args.spread.dots) c.args.spread.next c.requires.front c.requires.kind_value c.open_with.ensures (is_yes c.is_on.ensures c.if-is_on.true) (c.type_condition.ensures b)

pub returns : goal.returns
returns c = λ b d. promise.went
    (went_at _ (sym c.reached.ensures.next) (sym c.reached.ensures.end)
    (without_type b _ (behind c.args.spread.dots) d (token_of c.args.spread.dots) c.args.spread.next c.requires.front c.requires.kind_value c.open_with.ensures (is_no c.is_on.ensures c.if-is_on.false) (ready_behind b _ (from_item c.requires.seen.at 0) c.args.spread.dots c.requires.seen.front (λ z. omega (arith, z, c.args.spread.is)))))
