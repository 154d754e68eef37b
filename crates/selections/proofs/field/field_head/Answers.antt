-- `field_head` meets its contract. Assumes nothing.
use mathlib.Core.Path.{sym}
use Rattle.parser.specs.View.{token_of, behind}
use Rattle.parser.specs.Promise.{took, stopped}
use Rattle.parser.specs.Promise as promise
use Rattle.parser.proofs.Codes.{is_yes, is_no}
use Rattle.parser.proofs.Writing.{wrote_then}
use Rattle.parser.proofs.Moves.{from_item, ready_behind, took_to, then, above, outcome_goes, went_at}
use Rattle.values.proofs.Steps.{name_kind}
use Rattle.selections.proofs.Fields.{parts, own_name, alias_name}
use Rattle.selections.proofs.field.field_head.Goals as goal

pub peek-colon-requires : goal.peek-colon-requires
peek-colon-requires c = c.requires.front.inside (name_kind _ c.args.first.is).1

pub returns-then-is_aliased : goal.returns-then-is_aliased
returns-then-is_aliased c = λ b d. outcome_goes
    (then (took_to c.peek-colon.result (alias_name b _ (behind c.args.first.token) d (token_of c.args.first.token) c.peek-colon.result c.peek-colon.ensures (is_yes c.is-is_aliased.ensures c.if-is_aliased.true) (wrote_then c.open.ensures c.alias.ensures)) _ c.reached.ensures.next c.reached.ensures.end)
    (above (parts d c.args.first.token.start) (c.name.ensures b)))

pub returns : goal.returns
returns c = λ b d. promise.went
    (went_at _ (sym c.reached-2.ensures.next) (sym c.reached-2.ensures.end)
    (own_name b _ (behind c.args.first.token) d (token_of c.args.first.token) c.peek-colon.result c.peek-colon.ensures (is_no c.is-is_aliased.ensures c.if-is_aliased.false) (ready_behind b _ (from_item c.requires.at 0) c.args.first.token c.requires.front (name_kind _ c.args.first.is).1) (wrote_then c.open.ensures c.leaf.ensures)))
