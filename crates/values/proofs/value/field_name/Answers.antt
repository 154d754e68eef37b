-- `values::value::field_name` meets its contract: the name, and its `:`. Assumes nothing.
use mathlib.Core.Bool.{true}
use mathlib.Core.List.{[], ◌∷◌}
use Rattle.syntax.specs.Machine.{fields, colon_due, deeper, close}
use Rattle.parser.specs.View.{token_of}
use Rattle.parser.proofs.Writing.{wrote_then}
use Rattle.parser.proofs.Moves.{from_item, ready_behind, ready_at, took_one, took_to, then, above}
use Rattle.values.proofs.Steps.{name_kind, object_name}
use Rattle.values.proofs.value.field_name.Goals as goal

pub colon-requires : goal.colon-requires
colon-requires c = (ready_at c.args.name.token (ready_behind true _ (from_item c.requires.at 0) c.args.name.token c.requires.front (name_kind _ c.args.name.is).1) _ c.reached.ensures.next c.reached.ensures.end).inside

pub returns : goal.returns
returns c = λ b from d s F. then
    (took_to c.args.name.token (took_one b _ from c.args.name.token F (fields d s ∷ []) (colon_due ∷ deeper d ∷ close 10 c.args.name.token.start ∷ fields d s ∷ []) (λ K. object_name b from.end d (token_of c.args.name.token) K s c.args.name.is) (name_kind _ c.args.name.is).1 (wrote_then c.open.ensures c.leaf.ensures)) _ c.reached.ensures.next c.reached.ensures.end)
    (above (deeper d ∷ close 10 c.args.name.token.start ∷ fields d s ∷ []) (c.colon.ensures b))
