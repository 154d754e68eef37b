-- `write` meets its contract. Assumes nothing.
use mathlib.Core.Path.{◌∙◌}
use native.Mathlib.Omega.{arith}
use Rattle.base.specs.Item.{item}
use Rattle.parser.proofs.Writing.{store_in, store_out}
use Rattle.parser.proofs.events.write.Goals as goal

pub returns-then-is_full : goal.returns-then-is_full
returns-then-is_full c = store_out _ _ (item c.args.code c.args.start c.args.size) (omega (arith, c.capacity.ensures, c.if-is_full.true))

pub returns : goal.returns
returns c = c.put_entry.ensures ∙ store_in _ _ (item c.args.code c.args.start c.args.size) (omega (arith, c.capacity.ensures, c.if-is_full.false))
