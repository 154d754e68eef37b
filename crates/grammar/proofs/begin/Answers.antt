-- `begin` meets its contract: each entry's function, from the first item on. Assumes nothing.
use Rattle.grammar.proofs.Starts.{by_value, by_constant, by_type, by_set, same_tape}
use Rattle.grammar.proofs.begin.Goals as goal

pub returns-in-Value : goal.returns-in-Value
returns-in-Value c = let b = by_value c.args.entry c.args.depth c.in-Value.is c.value.ensures in record { same = same_tape b; begins = b }

pub returns-in-Constant : goal.returns-in-Constant
returns-in-Constant c = let b = by_constant c.args.entry c.args.depth c.in-Constant.is c.value-in-Constant.ensures in record { same = same_tape b; begins = b }

pub returns-in-Ty : goal.returns-in-Ty
returns-in-Ty c = let b = by_type c.args.entry c.args.depth c.in-Ty.is c.ty.ensures in record { same = same_tape b; begins = b }

pub returns-in-SelectionSet : goal.returns-in-SelectionSet
returns-in-SelectionSet c = let b = by_set c.args.entry c.args.depth c.in-SelectionSet.is c.selection_set.ensures in record { same = same_tape b; begins = b }
