-- `Tokens::peek` meets its contract. The invariant: the tokens from item number i on are those from `at` on. Assumes nothing.
use mathlib.Core.Path.{◌≡◌}
use Prim.Native.Nat.{◌-◌, ◌≤◌, ◌<◌}
use lib.ListN.{length}
use Rattle.rules.specs.Items.{items as items_of}
use Rattle.parser.specs.View.{rest}
use Rattle.parser.proofs.tokens.Tokens.peek.Given as goal

abbrev pub invariant-loop-e : goal.invariant-loop-e
invariant-loop-e l = (l.at ≤ l.i) × (l.i < length (items_of l.self.text.now)) × (rest l.self.text.now l.at ≡ rest l.self.text.now l.i)

abbrev pub decreases-loop-e : goal.decreases-loop-e
decreases-loop-e l = length (items_of l.self.text.now) - l.i
