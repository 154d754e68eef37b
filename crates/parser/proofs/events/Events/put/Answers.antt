-- `Events::put` meets its contract. Assumes nothing.
use mathlib.Core.Path.{refl}
use Rattle.parser.proofs.Writing.{puts_one}
use Rattle.parser.proofs.events.Events.put.Goals as goal

pub returns : goal.returns
returns c = record { same = refl; puts = puts_one _ _ _ _ _ c.write.auto.tape c.write.ensures c.counted-self.ensures.more }
