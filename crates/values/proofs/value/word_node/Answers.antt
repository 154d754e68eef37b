-- `word_node` meets its contract. Assumes nothing.
use mathlib.Core.Path.{refl}
use Rattle.values.specs.Scalars.{scalar_node}
use Rattle.values.proofs.value.word_node.Goals as goal

pub returns-in-True : goal.returns-in-True
unfolding scalar_node
returns-in-True c = rw c.in-True.is refl

pub returns-in-False : goal.returns-in-False
unfolding scalar_node
returns-in-False c = rw c.in-False.is refl

pub returns-in-Null : goal.returns-in-Null
unfolding scalar_node
returns-in-Null c = rw c.in-Null.is refl

pub returns-in-On : goal.returns-in-On
unfolding scalar_node
returns-in-On c = rw c.in-On.is refl
