-- `numbers::number` meets its contract: by the first byte, the machine that is right. Assumes nothing.
use mathlib.Core.Path.{ap, ◌∙◌}
use borrow.Author.Rules.{rules}
use Rattle.base.specs.Lexed.{lexed_of}
use Rattle.numbers.proofs.Machine.{machine_minus, machine_zero, machine_nonzero}
use Rattle.numbers.proofs.number.Goals as goal
use Rattle.numbers.proofs.number.Goals.{in-45, in-48, in_default}

pub returns : goal.returns
returns c =
    elim c.match-rest.branch [
      | in-45 w ↦ rw w.start-is at c.number_from.ensures ∙ ap lexed_of (machine_minus _ c.requires.rest_nonzero w.in-45.is)
      | in-48 w ↦ rw w.start-is at c.number_from.ensures ∙ ap lexed_of (machine_zero _ c.requires.rest_nonzero w.in-48.is)
      | in_default w ↦ rw w.start-is at c.number_from.ensures ∙ ap lexed_of (machine_nonzero _ c.requires.rest_nonzero c.requires.rest_value (search rules) (search rules))
    ]
