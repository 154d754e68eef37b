-- `strings::to_digit` meets its contract: the library's digits are document 01's. Assumes nothing.
use Rattle.strings.proofs.Hex.{hex_read}
use Rattle.strings.proofs.to_digit.Goals as goal

pub returns : goal.returns
returns c = hex_read c.args.b c.to_digit.result (rw c.from.ensures at c.to_digit.ensures.value)
