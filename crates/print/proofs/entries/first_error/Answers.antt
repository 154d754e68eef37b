-- `print::entries::first_error` meets its contract: the chain stops with the first error item. Assumes nothing.
use Rattle.std.proofs.Common.{rules}
use mathlib.Core.Path.{refl}
use Rattle.print.proofs.Errors.{searched}
use Rattle.print.proofs.entries.first_error.Goals as goal

pub returns : goal.returns
returns c = searched c.args.tape.now _ _ (λ k r q h. search rules) c.args.count _ c.find_map.result refl c.find_map.ensures.runs
