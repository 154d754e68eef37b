-- `ty` meets its contract. Assumes nothing.
use mathlib.Core.Path.{refl}
use Rattle.std.proofs.lemmas.Result.{err_from_is_err_and}
use Rattle.typerefs.specs.Promise.{withheld}
use Rattle.typerefs.proofs.Walks.{walked_after, type_given, type_withheld}
use Rattle.typerefs.proofs.ty.ty.Goals as goal

pub returns-in_err-walk : goal.returns-in_err-walk
returns-in_err-walk c =
    let p = err_from_is_err_and c.from_residual.result c.from_residual.ensures.1 in
    rw (p.1, p.2) (withheld refl refl (type_withheld c.in_err-walk.ensures))

pub returns : goal.returns
returns c = type_given (walked_after c.in_ok-walk.ensures) c.walk-2.ensures
