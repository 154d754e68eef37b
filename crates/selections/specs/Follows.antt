-- What follows. Assumes nothing: these are definitions.
use Rattle.std.specs.Prelude.{ℕ, Bool, ◌||◌, eqb}
use Rattle.syntax.specs.Token.{dots, is_name}

-- a selection begins with a Name or with a `...`
unfoldable pub begins_selection : ℕ → Bool
begins_selection k = eqb k dots || is_name k
