-- The entries of a tape, as far as it has any. Assumes nothing: these are definitions.
use Rattle.std.specs.Prelude.{ℕ, zero, suc, ◌-◌, List, leb, ltb, Option, None, Some}
use Rattle.base.specs.Text.{pick}
use Rattle.base.specs.Item.{Item, item}
use Rattle.codes.specs.ItemCodes as codes
use Rattle.tape.specs.Entry.{room, entry_of}

-- entry number i of a tape; Eof at 0 where the tape has none
unfoldable pub entry_at : List ℕ → ℕ → Item
entry_at tape i = pick (ltb i (room tape)) (entry_of tape i) (item codes.eof 0 0)

-- the error of the first error item among `count` entries from entry i on, if one is
unfoldable pub first_error : List ℕ → (i count : ℕ) → Option ℕ
first_error tape i zero = None
first_error tape i (suc n) =
    pick (leb codes.errors (entry_at tape i).code) (Some ((entry_at tape i).code - codes.errors)) (first_error tape (suc i) n)
