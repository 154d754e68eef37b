-- The contracts of the public functions leave one result. Assumes nothing.
use Prim.Native.Nat.{ℕ}
use mathlib.Core.Path.{◌≡◌, sym, ap, ◌∙◌}
use Rattle.base.proofs.Results.{Unique}
use Rattle.lexer.specs.declared.cursor.Cursor.{Cursor}
use Rattle.lexer.proofs.scan.scan.Kinds as scan_kinds
use Rattle.lexer.proofs.scan.scan.Reads as scan
use Rattle.lexer.proofs.cursor.Cursor.new.Kinds as new_kinds
use Rattle.lexer.proofs.cursor.Cursor.new.Reads as new
use Rattle.lexer.proofs.cursor.Cursor.advance.Kinds as advance_kinds
use Rattle.lexer.proofs.cursor.Cursor.advance.Reads as advance

-- what stands at the front of a suffix
pub scan_unique : Unique 1 scan_kinds.ps scan_kinds.r scan.Post (λ κs r q s z. r ≡ q)
scan_unique κs a r q s z e f = e ∙ sym f

-- the contract is of the one field of a cursor: it is all that it has
pub new_unique : Unique 0 new_kinds.ps new_kinds.r new.Post (λ κs r q s z. r ≡ q)
new_unique κs a r q s z e f = ap at (e ∙ sym f)
  where
    at : ℕ → Cursor
    at i = record { index = i }

-- the item, and the cursor behind it
pub advance_unique : Unique 1 advance_kinds.ps advance_kinds.r advance.Post (λ κs r q s z. r ≡ q)
advance_unique κs a r q s z e f = e ∙ sym f
