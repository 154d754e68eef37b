-- What the cursor's step answers. Assumes nothing: these are definitions.
use Rattle.std.specs.Prelude.{ℕ, ◌+◌, List, drop}
use Rattle.rules.specs.Items.{item_at}
use Rattle.base.specs.Lexed.{lexed_of}
use Rattle.lexer.specs.declared.cursor.Cursor.{Cursor}
use Rattle.lexer.specs.declared.cursor.Advanced.{Advanced}

-- the item at the cursor, and the cursor behind it
unfoldable pub advanced_of : List ℕ → Cursor → Advanced
advanced_of t c = record {
  item = lexed_of (item_at (drop c.index t));
  cursor = record { index = c.index + (item_at (drop c.index t)).size };
}
