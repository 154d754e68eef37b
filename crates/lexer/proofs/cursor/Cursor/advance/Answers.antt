-- `lexer::cursor::Cursor::advance` meets its contract: what stands at the front of the unread suffix is the item at the cursor. Assumes nothing.
use mathlib.Core.Path.{◌≡◌, ap, ◌∙◌}
use mathlib.Core.List.{List}
use Prim.Native.Nat.{ℕ, ◌-◌, ◌≤◌}
use native.Mathlib.Omega.{arith}
use lib.ListN.{length, take, drop, length-drop}
use Rattle.base.proofs.Lists.{part_rest}
use Rattle.rules.specs.Items.{item_at}
use Rattle.rules.proofs.Bounds.{item_le}
use Rattle.base.specs.Item.{Lexeme}
use Rattle.base.specs.Lexed.{lexed_of, size_of}
use Rattle.base.specs.declared.lexed.Lexed.{Lexed}
use Rattle.lexer.specs.Cursor.{advanced_of}
use Rattle.base.proofs.Found.{size_lexed}
use Rattle.lexer.proofs.cursor.Cursor.advance.Goals as goal

-- what was found is the item of what is left of the text
found : (text : List ℕ) (at : ℕ) (x : Lexed) → at ≤ length text → x ≡ lexed_of (item_at (take (length text - at) (drop at text)))
    → x ≡ lexed_of (item_at (drop at text))
found text at x h e = e ∙ ap (λ (s : List ℕ). lexed_of (item_at s)) (part_rest text at h)

-- and its size is the item's
sized : (x : Lexed) (n : ℕ) (i : Lexeme) → x ≡ lexed_of i → n ≡ size_of x → n ≡ i.size
sized x n i e f = f ∙ ap size_of e ∙ size_lexed _

pub overflow_add-index : goal.overflow_add-index
overflow_add-index c = let l = item_le (drop c.args.self.index c.args.text.now) in
    let d = length-drop c.args.self.index c.args.text.now in
    let p = c.requires in
    omega (arith, sized _ _ _ (found _ _ _ c.requires c.scan-item.ensures) c.size_of.ensures)

pub returns : goal.returns
unfolding advanced_of
returns c =
    rw (found _ _ _ c.requires c.scan-item.ensures, sized _ _ _ (found _ _ _ c.requires c.scan-item.ensures) c.size_of.ensures)
