-- Q-6: an item is its own. Whatever came earlier in the text, a token is that token, at the text's end or before it, and a string's fault is
-- the error of that string's own item and of no other. Assumes nothing.
use Prim.Native.Nat.{ℕ, ◌+◌, ◌≤◌}
use mathlib.Core.Path.{◌≡◌, refl, sym, ap, ◌∙◌}
use mathlib.Core.List.{List, [], ◌∷◌}
use native.Mathlib.Omega.{arith}
use lib.ListN.{drop, get_or}
use Rattle.codes.specs.Errors as errors
use Rattle.rules.specs.Rules.{Rule}
use Rattle.rules.specs.Errors.{Fault, lone_quote, unterminated, in_string, Stands, token, error}
use Rattle.rules.specs.Tokens.{token_at}
use Rattle.rules.specs.Items.{error_at, item_at}
use Rattle.rules.proofs.Codes.{rule_code}
use Rattle.rules.proofs.Items.{item_sound, token_item}
use Rattle.lexer.specs.declared.cursor.Cursor.{Cursor}
use Rattle.base.specs.declared.lexed.Lexed.TheVariants.{Token, Error}
use Rattle.base.specs.Lexed.{lexed_of, code_of}
use Rattle.lexer.specs.Cursor.{advanced_of}
use Rattle.base.proofs.Found.{token_lexed, code_lexed}

-- where a rule matches at the cursor, the item is that token, whatever the text holds before it
pub own_token : (t : List ℕ) (c : Cursor) {k n : ℕ} → Rule k (drop c.index t) n → (advanced_of t c).item ≡ Token k n
unfolding advanced_of
own_token t c {k} {n} r = let h = (rule_code r).1 in ap lexed_of (token_item r) ∙ sym (token_lexed k n (omega arith))

-- an error of a string, 11 to 18, stands where a quote does
quote_at : {k n : ℕ} {t : List ℕ} → Fault k t n → errors.lone_quote ≤ k → get_or t 0 0 ≡ 34
quote_at lone_quote l = refl
quote_at (unterminated r h c) l = refl
quote_at (in_string r f fs c e) l = refl
quote_at _ l = absurd (omega arith)

-- so a string's fault is used up by that string's own item: where the cursor's item is one of these errors, a quote stands at the cursor
pub own_fault : (t : List ℕ) (c : Cursor) (f n : ℕ) → (advanced_of t c).item ≡ Error f n → errors.lone_quote ≤ f → get_or (drop c.index t) 0 0 ≡ 34
unfolding advanced_of item_at token_at error_at
own_fault t c f n e l = go (drop c.index t) (sym (code_lexed (item_at (drop c.index t))) ∙ ap code_of e)
  where
    stands : {k m : ℕ} {s : List ℕ} → Stands k s m → k ≡ 64 + f → get_or s 0 0 ≡ 34
    stands (token r) z = let h = (rule_code r).1 in absurd (omega arith)
    stands (error x) z = quote_at x (omega arith)

    go : (s : List ℕ) → (item_at s).code ≡ 64 + f → get_or s 0 0 ≡ 34
    go [] z = absurd (omega arith)
    go (b ∷ s) z = stands (item_sound b s) z
