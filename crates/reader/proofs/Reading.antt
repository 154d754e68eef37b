-- Reading with the cursor, on plain values: what holds at the loop's head, and what the cursor's step makes of it. Assumes nothing.
use mathlib.Core.Path.{◌≡◌, refl, ap, ◌∙◌}
use mathlib.Core.List.{List, [], ◌∷◌}
use Prim.Native.Nat.{ℕ, ◌+◌, ◌*◌, ◌^◌, ◌≤◌, ◌<◌, min}
use native.Mathlib.Omega.{arith}
use lib.ListN.{length, drop, length-drop}
use Rattle.tape.specs.Entry.{entry_size, room, entry, over_at}
use Rattle.rules.specs.Tokens.{token_at}
use Rattle.rules.specs.Items.{error_at, item_at, items}
use Rattle.rules.proofs.Bounds.{item_pos, item_le}
use Rattle.rules.proofs.Codes.{code_at}
use Rattle.lexer.specs.declared.cursor.Cursor.{Cursor}
use Rattle.lexer.specs.declared.cursor.Advanced.{Advanced}
use Rattle.base.specs.Lexed.{code_of, size_of}
use Rattle.lexer.specs.Cursor.{advanced_of}
use Rattle.base.proofs.Found.{code_lexed, size_lexed}
use Rattle.reader.specs.Answers.{longest, answer, given_answer, given_tape}
use Rattle.reader.proofs.Turn.{State, begin, fits_entry, at_end_lem, at_end_tape, size_pos, next}

-- the loop's head: the cursor stands where the items that were given end
pub record Head (t old : List ℕ) (limit : ℕ) (tape : List ℕ) (c : Cursor) (n : ℕ) : Type 0 where
  pub short : length t ≤ longest
  pub state : State item_at item_pos item_le t old limit tape c.index n

pub start : (t old : List ℕ) (limit : ℕ) (c : Cursor) → length t ≤ longest → c.index ≡ 0 → Head t old limit old c 0
start t old limit c h i = record {
  short = h;
  state = rw i (begin item_at item_pos item_le t old limit);
}

-- a code fits a byte
pub code_fits : (t old : List ℕ) (limit : ℕ) (tape : List ℕ) (c : Cursor) (n : ℕ) → Head t old limit tape c n
    → (r : Advanced) → r ≡ advanced_of t c → code_of r.item < 256
unfolding advanced_of item_at token_at error_at
code_fits t old limit tape c n H r e = rw (e, code_lexed (item_at (drop c.index t))) (go (drop c.index t))
  where
    go : (s : List ℕ) → (item_at s).code < 256
    go [] = omega arith
    go (b ∷ s) = let k = code_at (b ∷ s) (omega arith) in omega arith

module _ (t old : List ℕ) (limit : ℕ) (tape : List ℕ) (c : Cursor) (n : ℕ) (H : Head t old limit tape c n)
    (r : Advanced) (e : r ≡ advanced_of t c) (code : ℕ) (ce : code ≡ code_of r.item) (size : ℕ) (ze : size ≡ size_of r.item) where
  is_code : code ≡ (item_at (drop c.index t)).code
  unfolding advanced_of
  is_code = ce ∙ ap (λ (x : Advanced). code_of x.item) e ∙ code_lexed (item_at (drop c.index t))

  is_size : size ≡ (item_at (drop c.index t)).size
  unfolding advanced_of
  is_size = ze ∙ ap (λ (x : Advanced). size_of x.item) e ∙ size_lexed (item_at (drop c.index t))

  pub size_fits : c.index + size ≤ length t
  size_fits =
      let l = item_le (drop c.index t) in
      let d = length-drop c.index t in
      let w = H.state.within in
      omega (arith, is_size)

  -- at the text's end stands Eof, and nowhere else
  pub at_eof : code ≡ 0 → c.index ≡ length t
  at_eof z = go (drop c.index t) refl
    where
      go : (s : List ℕ) → drop c.index t ≡ s → c.index ≡ length t
      go [] f = let d = length-drop c.index t in let w = H.state.within in omega (arith, ap length f)
      go (b ∷ s) f =
          let k = code_at (b ∷ s) (omega arith) in
          let g : code ≡ (item_at (b ∷ s)).code = rw f at is_code in
          absurd (omega arith)

  pub not_eof : (code ≡ 0 → ⊥) → c.index < length t
  unfolding item_at token_at error_at
  not_eof z = go (drop c.index t) refl
    where
      go : (s : List ℕ) → drop c.index t ≡ s → c.index < length t
      go [] f = absurd (z (is_code ∙ rw f))
      go (b ∷ s) f = let d = length-drop c.index t in omega (arith, ap length f)

  pub eof_size : code ≡ 0 → size ≡ 0
  eof_size z = let f = size_fits in let a = at_eof z in omega arith

  module _ (d : n < min limit (room old)) where
    pub put_fits : (n < room tape) × ((c.index < 2 ^ 28) × (size < 2 ^ 28))
    put_fits =
        let h = H.short in
        let s = size_fits in
        let w = H.state.within in
        (fits_entry item_at item_pos item_le t old limit tape c.index n H.state d, (omega arith, omega arith))

    -- the end: Eof is written
    pub given_all : code ≡ 0 → answer 0 c.index (n + 1) 0 ≡ given_answer (length t) (items t) limit (room old)
    given_all z = at_end_lem item_at item_pos item_le t old limit tape c.index n H.state d (at_eof z)

    pub given_all_tape : code ≡ 0 → over_at (n * entry_size) tape (entry code c.index size) ≡ given_tape (items t) limit old
    given_all_tape z = rw (z, eof_size z) (at_end_tape item_at item_pos item_le t old limit tape c.index n H.state d (at_eof z))

    -- a turn
    module _ (z : code ≡ 0 → ⊥) where
      new_index : r.cursor.index ≡ c.index + size
      unfolding advanced_of
      new_index = ap (λ (x : Advanced). x.cursor.index) e ∙ rw is_size

      pub further : c.index < r.cursor.index
      further =
          let p = size_pos item_at item_pos item_le t old limit tape c.index n H.state d (not_eof z) in
          omega (arith, new_index, is_size)

      pub again : Head t old limit (over_at (n * entry_size) tape (entry code c.index size)) r.cursor (n + 1)
      again = record {
        short = H.short;
        state = rw (new_index, is_code, is_size) (next item_at item_pos item_le t old limit tape c.index n H.state d (not_eof z));
      }
