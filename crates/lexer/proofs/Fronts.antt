-- The item at the front of a text, by its first byte. Assumes nothing.
use Prim.Native.Nat.{ℕ, suc, ◌+◌, ◌-◌, ◌≤◌, ◌<◌}
use mathlib.Core.Path.{◌≡◌, refl, sym, ap, ◌∙◌}
use mathlib.Core.Bool.{Bool, true, false}
use mathlib.Core.List.{List, [], ◌∷◌}
use mathlib.Core.Option.{Option, some, none}
use native.Mathlib.Nat.{not-suc-le-zero}
use native.Mathlib.Numerals.{one-add}
use native.Mathlib.Omega.{arith}
use borrow.Author.Tests.{ne_eqb}
use lib.Dec.{eqb}
use lib.ListN.{length, take, drop, get_or, length-drop}
use Rattle.base.specs.Text.{pick, Class}
use Rattle.base.specs.Item.{Lexeme, lexeme}
use Rattle.base.specs.Run.{run}
use Rattle.base.proofs.Lists.{part_rest}
use Rattle.base.proofs.Runs.{run_fits}
use Rattle.base.proofs.Span.{span_stop, span_step}
use Rattle.utf8.specs.Sequence.{size}
use Rattle.rules.specs.Classes.{name_start, name_continue, not_line_end}
use Rattle.rules.specs.Rules.{spread, punctuator}
use Rattle.rules.specs.Tokens.{blank, blanks, punctuator_at, token_at}
use Rattle.rules.specs.Errors.{starter, unexpected, two_dots, one_dot, error}
use Rattle.rules.specs.Items.{error_at, item_at}
use Rattle.rules.proofs.Blanks.{blank_le}
use Rattle.rules.proofs.Tokens.{name_sound, comment_sound, blanks_token}
use Rattle.rules.proofs.Items.{no_rule, item_complete, token_item}
use Rattle.lookup.specs.Class.{punctuation_of, class_of}
use Rattle.lookup.proofs.Classes.{Is, view, punctuator_code}
use Rattle.lookup.proofs.Classes as classes

-- the text's end
pub eof_item_lem : (t : List ℕ) → length t ≡ 0 → item_at t ≡ lexeme 0 0
unfolding item_at token_at error_at
eof_item_lem [] e = refl
eof_item_lem (b ∷ r) e = absurd (omega arith)

-- a name
pub name_item : (t : List ℕ) → 0 < length t → name_start (get_or t 0 0) ≡ true → item_at t ≡ lexeme 18 (1 + run name_continue (drop 1 t))
name_item [] h e = absurd (not-suc-le-zero h)
name_item (b ∷ r) h e = rw one-add (token_item (name_sound b r e))

-- a comment
pub comment_item : (t : List ℕ) → 0 < length t → get_or t 0 0 ≡ 35 → item_at t ≡ lexeme 2 (1 + run not_line_end (drop 1 t))
comment_item [] h e = absurd (not-suc-le-zero h)
comment_item (b ∷ r) h e = rw (e, one-add) (token_item (comment_sound r))

-- a run of blanks, where one stands at the front
pub blank_item : (t : List ℕ) → 0 < blank t → item_at t ≡ lexeme 1 (blanks t)
blank_item t h =
    let s = span_step blank t (blank t) refl h (blank_le t) in
    token_item (blanks_token t (ne_eqb (blanks t) 0 (λ e. omega arith)))

-- a punctuator
pub punctuator_item : (t : List ℕ) (k : ℕ) → 0 < length t → class_of (get_or t 0 0) ≡ k → 3 ≤ k → k ≤ 17 → (k ≡ 9 → ⊥) → item_at t ≡ lexeme k 1
punctuator_item [] k h e = absurd (not-suc-le-zero h)
punctuator_item (b ∷ r) k h e = go r (view b) e
  where
    go : {b j : ℕ} (r : List ℕ) → Is b j → j ≡ k → 3 ≤ k → k ≤ 17 → (k ≡ 9 → ⊥) → item_at (b ∷ r) ≡ lexeme k 1
    go r classes.dot e l u d = absurd (d (sym e))
    go r (classes.punctuator s) e l u d = rw (← e) (token_item (punctuator s))
    go r _ e l u d = absurd (omega arith)

-- `.` without a second one
pub one_dot_lem : (t : List ℕ) → 0 < length t → get_or t 0 0 ≡ 46 → (get_or t 1 0 ≡ 46 → ⊥) → item_at t ≡ lexeme 74 (1 + size (drop 1 t))
one_dot_lem [] h e d = absurd (not-suc-le-zero h)
one_dot_lem (b ∷ []) h e d = rw e (item_complete (error (one_dot [] refl)))
one_dot_lem (b ∷ c ∷ r) h e d = rw e (item_complete (error (one_dot (c ∷ r) (ne_eqb c 46 d))))

-- two without a third one
pub two_dots_lem : (t : List ℕ) → get_or t 0 0 ≡ 46 → get_or t 1 0 ≡ 46 → (get_or t 2 0 ≡ 46 → ⊥) → item_at t ≡ lexeme 74 2
two_dots_lem [] e f g = absurd (omega arith)
two_dots_lem (b ∷ []) e f g = absurd (omega arith)
two_dots_lem (b ∷ c ∷ []) e f g = rw (e, f) (item_complete (error (two_dots [] refl)))
two_dots_lem (b ∷ c ∷ d ∷ r) e f g = rw (e, f) (item_complete (error (two_dots (d ∷ r) (ne_eqb d 46 g))))

-- and three
pub three_dots : (t : List ℕ) → get_or t 0 0 ≡ 46 → get_or t 1 0 ≡ 46 → get_or t 2 0 ≡ 46 → item_at t ≡ lexeme 9 3
three_dots [] e f g = absurd (omega arith)
three_dots (b ∷ []) e f g = absurd (omega arith)
three_dots (b ∷ c ∷ []) e f g = absurd (omega arith)
three_dots (b ∷ c ∷ d ∷ r) e f g = rw (e, f, g) (token_item spread)

-- no punctuator, by both names of the fourteen
agree : (b : ℕ) → punctuation_of b ≡ 0 → punctuator_at b ≡ none
unfolding punctuation_of punctuator_at
agree b =
    one 44 2 (one 33 3 (one 36 4 (one 38 5 (one 40 6 (one 41 7 (one 58 9 (one 61 10 (one 64 11 (one 91 12 (one 93 13 (one 123 14 (one 124 15 (one 125 16 (λ e. refl))))))))))))))
  where
    one : (c k : ℕ) {x : Option Lexeme} {y : ℕ} → (y ≡ 0 → x ≡ none) → pick (eqb b c) (suc k) y ≡ 0 → pick (eqb b c) (some (lexeme (suc k) 1)) x ≡ none
    one c k {x} {y} f = go (eqb b c)
      where
        go : (v : Bool) → pick v (suc k) y ≡ 0 → pick v (some (lexeme (suc k) 1)) x ≡ none
        go true e = absurd (omega arith)
        go false e = f e

-- an unexpected character
pub other_item : (t : List ℕ) → 0 < length t → class_of (get_or t 0 0) ≡ 0 → blank t ≡ 0 → item_at t ≡ lexeme 65 (size t)
unfolding token_at starter
other_item [] h e w = absurd (not-suc-le-zero h)
other_item (b ∷ r) h e w = go r (view b) w e
  where
    go : {b j : ℕ} (r : List ℕ) → Is b j → blank (b ∷ r) ≡ 0 → j ≡ 0 → item_at (b ∷ r) ≡ lexeme 65 (size (b ∷ r))
    go r (classes.punctuator s) w e = let c = punctuator_code s in absurd (omega arith)
    go {b} r (classes.other n d k q h m p z) w e =
        item_complete (error (unexpected b r (rw (d, m, p, q)) (no_rule (b ∷ r) (rw (d, m, n, q, h, p, span_stop blank (b ∷ r) w) (agree b z)))))
    go r _ w e = absurd (omega arith)

-- a run in what follows the first byte, which the code gets as a part
pub tail_run : (c : Class) (t : List ℕ) (n : ℕ) → 0 < length t → n ≡ run c (take (length t - 1) (drop 1 t)) → n ≡ run c (drop 1 t)
tail_run c t n h e = e ∙ ap (run c) (part_rest t 1 h)

pub tail_fits : (c : Class) (t : List ℕ) (n : ℕ) → 0 < length t → n ≡ run c (take (length t - 1) (drop 1 t)) → 1 + n ≤ length t
tail_fits c t n h e =
    let l = run_fits c (drop 1 t) in
    let k = tail_run c t n h e in
    let d = length-drop 1 t in
    omega arith

-- the size of the character after the first byte, likewise
pub tail_size : (t : List ℕ) (n : ℕ) → 0 < length t → n ≡ size (take (length t - 1) (drop 1 t)) → n ≡ size (drop 1 t)
tail_size t n h e = e ∙ ap size (part_rest t 1 h)
