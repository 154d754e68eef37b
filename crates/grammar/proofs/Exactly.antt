-- "Exactly when": each number of the grammar's entries, and the answer and tapes that go with it. Assumes nothing.
use Prim.Native.Nat.{ℕ, ◌≤◌, ◌<◌}
use mathlib.Core.Path.{◌≡◌, refl, sym, ap, ◌∙◌}
use mathlib.Core.List.{List, [], ◌∷◌}
use mathlib.Core.Logic.{◌↔◌}
use native.Mathlib.Omega.{arith}
use borrow.Author.Tests.{ltb-true, ltb-false, leb-true, leb-false, eqb-true, eqb-false, le-leb, lt-leb}
use lib.Dec.{ltb, leb, eqb}
use lib.ListN.{length}
use Rattle.base.specs.Item.{Item}
use Rattle.base.proofs.Tests.{by}
use Rattle.tape.specs.Entry.{room, entry_of}
use Rattle.rules.specs.Items.{items as items_of}
use Rattle.reader.specs.declared.Answer.{Answer}
use Rattle.reader.specs.Answers.{answer_of, tape_of}
use Rattle.reader.proofs.Laws as reader
use Rattle.syntax.specs.Words.{tokens}
use Rattle.syntax.specs.Machine.{Read, refused, accepted}
use Rattle.grammar.specs.declared.Entry.{Entry}
use Rattle.grammar.specs.Answers.{read_of, deepest, is_error, first_error, read_answer, grammar_answer}
use Rattle.grammar.specs.Trees.{Tree, tree_events, Clear, Sentence}
use Rattle.grammar.proofs.Rows.{too_deep_lem, not_read, an_error}
use Rattle.grammar.proofs.Laws.{sound, complete, refused_number, clear_read}

-- no item is an error, or one is the first
first_within : (xs : List Item) → first_error xs ≤ length xs
unfolding first_error
first_within [] = omega arith
first_within (x ∷ xs) =
    by (is_error x) (λ e. rw e (omega arith)) (λ e. let h = first_within xs in rw e (omega arith))

-- item reading answers 0, or 2 to 5
item_number : {t : List ℕ} {limit : ℕ} {tape : List ℕ} {n : ℕ} → reader.Row t limit tape n → (n ≡ 0 → ⊥) → (2 ≤ n) × (n ≤ 5)
item_number (reader.Row.done h l) z = absurd (z refl)
item_number (reader.Row.too_long h) z = (omega arith, omega arith)
item_number (reader.Row.ill_formed h k) z = (omega arith, omega arith)
item_number (reader.Row.at_limit h l r) z = (omega arith, omega arith)
item_number (reader.Row.at_room h l r) z = (omega arith, omega arith)

number_of : {a b : Answer} → a ≡ b → a.number ≡ b.number
number_of e = ap (λ (a : Answer). a.number) e

-- the row of the table with this number
pub data Row (e : Entry) (t : List ℕ) (limit depth : ℕ) (items events : List ℕ) : ℕ → Type 0 where
  deep : deepest < depth → Row e t limit depth items events 1
  unread_items : {n : ℕ} → depth ≤ deepest → (answer_of t limit items).number ≡ n → (2 ≤ n) × (n ≤ 5) → Row e t limit depth items events n
  faulty : depth ≤ deepest → (answer_of t limit items).number ≡ 0 → first_error (items_of t) < length (items_of t) → Row e t limit depth items events 6
  refusal : {n : ℕ} (place : ℕ) → Clear t limit depth items → read_of e depth (tokens t) ≡ refused n place → (7 ≤ n) × (n ≤ 9) → Row e t limit depth items events n
  short : (x : Tree e) → Clear t limit depth items → Sentence e depth t x → room events < length (tree_events e x) → Row e t limit depth items events 10
  done : (x : Tree e) → Clear t limit depth items → Sentence e depth t x → length (tree_events e x) ≤ room events → Row e t limit depth items events 0

module _ (e : Entry) (t : List ℕ) (limit depth : ℕ) (items events : List ℕ) where
  -- the row has its number
  pub numbered : {n : ℕ} → Row e t limit depth items events n → (grammar_answer e t limit depth items events).number ≡ n
  unfolding read_answer
  numbered (deep h) = number_of (sym (too_deep_lem e t limit depth items events h).0)
  numbered (unread_items h z k) =
      number_of (sym (not_read e t limit depth items events h (answer_of t limit items) (tape_of t limit items) refl refl (λ q. omega (arith, k.0, z, q))).0) ∙ z
  numbered (faulty h z l) =
      let d = reader.done_all t limit items z in
      number_of (sym (an_error e t limit depth items events h (answer_of t limit items) (tape_of t limit items) refl refl z
      (first_error (items_of t)) refl (rw d.count l) (entry_of (tape_of t limit items) (first_error (items_of t))) refl).0)
  numbered (refusal p c r k) = number_of (clear_read e t limit depth items events c).0 ∙ rw r
  numbered (short x c s l) =
      number_of (clear_read e t limit depth items events c).0 ∙ rw (complete e depth t x s, lt-leb (length (tree_events e x)) (room events) l)
  numbered (done x c s l) =
      number_of (clear_read e t limit depth items events c).0 ∙ rw (complete e depth t x s, le-leb (length (tree_events e x)) (room events) l)

  -- some row holds
  some_row : (n : ℕ) × Row e t limit depth items events n
  some_row =
      by (ltb deepest depth) (λ b. (1, deep (ltb-true deepest depth b))) (λ b.
      let h = ltb-false deepest depth b in
      by (eqb (answer_of t limit items).number 0) (λ z. read_so h (eqb-true _ 0 z)) (λ z.
      ((answer_of t limit items).number, unread_items h refl (item_number (reader.row t limit items) (eqb-false _ 0 z)))))
    where
      sentence_so : Clear t limit depth items → (r : Read) → read_of e depth (tokens t) ≡ r → (n : ℕ) × Row e t limit depth items events n
      sentence_so c (refused n p) h = (n, refusal p c h (refused_number e depth t n p h))
      sentence_so c (accepted es) h =
          let a = sound e depth t es h in
          by (leb (length (tree_events e a.tree)) (room events)) (λ b. (0, done a.tree c a.sentence (leb-true _ _ b)))
          (λ b. (10, short a.tree c a.sentence (leb-false _ _ b)))

      read_so : depth ≤ deepest → (answer_of t limit items).number ≡ 0 → (n : ℕ) × Row e t limit depth items events n
      read_so h z =
          by (ltb (first_error (items_of t)) (length (items_of t))) (λ b. (6, faulty h z (ltb-true _ _ b))) (λ b.
          let l = ltb-false (first_error (items_of t)) (length (items_of t)) b in
          let m = first_within (items_of t) in
          let d = reader.done_all t limit items z in
          sentence_so (record { utf8 = d.utf8; short = d.short; admitted = d.admitted; faultless = omega arith; allowed = h }) (read_of e depth (tokens t)) refl)

  -- the row of the number that is answered
  pub row : Row e t limit depth items events (grammar_answer e t limit depth items events).number
  row = rw (numbered some_row.1) some_row.1

-- "Exactly when", number by number
pub record ExactlyWhen (e : Entry) (t : List ℕ) (limit depth : ℕ) (items events : List ℕ) (number : ℕ) : Type 0 where
  pub n0 : (number ≡ 0) ↔ ((x : Tree e) × Clear t limit depth items × Sentence e depth t x × (length (tree_events e x) ≤ room events))
  pub n1 : (number ≡ 1) ↔ (deepest < depth)
  -- 2 to 5: what reading items alone answers
  pub n2_5 : (n : ℕ) → 2 ≤ n → n ≤ 5 → (number ≡ n) ↔ ((depth ≤ deepest) × ((answer_of t limit items).number ≡ n))
  pub n6 : (number ≡ 6) ↔ ((depth ≤ deepest) × ((answer_of t limit items).number ≡ 0) × (first_error (items_of t) < length (items_of t)))
  -- 7 to 9: by the reader's definition
  pub n7_9 : (n : ℕ) → 7 ≤ n → n ≤ 9 → (number ≡ n) ↔ ((place : ℕ) × Clear t limit depth items × (read_of e depth (tokens t) ≡ refused n place))
  pub n10 : (number ≡ 10) ↔ ((x : Tree e) × Clear t limit depth items × Sentence e depth t x × (room events < length (tree_events e x)))
  -- and no other number
  pub all : number ≤ 10

module _ {e : Entry} {t : List ℕ} {limit depth : ℕ} {items events : List ℕ} where
  at_0 : {n : ℕ} → Row e t limit depth items events n → n ≡ 0 → (x : Tree e) × Clear t limit depth items × Sentence e depth t x × (length (tree_events e x) ≤ room events)
  at_0 (deep h) q = absurd (omega arith)
  at_0 (unread_items h z k) q = absurd (omega (arith, k.0))
  at_0 (faulty h z l) q = absurd (omega arith)
  at_0 (refusal p c r k) q = absurd (omega (arith, k.0))
  at_0 (short x c s l) q = absurd (omega arith)
  at_0 (done x c s l) q = (x, c, s, l)

  at_1 : {n : ℕ} → Row e t limit depth items events n → n ≡ 1 → deepest < depth
  at_1 (deep h) q = h
  at_1 (unread_items h z k) q = absurd (omega (arith, k.0))
  at_1 (faulty h z l) q = absurd (omega arith)
  at_1 (refusal p c r k) q = absurd (omega (arith, k.0))
  at_1 (short x c s l) q = absurd (omega arith)
  at_1 (done x c s l) q = absurd (omega arith)

  at_2_5 : {n m : ℕ} → Row e t limit depth items events n → 2 ≤ m → m ≤ 5 → n ≡ m → (depth ≤ deepest) × ((answer_of t limit items).number ≡ m)
  at_2_5 (deep h) a b q = absurd (omega arith)
  at_2_5 (unread_items h z k) a b q = (h, z ∙ q)
  at_2_5 (faulty h z l) a b q = absurd (omega arith)
  at_2_5 (refusal p c r k) a b q = absurd (omega (arith, k.0))
  at_2_5 (short x c s l) a b q = absurd (omega arith)
  at_2_5 (done x c s l) a b q = absurd (omega arith)

  at_6 : {n : ℕ} → Row e t limit depth items events n → n ≡ 6 → (depth ≤ deepest) × ((answer_of t limit items).number ≡ 0) × (first_error (items_of t) < length (items_of t))
  at_6 (deep h) q = absurd (omega arith)
  at_6 (unread_items h z k) q = absurd (omega (arith, k.1))
  at_6 (faulty h z l) q = (h, z, l)
  at_6 (refusal p c r k) q = absurd (omega (arith, k.0))
  at_6 (short x c s l) q = absurd (omega arith)
  at_6 (done x c s l) q = absurd (omega arith)

  at_7_9 : {n m : ℕ} → Row e t limit depth items events n → 7 ≤ m → m ≤ 9 → n ≡ m
      → (place : ℕ) × Clear t limit depth items × (read_of e depth (tokens t) ≡ refused m place)
  at_7_9 (deep h) a b q = absurd (omega arith)
  at_7_9 (unread_items h z k) a b q = absurd (omega (arith, k.1))
  at_7_9 (faulty h z l) a b q = absurd (omega arith)
  at_7_9 (refusal p c r k) a b q = (p, c, r ∙ ap (λ (j : ℕ). refused j p) q)
  at_7_9 (short x c s l) a b q = absurd (omega arith)
  at_7_9 (done x c s l) a b q = absurd (omega arith)

  at_10 : {n : ℕ} → Row e t limit depth items events n → n ≡ 10 → (x : Tree e) × Clear t limit depth items × Sentence e depth t x × (room events < length (tree_events e x))
  at_10 (deep h) q = absurd (omega arith)
  at_10 (unread_items h z k) q = absurd (omega (arith, k.1))
  at_10 (faulty h z l) q = absurd (omega arith)
  at_10 (refusal p c r k) q = absurd (omega (arith, k.1))
  at_10 (short x c s l) q = (x, c, s, l)
  at_10 (done x c s l) q = absurd (omega arith)

  at_most : {n : ℕ} → Row e t limit depth items events n → n ≤ 10
  at_most (deep h) = omega arith
  at_most (unread_items h z k) = omega (arith, k.1)
  at_most (faulty h z l) = omega arith
  at_most (refusal p c r k) = omega (arith, k.1)
  at_most (short x c s l) = omega arith
  at_most (done x c s l) = omega arith

pub exactly_when : (e : Entry) (t : List ℕ) (limit depth : ℕ) (items events : List ℕ)
    → ExactlyWhen e t limit depth items events (grammar_answer e t limit depth items events).number
exactly_when e t limit depth items events = record {
  n0 = (at_0 the_row, λ h. numbered e t limit depth items events (done h.0 h.1 h.2 h.3));
  n1 = (at_1 the_row, λ h. numbered e t limit depth items events (deep h));
  n2_5 = λ n a b. (at_2_5 the_row a b, λ h. numbered e t limit depth items events (unread_items h.0 h.1 (a, b)));
  n6 = (at_6 the_row, λ h. numbered e t limit depth items events (faulty h.0 h.1 h.2));
  n7_9 = λ n a b. (at_7_9 the_row a b, λ h. numbered e t limit depth items events (refusal h.0 h.1 h.2 (a, b)));
  n10 = (at_10 the_row, λ h. numbered e t limit depth items events (short h.0 h.1 h.2 h.3));
  all = at_most the_row;
}
  where
    the_row : Row e t limit depth items events (grammar_answer e t limit depth items events).number
    the_row = row e t limit depth items events
