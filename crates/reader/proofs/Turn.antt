-- The loop of reading on plain values, for any rule: what holds at its head, what a turn makes of it, and what each way out answers.
-- Assumes nothing.
use mathlib.Core.Path.{◌≡◌, refl, ap, ◌∙◌}
use mathlib.Core.List.{List, [], ◌∷◌}
use Prim.Native.Nat.{ℕ, ◌+◌, ◌*◌, ◌≤◌, ◌<◌, min, zero-le}
use native.Mathlib.Nat.{add-zero}
use native.Mathlib.Numerals.{add-one}
use native.Mathlib.Omega.{arith}
use borrow.Author.Tests.{le-leb, lt-leb}
use lib.ListN.{length, take, drop, length-take, length-drop, take-append-drop}
use lib.Seq.{take_all, drop-drop}
use Rattle.base.specs.Item.{Lexeme, Item, placed}
use Rattle.base.proofs.Lists.{take_next, drop_next, get_d_next, length_next}
use Rattle.tape.specs.Entry.{entry_size, room, entry, entries, over, over_at}
use Rattle.tape.proofs.Over.{length_entries, put_next, length_over}
use Rattle.tiles.specs.Tiles.{tiles, eof, tiles_eof}
use Rattle.tiles.proofs.Tiles.{tiles_step_eof}
use Rattle.reader.specs.Answers.{answer, unread, given_answer, given_tape}

module _ (rule : List ℕ → Lexeme) (some : (t : List ℕ) → 0 < length t → 0 < (rule t).size) (bounded : (t : List ℕ) → (rule t).size ≤ length t) where
  -- the items of t that are left from n on are those of its bytes from `at` on, and the n before them stand on the tape
  pub record State (t old : List ℕ) (limit : ℕ) (tape : List ℕ) (at n : ℕ) : Type 0 where
    pub within : at ≤ length t
    pub given : n ≤ limit
    pub roomy : n ≤ room old
    pub left : drop n (tiles_eof rule 0 t) ≡ tiles_eof rule at (drop at t)
    pub written : tape ≡ over old (entries (take n (tiles_eof rule 0 t)))

  pub begin : (t old : List ℕ) (limit : ℕ) → State t old limit old 0 0
  unfolding entries
  begin t old limit = record { within = zero-le; given = zero-le; roomy = zero-le; left = refl; written = refl }

  -- some item is left, and it starts at `at`
  next_item : (at : ℕ) (s : List ℕ) → (x : Item) × (r : List Item) × (tiles_eof rule at s ≡ x ∷ r) × (x.start ≡ at)
  unfolding tiles
  next_item at [] = (eof at, [], rw add-zero, refl)
  next_item at (b ∷ bs) = (placed at (rule (b ∷ bs)), _, refl, refl)

  module _ (t old : List ℕ) (limit : ℕ) (tape : List ℕ) (at n : ℕ) (S : State t old limit tape at n) where
    all : List Item
    all = tiles_eof rule 0 t

    front : drop n (tiles_eof rule 0 t) ≡ (next_item at (drop at t)).0 ∷ (next_item at (drop at t)).1
    front = S.left ∙ (next_item at (drop at t)).2

    more : n < length (tiles_eof rule 0 t)
    more = omega (arith, length_next n (tiles_eof rule 0 t) _ _ front)

    start_here : unread n (tiles_eof rule 0 t) ≡ at
    start_here = ap (λ (i : Item). i.start) (get_d_next n (tiles_eof rule 0 t) _ (eof 0) _ front) ∙ (next_item at (drop at t)).3

    pub length_tape : length tape ≡ length old
    length_tape =
        let e = length_entries (take n (tiles_eof rule 0 t)) in
        let f = length-take n (tiles_eof rule 0 t) in
        let m = more in
        let r = S.roomy in
        ap length S.written ∙ length_over old (entries (take n (tiles_eof rule 0 t))) (omega arith)

    -- no more items are let
    module _ (e : n ≡ min limit (room old)) where
      stopped_tape : tape ≡ given_tape (tiles_eof rule 0 t) limit old
      unfolding given_tape
      stopped_tape = rw (← e) S.written

      -- by the limit
      module _ (h : limit ≤ room old) where
        pub at_limit : answer 4 at limit 0 ≡ given_answer (length t) (tiles_eof rule 0 t) limit (room old)
        unfolding given_answer
        at_limit =
            let m = more in
            let few = lt-leb (length (tiles_eof rule 0 t)) (min limit (room old)) (omega arith) in
            let all : limit ≡ n = omega arith in
            rw (few, le-leb limit (room old) h, all, start_here)

        pub at_limit_tape : tape ≡ given_tape (tiles_eof rule 0 t) limit old
        at_limit_tape = stopped_tape

      -- by the tape's end
      module _ (h : room old < limit) where
        pub at_room : answer 5 at (room old) 0 ≡ given_answer (length t) (tiles_eof rule 0 t) limit (room old)
        unfolding given_answer
        at_room =
            let m = more in
            let few = lt-leb (length (tiles_eof rule 0 t)) (min limit (room old)) (omega arith) in
            let all : unread (room old) (tiles_eof rule 0 t) ≡ at = ap (λ (k : ℕ). unread k (tiles_eof rule 0 t)) (let k : room old ≡ n = omega arith in k) ∙ start_here in
            rw (few, lt-leb limit (room old) h, all)

        pub at_room_tape : tape ≡ given_tape (tiles_eof rule 0 t) limit old
        at_room_tape = stopped_tape

    -- an item is due, and there is room for it
    module _ (d : n < min limit (room old)) where
      pub fits_entry : n < room tape
      fits_entry = omega (arith, length_tape)

      -- the text is at its end
      module _ (e : at ≡ length t) where
        nothing : drop at t ≡ []
        nothing = empty (drop at t) (simp length-drop (omega arith))
          where
            empty : (s : List ℕ) → length s ≡ 0 → s ≡ []
            empty [] h = refl
            empty (b ∷ s) h = absurd (omega arith)

        last : drop n (tiles_eof rule 0 t) ≡ eof at ∷ []
        unfolding tiles
        last = S.left ∙ rw (nothing, add-zero)

        count : length (tiles_eof rule 0 t) ≡ n + 1
        count = omega (arith, length_next n (tiles_eof rule 0 t) _ _ last)

        pub at_end_lem : answer 0 at (n + 1) 0 ≡ given_answer (length t) (tiles_eof rule 0 t) limit (room old)
        unfolding given_answer
        at_end_lem =
            let g = S.given in
            let r = S.roomy in
            let fit = le-leb (n + 1) (min limit (room old)) (omega arith) in
            rw (count, fit, e)

        pub at_end_tape : over_at (n * entry_size) tape (entry 0 at 0) ≡ given_tape (tiles_eof rule 0 t) limit old
        unfolding given_tape
        at_end_tape =
            let g = S.given in
            let r = S.roomy in
            let k = count in
            let whole = take_all (min limit (room old)) (tiles_eof rule 0 t) (omega arith) in
            let split = rw last at (take-append-drop n (tiles_eof rule 0 t)) in
            rw (whole, S.written)
            (put_next old (take n (tiles_eof rule 0 t)) (eof at) n (length-take n (tiles_eof rule 0 t) ∙ omega arith) ∙ rw split)

      -- an item stands there
      module _ (h : at < length t) where
        left_over : 0 < length (drop at t)
        left_over = simp length-drop (omega arith)

        pub size_pos : 0 < (rule (drop at t)).size
        size_pos = some (drop at t) left_over

        pub size_le : at + (rule (drop at t)).size ≤ length t
        size_le =
            let l = bounded (drop at t) in
            let k = length-drop at t in
            omega arith

        then : drop n (tiles_eof rule 0 t) ≡ placed at (rule (drop at t)) ∷ tiles_eof rule (at + (rule (drop at t)).size) (drop (at + (rule (drop at t)).size) t)
        then = S.left ∙ tiles_step_eof rule at (drop at t) left_over size_pos (bounded (drop at t)) ∙ rw drop-drop

        pub next : State t old limit (over_at (n * entry_size) tape (entry (rule (drop at t)).code at (rule (drop at t)).size)) (at + (rule (drop at t)).size) (n + 1)
        next =
            let g = S.given in
            let r = S.roomy in
            let m = more in
            record {
              within = size_le;
              given = omega arith;
              roomy = omega arith;
              left = rw add-one (drop_next n (tiles_eof rule 0 t) _ _ then);
              written =
                  rw (S.written, add-one, take_next n (tiles_eof rule 0 t) _ _ then)
                  (put_next old (take n (tiles_eof rule 0 t)) (placed at (rule (drop at t))) n (length-take n (tiles_eof rule 0 t) ∙ omega arith));
            }
