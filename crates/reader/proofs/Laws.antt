-- Laws of item reading, of the definitions that its contracts cite: each number exactly when, what stays on the tape, an entry read back, the
-- parts that items cover, and the demand on line ends at the tape. Assumes nothing.
use Prim.Native.Nat.{ℕ, zero, suc, ◌+◌, ◌*◌, ◌≤◌, ◌<◌, min}
use mathlib.Core.Path.{◌≡◌, refl, sym, ap, ◌∙◌}
use mathlib.Core.Logic.{◌↔◌}
use mathlib.Core.Bool.{true}
use mathlib.Core.List.{List, [], ◌∷◌, ◌++◌, map}
use native.Mathlib.Omega.{arith}
use borrow.Author.Tests.{ltb-true, ltb-false, leb-true, leb-false, eqb-true, eqb-false, le-leb, lt-leb}
use lib.Dec.{eqb, ltb, leb}
use lib.ListN.{length, take, drop, get_or, length-append, length-take, length-map, get_or-map}
use lib.Seq.{take_all, take-length, get_or-take, get_or-append-add, drop_at}
use Rattle.base.specs.Item.{Item}
use Rattle.base.proofs.Tests.{by}
use Rattle.base.proofs.Lists.{length_next}
use Rattle.utf8.specs.Utf8.{Utf8, none}
use Rattle.utf8.specs.Sequence.{well_formed}
use Rattle.utf8.proofs.Outcomes.{not_whole}
use Rattle.utf8.proofs.Exact.{utf8_exact, whole_exact, after_utf8}
use Rattle.utf8.proofs.Split.{before_place}
use Rattle.tape.specs.Entry.{room, entries, over, entry_of}
use Rattle.tape.proofs.Over.{length_entries, length_over}
use Rattle.tape.proofs.Decode.{AllFitting, entries_back}
use Rattle.tiles.specs.Tiles.{tiles, eof}
use Rattle.tiles.specs.Cover.{Covers}
use Rattle.tiles.specs.Seam.{moved}
use Rattle.tiles.proofs.Cover.{covers}
use Rattle.tiles.proofs.Every.{Every, every_append, every}
use Rattle.rules.specs.Classes.{line_end}
use Rattle.rules.specs.Rules.{Blanks}
use Rattle.rules.specs.Items.{item_at, items}
use Rattle.rules.specs.Laws.{part, NoQuote, NoBlank}
use Rattle.rules.proofs.Bounds.{item_pos, item_le}
use Rattle.rules.proofs.Boundary.{item_at_boundary}
use Rattle.rules.proofs.Tiling.{Fits, fits_28}
use Rattle.rules.proofs.LineEnd.{line_end_lem, line_end_utf8}
use Rattle.reader.specs.declared.Answer.{Answer}
use Rattle.reader.specs.Answers.{answer, longest, unread, given_answer, given_tape, answer_of, tape_of}
use Rattle.reader.specs.Part.{part_of}
use Rattle.reader.proofs.Entries as checks

-- a text that is read: it is not too long, and it is UTF-8
pub record Readable (t : List ℕ) : Type 0 where
  pub short : length t ≤ longest
  pub utf8 : Utf8 t

-- the row of the table with this number
pub data Row (t : List ℕ) (limit : ℕ) (tape : List ℕ) : ℕ → Type 0 where
  done : Readable t → length (items t) ≤ min limit (room tape) → Row t limit tape 0
  too_long : longest < length t → Row t limit tape 2
  ill_formed : length t ≤ longest → (Utf8 t → ⊥) → Row t limit tape 3
  at_limit : Readable t → limit < length (items t) → limit ≤ room tape → Row t limit tape 4
  at_room : Readable t → room tape < length (items t) → room tape < limit → Row t limit tape 5

module _ (t : List ℕ) (limit : ℕ) (tape : List ℕ) where
  -- a text that is read
  reads : Readable t → (answer_of t limit tape ≡ given_answer (length t) (items t) limit (room tape)) × (tape_of t limit tape ≡ given_tape (items t) limit tape)
  reads h =
      let e = checks.read t limit tape _ _ h.short (sym ((whole_exact t).1 h.utf8)) refl refl in
      (sym e.0, sym e.1)

  -- the answer and the tape of each row
  pub row_0 : Readable t → length (items t) ≤ min limit (room tape)
      → (answer_of t limit tape ≡ answer 0 (length t) (length (items t)) 0) × (tape_of t limit tape ≡ over tape (entries (items t)))
  unfolding given_answer given_tape
  row_0 h l =
      ((reads h).0 ∙ rw (le-leb (length (items t)) (min limit (room tape)) l), (reads h).1 ∙ rw (take_all (min limit (room tape)) (items t) l))

  pub row_2 : longest < length t → (answer_of t limit tape ≡ answer 2 0 0 0) × (tape_of t limit tape ≡ tape)
  row_2 h = let e = checks.too_long t limit tape h in (sym e.0, sym e.1)

  pub row_3 : length t ≤ longest → (Utf8 t → ⊥) → (answer_of t limit tape ≡ answer 3 (well_formed t) 0 0) × (tape_of t limit tape ≡ tape)
  row_3 h n =
      let e = checks.not_utf8_lem t limit tape _ h (sym (not_whole t (well_formed t) refl (λ l. n ((utf8_exact t).1 l)))) in
      (sym e.0, sym e.1)

  pub row_4 : Readable t → limit < length (items t) → limit ≤ room tape
      → (answer_of t limit tape ≡ answer 4 (unread limit (items t)) limit 0) × (tape_of t limit tape ≡ over tape (entries (take limit (items t))))
  unfolding given_answer given_tape
  row_4 h l r =
      let m : min limit (room tape) ≡ limit = omega arith in
      ((reads h).0 ∙ rw (m, lt-leb (length (items t)) limit l, le-leb limit (room tape) r), (reads h).1 ∙ rw m)

  pub row_5 : Readable t → room tape < length (items t) → room tape < limit
      → (answer_of t limit tape ≡ answer 5 (unread (room tape) (items t)) (room tape) 0) × (tape_of t limit tape ≡ over tape (entries (take (room tape) (items t))))
  unfolding given_answer given_tape
  row_5 h l r =
      let m : min limit (room tape) ≡ room tape = omega arith in
      ((reads h).0 ∙ rw (m, lt-leb (length (items t)) (room tape) l, lt-leb limit (room tape) r), (reads h).1 ∙ rw m)

  -- the row has its number
  pub numbered : {n : ℕ} → Row t limit tape n → (answer_of t limit tape).number ≡ n
  numbered (done h l) = ap (λ (a : Answer). a.number) (row_0 h l).0
  numbered (too_long h) = ap (λ (a : Answer). a.number) (row_2 h).0
  numbered (ill_formed h n) = ap (λ (a : Answer). a.number) (row_3 h n).0
  numbered (at_limit h l r) = ap (λ (a : Answer). a.number) (row_4 h l r).0
  numbered (at_room h l r) = ap (λ (a : Answer). a.number) (row_5 h l r).0

  -- some row holds
  some_row : (n : ℕ) × Row t limit tape n
  some_row =
      by (ltb longest (length t)) (λ e. (2, too_long (ltb-true longest (length t) e))) (λ e.
      let h = ltb-false longest (length t) e in
      by (eqb (well_formed t) (length t)) (λ q. admitted (record { short = h; utf8 = (utf8_exact t).1 (eqb-true _ _ q) }))
      (λ q. (3, ill_formed h (λ u. eqb-false _ _ q ((utf8_exact t).0 u)))))
    where
      admitted : Readable t → (n : ℕ) × Row t limit tape n
      admitted h =
          by (leb (length (items t)) (min limit (room tape))) (λ e. (0, done h (leb-true _ _ e))) (λ e.
          let l = leb-false (length (items t)) (min limit (room tape)) e in
          by (leb limit (room tape)) (λ f. let r = leb-true limit (room tape) f in (4, at_limit h (omega arith) r))
          (λ f. let r = leb-false limit (room tape) f in (5, at_room h (omega arith) r)))

  -- the row of the number that is answered: item reading answers 0, 2, 3, 4 or 5 and no other number
  pub row : Row t limit tape (answer_of t limit tape).number
  row = rw (numbered some_row.1) some_row.1

-- "Exactly when": each number's row
pub record ExactlyWhen (t : List ℕ) (limit : ℕ) (tape : List ℕ) : Type 0 where
  pub n0 : ((answer_of t limit tape).number ≡ 0) ↔ (Readable t × (length (items t) ≤ min limit (room tape)))
  pub n2 : ((answer_of t limit tape).number ≡ 2) ↔ (longest < length t)
  pub n3 : ((answer_of t limit tape).number ≡ 3) ↔ ((length t ≤ longest) × (Utf8 t → ⊥))
  pub n4 : ((answer_of t limit tape).number ≡ 4) ↔ (Readable t × (limit < length (items t)) × (limit ≤ room tape))
  pub n5 : ((answer_of t limit tape).number ≡ 5) ↔ (Readable t × (room tape < length (items t)) × (room tape < limit))

pub exactly_when : (t : List ℕ) (limit : ℕ) (tape : List ℕ) → ExactlyWhen t limit tape
exactly_when t limit tape = record {
  n0 = (λ e. zero (rw e at (row t limit tape)), λ h. numbered t limit tape (done h.0 h.1));
  n2 = (λ e. two (rw e at (row t limit tape)), λ h. numbered t limit tape (too_long h));
  n3 = (λ e. three (rw e at (row t limit tape)), λ h. numbered t limit tape (ill_formed h.0 h.1));
  n4 = (λ e. four (rw e at (row t limit tape)), λ h. numbered t limit tape (at_limit h.0 h.1 h.2));
  n5 = (λ e. five (rw e at (row t limit tape)), λ h. numbered t limit tape (at_room h.0 h.1 h.2));
}
  where
    zero : Row t limit tape 0 → Readable t × (length (items t) ≤ min limit (room tape))
    zero (done h l) = (h, l)

    two : Row t limit tape 2 → longest < length t
    two (too_long h) = h

    three : Row t limit tape 3 → (length t ≤ longest) × (Utf8 t → ⊥)
    three (ill_formed h n) = (h, n)

    four : Row t limit tape 4 → Readable t × (limit < length (items t)) × (limit ≤ room tape)
    four (at_limit h l r) = (h, l, r)

    five : Row t limit tape 5 → Readable t × (room tape < length (items t)) × (room tape < limit)
    five (at_room h l r) = (h, l, r)

-- what a reading that is done has done, and of what
pub record Done (t : List ℕ) (limit : ℕ) (tape : List ℕ) : Type 0 where
  pub place : (answer_of t limit tape).place ≡ length t
  pub count : (answer_of t limit tape).items ≡ length (items t)
  pub events : (answer_of t limit tape).events ≡ 0
  pub written : tape_of t limit tape ≡ over tape (entries (items t))
  pub short : length t ≤ longest
  pub utf8 : Utf8 t
  pub admitted : length (items t) ≤ min limit (room tape)

module _ (t : List ℕ) (limit : ℕ) (tape : List ℕ) where
  -- "On 0 the place is the text's length, the item count includes Eof": all items stand on the tape
  pub done_all : (answer_of t limit tape).number ≡ 0 → Done t limit tape
  done_all e =
      let h = (exactly_when t limit tape).n0.0 e in
      let r = row_0 t limit tape h.0 h.1 in
      record {
        place = ap (λ (a : Answer). a.place) r.0;
        count = ap (λ (a : Answer). a.items) r.0;
        events = ap (λ (a : Answer). a.events) r.0;
        written = r.1;
        short = h.0.short;
        utf8 = h.0.utf8;
        admitted = h.1;
      }

  -- the other way round
  pub done_when : Utf8 t → length t ≤ longest → length (items t) ≤ min limit (room tape) → (answer_of t limit tape).number ≡ 0
  done_when u s l = numbered t limit tape (done (record { short = s; utf8 = u }) l)

-- what holds of every answer: as many items stay as it says, their entries on the tape from its start on, and no event
record Stay (t : List ℕ) (limit : ℕ) (tape : List ℕ) : Type 0 where
  roomy : (answer_of t limit tape).items ≤ min (length (items t)) (room tape)
  short : 0 < (answer_of t limit tape).items → length t ≤ longest
  written : tape_of t limit tape ≡ over tape (entries (take (answer_of t limit tape).items (items t)))
  events : (answer_of t limit tape).events ≡ 0

module _ (t : List ℕ) (limit : ℕ) (tape : List ℕ) where
  stay_by : {n : ℕ} → Row t limit tape n → Stay t limit tape
  unfolding entries
  stay_by (done h l) =
      let r = row_0 t limit tape h l in
      record { roomy = rw r.0 (omega arith); short = λ _. h.short; written = rw (r.0, take-length) r.1; events = rw r.0 }
  stay_by (too_long h) =
      let r = row_2 t limit tape h in
      record { roomy = rw r.0 (omega arith); short = rw r.0 (λ p. absurd (omega arith)); written = rw r.0 r.1; events = rw r.0 }
  stay_by (ill_formed h n) =
      let r = row_3 t limit tape h n in
      record { roomy = rw r.0 (omega arith); short = λ _. h; written = rw r.0 r.1; events = rw r.0 }
  stay_by (at_limit h l k) =
      let r = row_4 t limit tape h l k in
      record { roomy = rw r.0 (omega arith); short = λ _. h.short; written = rw r.0 r.1; events = rw r.0 }
  stay_by (at_room h l k) =
      let r = row_5 t limit tape h l k in
      record { roomy = rw r.0 (omega arith); short = λ _. h.short; written = rw r.0 r.1; events = rw r.0 }

  stay : Stay t limit tape
  stay = stay_by (row t limit tape)

  -- item reading has no events
  pub no_events : (answer_of t limit tape).events ≡ 0
  no_events = stay.events

  -- the entries of the items that stay
  stayed : List ℕ
  stayed = entries (take (answer_of t limit tape).items (items t))

  stayed_length : length stayed ≡ (answer_of t limit tape).items * 8
  unfolding stayed
  stayed_length =
      let r = stay.roomy in
      let n = (answer_of t limit tape).items in
      length_entries (take n (items t)) ∙ ap (λ (k : ℕ). k * 8) (length-take n (items t) ∙ omega arith)

  -- a tape keeps its length
  pub tape_length : length (tape_of t limit tape) ≡ length tape
  unfolding stayed
  tape_length = ap length stay.written ∙ length_over tape stayed (omega (arith, stayed_length, stay.roomy))

  -- "Tape bytes past the last entry are unchanged"
  pub tape_rest : let n = (answer_of t limit tape).items * 8 in drop n (tape_of t limit tape) ≡ drop n tape
  unfolding stayed
  tape_rest =
      let e = stayed_length in
      rw (← e, stay.written, drop_at stayed)

  -- refusals 2 and 3: "tapes unchanged"
  pub refused_keeps : ((answer_of t limit tape).number ≡ 2 → tape_of t limit tape ≡ tape) × ((answer_of t limit tape).number ≡ 3 → tape_of t limit tape ≡ tape)
  refused_keeps =
      let w = exactly_when t limit tape in
      (λ e. (row_2 t limit tape (w.n2.0 e)).1, λ e. let h = w.n3.0 e in (row_3 t limit tape h.0 h.1).1)

  -- refusals 4 and 5, "place: first unread byte": the items that stay cover the bytes before it
  pub unread_place : ((answer_of t limit tape).number ≡ 4 → Covers 0 (take limit (items t)) (answer_of t limit tape).place)
      × ((answer_of t limit tape).number ≡ 5 → Covers 0 (take (room tape) (items t)) (answer_of t limit tape).place)
  unread_place =
      let w = exactly_when t limit tape in
      let c = covers item_at item_pos item_le 0 t in (
        λ e. let h = w.n4.0 e in rw (row_4 t limit tape h.0 h.1 h.2).0 (front 0 _ limit (tiles item_at 0 0 t) c h.1),
        λ e. let h = w.n5.0 e in rw (row_5 t limit tape h.0 h.1 h.2).0 (front 0 _ (room tape) (tiles item_at 0 0 t) c h.1),
      )
    where
      front : (a e n : ℕ) (xs : List Item) → Covers a xs e → n < length (xs ++ (eof e ∷ []))
          → Covers a (take n (xs ++ (eof e ∷ []))) (unread n (xs ++ (eof e ∷ [])))
      front a e zero [] c h = c
      front a e zero (x ∷ xs) c h = sym c.0
      front a e (suc n) [] c h = absurd (omega arith)
      front a e (suc n) (x ∷ xs) c h = (c.0, c.1, front (a + x.size) e n xs c.2 (omega arith))

  -- whatever the answer, each entry that stays, read back, is the item of its number; d is any item
  pub entry_back : (d : Item) (i : ℕ) → i < (answer_of t limit tape).items → entry_of (tape_of t limit tape) i ≡ get_or (items t) i d
  unfolding stayed
  entry_back d i h =
      let n = (answer_of t limit tape).items in
      let f = stay.short (omega arith) in
      let l : i < length (take n (items t)) = rw length-take (omega (arith, stay.roomy)) in
      rw stay.written
      (entries_back (take n (items t)) (drop (length stayed) tape) d i (fitting n (items t) (fits_28 t f)) l ∙ get_or-take n (items t) i d h)
    where
      fitting : (n : ℕ) (xs : List Item) → Every Fits xs → AllFitting (take n xs)
      fitting zero xs f = tt
      fitting (suc n) [] f = tt
      fitting (suc n) (x ∷ xs) f = (record { code_fits = f.0.2; start_fits = f.0.0; size_fits = f.0.1 }, fitting n xs f.1)

  -- "an entry read back gives the item": of each item, where the reading is done
  pub read_back : (answer_of t limit tape).number ≡ 0 → (i : ℕ) → i < length (items t) → entry_of (tape_of t limit tape) i ≡ get_or (items t) i (eof 0)
  read_back e i h = entry_back (eof 0) i (omega (arith, (done_all t limit tape e).count))

-- the part of a text that a span covers is the item's, and is UTF-8
abbrev pub WholePart : List ℕ → Item → Type 0
WholePart t x = (part_of t x.start x.size ≡ part t x) × Utf8 (part_of t x.start x.size)

-- "the part that it covers is itself UTF-8": of each item, Eof included, what is handed back is the part that it covers
pub part_utf8 : (t : List ℕ) → Utf8 t → Every (WholePart t) (items t)
unfolding part_of
part_utf8 t u =
    every_append (WholePart t) (tiles item_at 0 0 t) _
    (every item_at item_pos Utf8 item_at_boundary t (WholePart t) (λ at b s e v.
    let n = (item_at (b ∷ s)).size in
    let k = length_next at t b s e in
    let l = item_le (b ∷ s) in
    rw (le-leb (at + n) (length t) (omega arith), e) (refl, before_place n v (item_at_boundary (b ∷ s) v))) u)
    (rw (le-leb (0 + length t + 0) (length t) (omega arith)) (refl, none), tt)

-- demand 3 at the tape. The premises are those of `line_end_lem`: p is a UTF-8 text without a double quote, LF or CR, and whitespace; r is a rest
-- that is empty or starts with no whitespace. Where p and r after it are read to the end, so is r alone, and "the tape's entries from there on
-- are those of the rest, each start moved"
pub line_end_read : (a : List ℕ) (x : ℕ) (w r : List ℕ) → Utf8 a → NoQuote a → line_end x ≡ true → Blanks w → NoBlank r
    → (limit : ℕ) (tape : List ℕ)
    → let p = a ++ (x ∷ w) in
    let m = length (tiles item_at 0 0 p) in
    (answer_of (p ++ r) limit tape).number ≡ 0
    → ((answer_of r limit tape).number ≡ 0)
    × ((i : ℕ) → i < length (items r) → entry_of (tape_of (p ++ r) limit tape) (m + i) ≡ moved (length p) (entry_of (tape_of r limit tape) i))
line_end_read a x w r u h line white rest limit tape e =
    let p = a ++ (x ∷ w) in
    let xs = tiles item_at 0 0 p in
    let m = length xs in
    let n = length p in
    let d = done_all (p ++ r) limit tape e in
    let split : items (p ++ r) ≡ xs ++ map (moved n) (items r) = line_end_lem a x w r u h line white rest in
    let count : length (items (p ++ r)) ≡ m + length (items r) = ap length split ∙ length-append xs _ ∙ ap (λ (k : ℕ). m + k) (length-map (items r) (moved n)) in
    let v = after_utf8 r (line_end_utf8 x w u line white) d.utf8 in
    let alone : (answer_of r limit tape).number ≡ 0 = done_when r limit tape v (omega (arith, length-append p r, d.short)) (omega (arith, d.admitted)) in
    let there : (i : ℕ) → get_or (items (p ++ r)) (m + i) (moved n (eof 0)) ≡ moved n (get_or (items r) i (eof 0))
    = λ i. rw (split, get_or-append-add) (get_or-map (moved n) (items r) i (eof 0)) in (
      alone,
      λ i l. entry_back (p ++ r) limit tape (moved n (eof 0)) (m + i) (omega (arith, d.count)) ∙ there i ∙ ap (moved n) (sym (read_back r limit tape alone i l)),
    )
