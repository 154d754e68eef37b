-- Reading what an entry names, then Eof; first to count, then to write. Assumes nothing.
use Prim.Native.Nat.{ℕ, suc, ◌+◌, ◌*◌, ◌^◌, ◌≤◌, ◌<◌}
use mathlib.Core.Path.{◌≡◌, refl, sym, ◌∙◌}
use mathlib.Core.Bool.{true, false}
use mathlib.Core.List.{List, [], ◌∷◌, ◌++◌, append-nil}
use native.Mathlib.Omega.{arith}
use borrow.Author.Tests.{ne_eqb, eq-eqb, le-leb, lt-leb, lt-ltb}
use lib.Dec.{leb}
use lib.ListN.{length, length-append}
use Rattle.base.specs.Item.{Item}
use Rattle.tape.specs.Entry.{room, entries, over}
use Rattle.tape.proofs.Over.{length_entries, length_over, put_next}
use Rattle.syntax.specs.Token.{Token}
use Rattle.syntax.specs.Machine.{stop, halt, step, Read, refused, accepted}
use Rattle.reader.specs.Answers.{answer}
use Rattle.std.specs.Prelude.{Result, Ok, Err, IsOk}
use Rattle.codes.specs.RefusalNumbers.{number_of}
use Rattle.codes.specs.declared.refusal.Refused.{Refused}
use Rattle.parser.specs.declared.token.Peeked.{Peeked}
use Rattle.parser.specs.declared.token.Reached.{Reached}
use Rattle.parser.specs.declared.events.Events.{Events}
use Rattle.parser.specs.View.{token_of, Front}
use Rattle.parser.specs.Events.{store, stores}
use Rattle.parser.proofs.Moves.{run_at}
use Rattle.grammar.specs.Answers.{read_answer, counted_events}
use Rattle.grammar.specs.Promise.{Begins, Parses, reads, accepts}
use Rattle.grammar.specs.Promise as promise

-- ---- Eof

at_eof : (l : ℕ) (t : Token) → t.kind ≡ 0 → step false l [] t ≡ halt []
unfolding step
at_eof l t e = rw (eq-eqb t.kind 0 e)

no_eof : (l : ℕ) (t : Token) → (t.kind ≡ 0 → ⊥) → step false l [] t ≡ stop 9
unfolding step
no_eof l t e = rw (ne_eqb t.kind 0 e)

module _ {read : Read} {t : List ℕ} {old new : Events} (z : old.count ≡ 0) where
  -- Eof follows
  pub ends : {to : Reached} → Begins read t old new (Ok to) → (p : Peeked) → Front t to.next p → (token_of p).kind ≡ 0 → Parses read old.tape.now new.tape.now (Ok new.count)
  ends {to} (reads es w i h) p F k = accepts es (rw z at w.puts) (h ∙ rw (run_at false t to p F [], at_eof to.end (token_of p) k, append-nil))

  -- something else does
  pub goes_on : {to : Reached} → Begins read t old new (Ok to) → (p : Peeked) → Front t to.next p → ((token_of p).kind ≡ 0 → ⊥) → (r : Refused)
      → number_of r.refusal ≡ 9 → r.place ≡ p.start → Parses read old.tape.now new.tape.now (Err r)
  goes_on {to} (reads es w i h) p F k r n q = promise.Parses.refuses w.puts.kept (h ∙ rw (run_at false t to p F [], no_eof to.end (token_of p) k, n, q))

  -- refused before that
  pub ended : {r : Refused} → Begins read t old new (Err r) → Parses read old.tape.now new.tape.now (Err r)
  ended (promise.Begins.refuses s k h) = promise.Parses.refuses k h

-- ---- counted, then written

-- events that have room, written one after the other, are the tape's entries
module _ (old : List ℕ) where
  stored : (xs ys : List Item) → (length xs + length ys) * 8 ≤ length old → stores (over old (entries xs)) (length xs) ys ≡ over old (entries (xs ++ ys))
  unfolding stores store
  stored xs [] h = rw (append-nil xs)
  stored xs (y ∷ ys) h =
      let k : length (entries xs) ≤ length old = rw (length_entries xs) (omega arith) in
      let l = length_over old (entries xs) k in
      let i : length xs < room (over old (entries xs)) = rw l (omega arith) in
      let n : length (xs ++ (y ∷ [])) ≡ suc (length xs) = rw (length-append xs (y ∷ [])) (omega arith) in
      let a : (xs ++ (y ∷ [])) ++ ys ≡ xs ++ (y ∷ ys) = mathlib.Core.List.append_assoc xs (y ∷ []) ys in
      rw (lt-ltb (length xs) (room (over old (entries xs))) i, put_next old xs y (length xs) refl, ← n, ← a)
      (stored (xs ++ (y ∷ [])) ys (rw n (omega arith)))

  pub stored_all : (es : List Item) → length es ≤ room old → stores old 0 es ≡ over old (entries es)
  unfolding entries
  stored_all es h = stored [] es (omega arith)

module _ (read : Read) (size count : ℕ) (old : List ℕ) (fits : (es : List Item) → read ≡ accepted es → length es < 2 ^ 28) where
  -- refused
  refused_so : {tape tape' : List ℕ} {r : Refused} → Parses read tape tape' (Err r)
      → (answer (number_of r.refusal) r.place count 0 ≡ read_answer size count (room old) read) × (old ≡ counted_events old read)
  unfolding read_answer counted_events
  refused_so (promise.Parses.refuses k h) = (rw h, rw h)

  -- accepted, with so many events
  counted_so : {tape tape' : List ℕ} {o : ℕ} → Parses read tape tape' (Ok o) → (es : List Item) × (read ≡ accepted es) × (o ≡ length es)
  counted_so (accepts es w h) =
      let f = fits es h in
      let g = w.counted (omega arith) in
      (es, h, omega arith)

  -- too many
  short_by : (es : List Item) (o : ℕ) → read ≡ accepted es → o ≡ length es → room old < o
      → (answer 10 0 count o ≡ read_answer size count (room old) read) × (old ≡ counted_events old read)
  unfolding read_answer counted_events
  short_by es o h n l =
      let f : leb (length es) (room old) ≡ false = lt-leb (length es) (room old) (omega arith) in
      (rw (h, f, n), rw (h, f))

  -- written
  written_by : {new : List ℕ} {q : ℕ} (es : List Item) → read ≡ accepted es → length es ≤ room old → Parses read old new (Ok q)
      → (answer 0 size count q ≡ read_answer size count (room old) read) × (new ≡ counted_events old read)
  unfolding read_answer counted_events
  written_by {q = q} es h l (accepts fs v g) =
      let y : fs ≡ es = same_events (sym g ∙ h) in
      let i : length es < 2 ^ 28 = fits es h in
      let v' = rw y at v in
      let m = v'.counted (omega arith) in
      let n : q ≡ length es = omega arith in
      let f : leb (length es) (room old) ≡ true = le-leb (length es) (room old) l in
      (rw (h, f, n), v'.written (omega arith) ∙ rw (h, f) (stored_all old es l))
    where
      same_events : {xs ys : List Item} → accepted xs ≡ accepted ys → xs ≡ ys
      same_events e = cc

  -- what was accepted is accepted again
  pub accepts_again : {a b e n : List ℕ} {o : ℕ} {r : Result ℕ Refused} → Parses read a b (Ok o) → Parses read e n r → IsOk r
  accepts_again (accepts es w h) (accepts fs v g) = refl
  accepts_again (accepts es w h) (promise.Parses.refuses k g) = absurd (different (sym h ∙ g))
    where
      different : {xs : List Item} {n p : ℕ} → accepted xs ≡ refused n p → ⊥
      different e = cc

  -- ---- the same, where an empty part of the tape was lent for counting, and e is that part as it came back
  pub lent_refused : {tape tape' : List ℕ} {r : Refused} (e : List ℕ) → length e ≡ 0 → Parses read tape tape' (Err r)
      → (answer (number_of r.refusal) r.place count 0 ≡ read_answer size count (room old) read) × (e ++ old ≡ counted_events old read)
  lent_refused [] z p = refused_so p
  lent_refused (x ∷ xs) z p = absurd (omega arith)

  pub lent_short : {tape tape' : List ℕ} {o : ℕ} (e : List ℕ) → length e ≡ 0 → Parses read tape tape' (Ok o) → room (e ++ old) < o
      → (answer 10 0 count o ≡ read_answer size count (room old) read) × (e ++ old ≡ counted_events old read)
  lent_short [] z p h = let x = counted_so p in short_by x.0 _ x.1 x.2 h
  lent_short (x ∷ xs) z p h = absurd (omega arith)

  pub lent_written : {tape tape' new : List ℕ} {o q : ℕ} (e : List ℕ) → length e ≡ 0 → Parses read tape tape' (Ok o) → (room (e ++ old) < o → ⊥) → Parses read (e ++ old) new (Ok q)
      → (answer 0 size count q ≡ read_answer size count (room old) read) × (new ≡ counted_events old read)
  lent_written [] z p h w = let x = counted_so p in written_by x.0 x.1 (let y = x.2 in omega (arith, h)) w
  lent_written (x ∷ xs) z p h w = absurd (omega arith)
