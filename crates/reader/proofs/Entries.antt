-- The table's rows before reading begins: a text that is too long, one that is not UTF-8, and any other. Assumes nothing.
use mathlib.Core.Path.{◌≡◌, sym}
use mathlib.Core.List.{List}
use Prim.Native.Nat.{ℕ, ◌≤◌, ◌<◌}
use borrow.Author.Tests.{lt-ltb, le-ltb}
use lib.ListN.{length}
use Rattle.std.specs.Prelude.{Ok, Err}
use Rattle.codes.specs.RefusalNumbers.{number_of}
use Rattle.codes.specs.declared.refusal.Refused.{Refused}
use Rattle.utf8.specs.Answers.{checked_of}
use Rattle.tape.specs.Entry.{room}
use Rattle.rules.specs.Items.{items}
use Rattle.reader.specs.declared.Answer.{Answer}
use Rattle.reader.specs.Answers.{answer, longest, given_answer, given_tape, answer_of, tape_of}

module _ (t : List ℕ) (limit : ℕ) (tape : List ℕ) where
  -- 2
  pub too_long : longest < length t → (answer 2 0 0 0 ≡ answer_of t limit tape) × (tape ≡ tape_of t limit tape)
  unfolding answer_of tape_of
  too_long h = (rw (lt-ltb longest (length t) h), rw (lt-ltb longest (length t) h))

  -- 3
  pub not_utf8_lem : (r : Refused) → length t ≤ longest → Err r ≡ checked_of t
      → (answer (number_of r.refusal) r.place 0 0 ≡ answer_of t limit tape) × (tape ≡ tape_of t limit tape)
  unfolding answer_of tape_of
  not_utf8_lem r h e =
      let k : checked_of t ≡ Err r = sym e in
      (rw (le-ltb longest (length t) h, k), rw (le-ltb longest (length t) h, k))

  -- 4, 5 and 0
  pub read : (a : Answer) (new : List ℕ) → length t ≤ longest → Ok tt ≡ checked_of t
      → a ≡ given_answer (length t) (items t) limit (room tape) → new ≡ given_tape (items t) limit tape
      → (a ≡ answer_of t limit tape) × (new ≡ tape_of t limit tape)
  unfolding answer_of tape_of
  read a new h e x y =
      let k : checked_of t ≡ Ok tt = sym e in
      (rw (le-ltb longest (length t) h, k) x, rw (le-ltb longest (length t) h, k) y)
