-- Document 01, "Numbers given back", for item reading: the table's rows 2 to 5 and success, and what each leaves on the tape.
-- Assumes nothing: these are definitions.
use Rattle.std.specs.Prelude.{ℕ, min, List, ltb, leb, length, take, get_or, Result, Ok, Err}
use Rattle.base.specs.Text.{pick}
use Rattle.base.specs.Item.{Item}
use Rattle.codes.specs.Refusals.{done, too_long, token_limit, item_tape_full}
pub use Rattle.codes.specs.Refusals.{longest}
use Rattle.codes.specs.RefusalNumbers.{number_of}
use Rattle.codes.specs.declared.refusal.Refused.{Refused}
use Rattle.utf8.specs.Answers.{checked_of}
use Rattle.tape.specs.Entry.{room, entries, over}
use Rattle.tiles.specs.Tiles.{eof}
use Rattle.rules.specs.Items.{items}
use Rattle.reader.specs.declared.Answer.{Answer}

-- "Each answer has a number (0 done), a place in bytes, an item count and an event count"
abbrev pub answer : (number place items events : ℕ) → Answer
answer number place items events = record { number = number; place = place; items = items; events = events }

-- the first unread byte after n items: where item number n, counted from 0, starts
abbrev pub unread : ℕ → List Item → ℕ
unread n xs = (get_or xs n (eof 0)).start

-- the answer where the items of a text of `size` bytes are xs, Eof included
-- 0: "On 0 the place is the text's length, the item count includes Eof"
-- 4: "N items given, no Eof yet, N is the token limit": N items stay; place: first unread byte
-- 5: "an item is due, item tape full (4 tested before 5)": those items stay; place: first unread byte
unfoldable pub given_answer : (size : ℕ) → List Item → (limit space : ℕ) → Answer
given_answer size xs limit space =
    pick (leb (length xs) (min limit space)) (answer done size (length xs) 0)
    (pick (leb limit space) (answer token_limit (unread limit xs) limit 0)
    (answer item_tape_full (unread space xs) space 0))

-- the tape then: the entries of as many items as the limit and the room let. "Tape bytes past the last entry are unchanged"
unfoldable pub given_tape : List Item → (limit : ℕ) → List ℕ → List ℕ
given_tape xs limit old = over old (entries (take (min limit (room old)) xs))

-- 3: "text not UTF-8", with its place; tapes unchanged
abbrev pub checked_answer : Result (Unit {0}) Refused → Answer → Answer
checked_answer (Ok u) a = a
checked_answer (Err r) a = answer (number_of r.refusal) r.place 0 0

abbrev pub checked_tape : Result (Unit {0}) Refused → (old new : List ℕ) → List ℕ
checked_tape (Ok u) old new = new
checked_tape (Err r) old new = old

-- 2: "text over 16,777,216 bytes"; tapes unchanged. "Checks run in the order shown"
unfoldable pub answer_of : List ℕ → (limit : ℕ) → (tape : List ℕ) → Answer
answer_of t limit tape =
    pick (ltb longest (length t)) (answer too_long 0 0 0)
    (checked_answer (checked_of t) (given_answer (length t) (items t) limit (room tape)))

unfoldable pub tape_of : List ℕ → (limit : ℕ) → (tape : List ℕ) → List ℕ
tape_of t limit tape = pick (ltb longest (length t)) tape (checked_tape (checked_of t) tape (given_tape (items t) limit tape))
