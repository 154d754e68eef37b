-- Document 01, "Numbers given back", for the grammar's entries: the table's rows 1 and 6 to 10 and success, and what each leaves on the tapes.
-- Assumes nothing: these are definitions.
use Rattle.std.specs.Prelude.{ℕ, suc, List, [], ◌∷◌, Bool, ltb, leb, eqb, length}
use Rattle.base.specs.Text.{pick}
use Rattle.base.specs.Item.{Item}
use Rattle.codes.specs.Refusals.{done, depth_limit, error_item, event_tape_short}
use Rattle.codes.specs.ItemCodes as codes
pub use Rattle.codes.specs.Refusals.{deepest}
use Rattle.tape.specs.Entry.{room, entries, over}
use Rattle.rules.specs.Items.{items as items_of}
use Rattle.reader.specs.declared.Answer.{Answer}
use Rattle.reader.specs.Answers.{answer, unread, answer_of, tape_of}
use Rattle.syntax.specs.Token.{Token}
use Rattle.syntax.specs.Words.{tokens}
use Rattle.syntax.specs.Machine.{Read, refused, accepted, read_value, read_constant, read_selection_set}
use Rattle.syntax.specs.TypeReading.{read_type}
use Rattle.grammar.specs.declared.Entry.{Entry}
use Rattle.grammar.specs.declared.Entry.TheVariants.{Value, Constant, Ty, SelectionSet}

-- "read a value, a constant value, a type or a selection set, each filling the whole text"
unfoldable pub read_of : Entry → (depth : ℕ) → List Token → Read
read_of Value d ts = read_value d ts
read_of Constant d ts = read_constant d ts
read_of Ty d ts = read_type d ts
read_of SelectionSet d ts = read_selection_set d ts

-- "64 + error"
unfoldable pub is_error : Item → Bool
is_error x = leb codes.errors x.code

-- the number of the first error item, counted from 0; how many items there are, if none is an error
unfoldable pub first_error : List Item → ℕ
first_error [] = 0
first_error (x ∷ xs) = pick (is_error x) 0 (suc (first_error xs))

-- 7, 8, 9: the reader's definition gives the number and the place; all items stay
-- 10: "grammar accepts, event tape too short": the events needed are counted
-- 0: "the place is the text's length, the item count includes Eof, and a grammar entry's event count is the events written"
unfoldable pub read_answer : (size count space : ℕ) → Read → Answer
read_answer size count space (refused number place) = answer number place count 0
read_answer size count space (accepted es) = pick (leb (length es) space) (answer done size count (length es)) (answer event_tape_short 0 count (length es))

-- 6: "grammar entry, an error item exists": place: start of the first; all items stay
unfoldable pub items_answer : List Item → Answer → Answer
items_answer xs a = pick (ltb (first_error xs) (length xs)) (answer error_item (unread (first_error xs) xs) (length xs) 0) a

-- 1: "grammar entry, depth limit above 500". "Checks run in the order shown; the grammar entries read all items first": where reading items
-- refuses, that is the answer
unfoldable pub grammar_answer : Entry → List ℕ → (limit depth : ℕ) → (items events : List ℕ) → Answer
grammar_answer e t limit depth items events =
    pick (ltb deepest depth) (answer depth_limit 0 0 0)
    (pick (eqb (answer_of t limit items).number done)
    (items_answer (items_of t) (read_answer (length t) (length (items_of t)) (room events) (read_of e depth (tokens t))))
    (answer_of t limit items))

-- the item tape: unchanged at 1, else as reading items leaves it
unfoldable pub grammar_items : List ℕ → (limit depth : ℕ) → (items : List ℕ) → List ℕ
grammar_items t limit depth items = pick (ltb deepest depth) items (tape_of t limit items)

-- the event tape after a reading: its events, where they have room; "Tape bytes past the last entry are unchanged"
unfoldable pub counted_events : List ℕ → Read → List ℕ
counted_events old (refused number place) = old
counted_events old (accepted es) = pick (leb (length es) (room old)) (over old (entries es)) old

-- the event tape: on 0 the events are on it; "Every refusal leaves the event tape unchanged"
unfoldable pub grammar_events : Entry → List ℕ → (limit depth : ℕ) → (items events : List ℕ) → List ℕ
grammar_events e t limit depth items events =
    pick (eqb (grammar_answer e t limit depth items events).number done) (counted_events events (read_of e depth (tokens t))) events
