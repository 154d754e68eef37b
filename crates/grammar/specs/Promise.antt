-- What reading the tokens of a text promises, in terms of the reader's definition. Assumes nothing: these are definitions.
use Rattle.std.specs.Prelude.{ℕ, ◌<◌, ◌≤◌, ◌≡◌, false, List, [], length, Option, Some, None, Result, Ok, Err}
use Rattle.base.specs.Item.{Item}
use Rattle.codes.specs.RefusalNumbers.{number_of}
use Rattle.codes.specs.declared.refusal.Refused.{Refused}
use Rattle.rules.specs.Items.{items}
use Rattle.syntax.specs.Machine.{Read, refused, accepted, emits, run}
use Rattle.parser.specs.declared.token.Reached.{Reached}
use Rattle.parser.specs.declared.events.Events.{Events}
use Rattle.parser.specs.View.{rest}
use Rattle.parser.specs.Events.{Puts, Wrote}
use Rattle.grammar.specs.Answers.{first_error}

-- a reading of the text t up to where reading has come: its events are written, and Eof is due there; or it was refused
pub data Begins (read : Read) (t : List ℕ) (old new : Events) : Result Reached Refused → Type 0 where
  reads : {to : Reached} (es : List Item) → Wrote old new es → to.next < length (items t) → read ≡ emits es (run false [] to.end (rest t to.next))
      → Begins read t old new (Ok to)
  refuses : {by : Refused} → new.tape.ghost_name ≡ old.tape.ghost_name → length new.tape.now ≡ length old.tape.now → read ≡ refused (number_of by.refusal) by.place
      → Begins read t old new (Err by)

-- a whole reading: accepted, and its events are written and counted; or refused
pub data Parses (read : Read) (tape tape' : List ℕ) : Result ℕ Refused → Type 0 where
  accepts : {out : ℕ} (es : List Item) → Puts tape 0 tape' out es → read ≡ accepted es → Parses read tape tape' (Ok out)
  refuses : {by : Refused} → length tape' ≡ length tape → read ≡ refused (number_of by.refusal) by.place → Parses read tape tape' (Err by)

-- the number of the first error item, if one is an error
abbrev pub IsFirst : List Item → Option ℕ → Type 0
IsFirst xs (Some i) = (i ≡ first_error xs) × (i < length xs)
IsFirst xs None = length xs ≤ first_error xs
