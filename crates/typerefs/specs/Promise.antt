-- What reading a type promises, in terms of the reader's definition. Assumes nothing: these are definitions.
use Rattle.std.specs.Prelude.{ℕ, ◌<◌, ◌≡◌, List, length, Result, Ok, Err}
use Rattle.base.specs.Item.{Item}
use Rattle.codes.specs.RefusalNumbers.{number_of}
use Rattle.codes.specs.declared.refusal.Refused.{Refused}
use Rattle.rules.specs.Items.{items}
use Rattle.syntax.specs.TypeReading.{typed, untyped, type_at}
use Rattle.parser.specs.declared.token.Reached.{Reached}
use Rattle.parser.specs.declared.events.Events.{Events}
use Rattle.parser.specs.View.{rest}
use Rattle.parser.specs.Events.{Wrote}

-- from item number `at` on, with so much depth left: a type was read, and its events written; or it was refused
pub data TypeOutcome (t : List ℕ) (depth at : ℕ) (old new : Events) : Result Reached Refused → Type 0 where
  given : {to : Reached} (es : List Item) → type_at depth (rest t at) ≡ typed es to.end (rest t to.next) → Wrote old new es → to.next < length (items t)
      → TypeOutcome t depth at old new (Ok to)
  withheld : {by : Refused} → new.tape.ghost_name ≡ old.tape.ghost_name → length new.tape.now ≡ length old.tape.now
      → type_at depth (rest t at) ≡ untyped (number_of by.refusal) by.place → TypeOutcome t depth at old new (Err by)
