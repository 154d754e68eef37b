-- What a function of the grammar promises, in terms of the reader's definition. Assumes nothing: these are definitions.
use Rattle.std.specs.Prelude.{ℕ, ◌≤◌, ◌<◌, ◌≡◌, Bool, List, ◌++◌, length, Result, Ok, Err}
use Rattle.base.specs.Item.{Item}
use Rattle.codes.specs.RefusalNumbers.{number_of}
use Rattle.codes.specs.declared.refusal.Refused.{Refused}
use Rattle.rules.specs.Items.{items}
use Rattle.syntax.specs.Machine.{Sym, Read, refused, emits, run}
use Rattle.parser.specs.declared.token.Reached.{Reached}
use Rattle.parser.specs.declared.events.Events.{Events}
use Rattle.parser.specs.View.{rest}
use Rattle.parser.specs.Events.{Wrote}

-- reading of t has come to inside the items, and its last token lies inside the text
pub record Ready (t : List ℕ) (at : Reached) : Type 0 where
  pub inside : at.next < length (items t)
  pub fits : at.end ≤ length t

-- what the reader's definition reads of t from there, with K due
abbrev pub reads : (c : Bool) → List ℕ → List Sym → Reached → Read
reads c t K at = run c K at.end (rest t at.next)

-- what `due` asks was read, from one place to another, where `left` is still due, whatever K lies below. It may be that no token was needed
pub record Went (c : Bool) (t : List ℕ) (due left : List Sym) (old new : Events) (from to : Reached) : Type 0 where
  pub events : List Item
  pub wrote : Wrote old new events
  pub onward : from.next ≤ to.next
  pub ready : Ready t to
  pub same : (K : List Sym) → reads c t (due ++ K) from ≡ emits events (reads c t (left ++ K) to)

-- and at least one token was read
pub record Took (c : Bool) (t : List ℕ) (due left : List Sym) (old new : Events) (from to : Reached) : Type 0 where
  pub went : Went c t due left old new from to
  pub ahead : from.next < to.next

-- the reader's definition refuses what stands there where `due` is due, whatever lies below. The event tape keeps its length
pub record Stopped (c : Bool) (t : List ℕ) (due : List Sym) (old new : Events) (from : Reached) (by : Refused) : Type 0 where
  pub same : new.tape.ghost_name ≡ old.tape.ghost_name
  pub kept : length new.tape.now ≡ length old.tape.now
  pub refuses : (K : List Sym) → reads c t (due ++ K) from ≡ refused (number_of by.refusal) by.place

-- what a function answers: what was due was read, at least a token, and `left` is still due; or it was refused
pub data Outcome (c : Bool) (t : List ℕ) (due left : List Sym) (old new : Events) (from : Reached) : Result Reached Refused → Type 0 where
  took : {to : Reached} → Took c t due left old new from to → Outcome c t due left old new from (Ok to)
  stopped : {by : Refused} → Stopped c t due old new from by → Outcome c t due left old new from (Err by)

-- the same, where it may be that no token was needed
pub data Goes (c : Bool) (t : List ℕ) (due left : List Sym) (old new : Events) (from : Reached) : Result Reached Refused → Type 0 where
  went : {to : Reached} → Went c t due left old new from to → Goes c t due left old new from (Ok to)
  stopped : {by : Refused} → Stopped c t due old new from by → Goes c t due left old new from (Err by)

-- the events es were written, and then it goes on from there
pub record Begun (c : Bool) (t : List ℕ) (es : List Item) (due left : List Sym) (old new : Events) (at : Reached) (r : Result Reached Refused) : Type 0 where
  pub between : Events
  pub first : Wrote old between es
  pub on : Goes c t due left between new at r
