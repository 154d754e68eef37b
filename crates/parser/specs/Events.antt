-- Events written one after the other, as far as there is room. Assumes nothing: these are definitions.
use Rattle.std.specs.Prelude.{ℕ, suc, ◌+◌, ◌*◌, ◌^◌, ◌≤◌, ◌≡◌, List, [], ◌∷◌, ltb, length}
use Rattle.base.specs.Text.{pick}
use Rattle.base.specs.Item.{Item}
use Rattle.tape.specs.Entry.{entry_size, room, entry, over_at}
use Rattle.parser.specs.declared.events.Events.{Events}

-- an event as entry number i, if there is room
unfoldable pub store : List ℕ → ℕ → Item → List ℕ
store tape i x = pick (ltb i (room tape)) (over_at (i * entry_size) tape (entry x.code x.start x.size)) tape

-- events from entry number i on
unfoldable pub stores : List ℕ → ℕ → List Item → List ℕ
stores tape i [] = tape
stores tape i (x ∷ xs) = stores (store tape i x) (suc i) xs

-- no text has so many events: the count stays there
abbrev pub most : ℕ
most = 2 ^ 32

-- the events es were written from entry number `out` on, and `next` is the number of the entry after them
pub record Puts (tape : List ℕ) (out : ℕ) (tape' : List ℕ) (next : ℕ) (es : List Item) : Type 0 where
  pub kept : length tape' ≡ length tape
  pub counted : out + length es ≤ most → next ≡ out + length es
  pub written : out + length es ≤ most → tape' ≡ stores tape out es

-- from old to new the events es were written, to the same tape
pub record Wrote (old new : Events) (es : List Item) : Type 0 where
  pub same : new.tape.ghost_name ≡ old.tape.ghost_name
  pub puts : Puts old.tape.now old.count new.tape.now new.count es
