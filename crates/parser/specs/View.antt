-- An item tape as tokens. Assumes nothing: these are definitions.
use Rattle.std.specs.Prelude.{ℕ, ◌+◌, ◌≤◌, ◌<◌, ◌≡◌, List, ◌∷◌, length, drop, get_or}
use Rattle.codes.specs.ItemCodes as codes
use Rattle.codes.specs.Errors as errors
use Rattle.codes.specs.Refusals.{longest}
use Rattle.tape.specs.Entry.{room, entry_of}
use Rattle.tiles.specs.Tiles.{eof}
use Rattle.rules.specs.Items.{items}
use Rattle.syntax.specs.Token.{Token, token}
use Rattle.syntax.specs.Words.{significant}
use Rattle.syntax.specs.Words as words
use Rattle.base.specs.Item.{item}
use Rattle.parser.specs.Kinds.{number_of}
use Rattle.parser.specs.declared.token.Peeked.{Peeked}
use Rattle.parser.specs.declared.token.Reached.{Reached}

-- the tape holds the items of the text t, which is not too long
pub record Holds (t tape : List ℕ) : Type 0 where
  pub short : length t ≤ longest
  pub roomy : length (items t) ≤ room tape
  pub entries : (i : ℕ) → i < length (items t) → entry_of tape i ≡ get_or (items t) i (eof 0)

-- the kind of the token that an item of t is
abbrev pub kind_of : List ℕ → (code start size : ℕ) → ℕ
kind_of t code start size = (words.token_of t (item code start size)).kind

-- the tokens of t from item number `at` on
unfoldable pub rest : List ℕ → (at : ℕ) → List Token
rest t at = significant t (drop at (items t))

-- an item code of document 01: a token's, Eof's included, or "64 + error"
pub data IsCode (c : ℕ) : Type 0 where
  of_token : c ≤ codes.float → IsCode c
  of_error : codes.error errors.unexpected_character ≤ c → c ≤ codes.error errors.bad_braced_escape → IsCode c

abbrev pub token_of : Peeked → Token
token_of r = token (number_of r.kind) r.start r.size

-- r is the first token of t from item number `at` on: the others begin at item number `next`
pub record Front (t : List ℕ) (at : ℕ) (r : Peeked) : Type 0 where
  pub first : rest t at ≡ token_of r ∷ rest t r.next
  pub ahead : at < r.next
  -- unless it is Eof, an item follows
  pub inside : (number_of r.kind ≡ codes.eof → ⊥) → r.next < length (items t)
  pub fits : r.start + r.size ≤ length t

-- r is the first token of t from some item on
pub record Seen (t : List ℕ) (r : Peeked) : Type 0 where
  pub at : ℕ
  pub front : Front t at r

-- how far reading has come with a token
abbrev pub behind : Peeked → Reached
behind r = record { next = r.next; end = r.start + r.size }
