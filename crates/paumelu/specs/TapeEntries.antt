-- Document 01, "Tape entries". Assumes nothing: these are definitions.

-- "fields packed most significant first: 8 bits code, 28 bits start, 28 bits length"
pub use Rattle.tape.specs.Entry.{entry_size, packed, bytes8, entry, entries}
-- "A tape's room is its byte length divided by 8, remainder unused"; "Tape bytes past the last entry are unchanged"
pub use Rattle.tape.specs.Entry.{room, over}
-- "Item codes"
pub use Rattle.codes.specs.ItemCodes
-- "Event codes: a node opens with n .., closes with 64 + n .., and a token is 128 + its item code". "Nodes"
pub use Rattle.codes.specs.EventCodes
pub use Rattle.syntax.specs.Token.{opens, closes, token_event}
-- "Ignored items (codes 1 to 3) and Eof give no event"
pub use Rattle.syntax.specs.Words.{ignored, tokens}
