-- Document 01, "Numbers given back". Assumes nothing: these are definitions.

-- "Each answer has a number (0 done), a place in bytes, an item count and an event count"
pub use Rattle.reader.specs.Answers.{answer}
-- the bounds of rows 1 and 2
pub use Rattle.codes.specs.Refusals.{longest, deepest}
-- rows 2 and 3, then 4, 5 and 0, of item reading; and the tape of each
pub use Rattle.reader.specs.Answers.{answer_of, tape_of, checked_answer, checked_tape, given_answer, given_tape}
-- row 3: "reading sequence after sequence from the start, the first byte where no well-formed one begins"
pub use Rattle.utf8.specs.Sequence.{well_formed}
-- rows 1 and 6 to 10, and 0, of the grammar's entries; and the tapes of each
pub use Rattle.grammar.specs.Answers.{grammar_answer, items_answer, read_answer, grammar_items, grammar_events, counted_events}
-- row 11
pub use Rattle.paumelu.specs.Interface.{interface_answer, interface_tape}
