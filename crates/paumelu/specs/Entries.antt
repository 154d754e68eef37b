-- Document 01, "The part of the crate we take", its entries. Assumes nothing: these are definitions.

-- "read items of a text": the answer and the tape
pub use Rattle.reader.specs.Answers.{answer_of, tape_of}
-- "read a value, a constant value, a type or a selection set, each filling the whole text": the answer, the item tape and the event tape
pub use Rattle.grammar.specs.declared.Entry.{Entry}
pub use Rattle.grammar.specs.Answers.{grammar_answer, grammar_items, grammar_events}
-- "hand back the part of the text that a span covers"
pub use Rattle.reader.specs.Part.{part_of}
-- "item reading is also offered through a C interface on numbers and byte slices"
pub use Rattle.paumelu.specs.Interface.{interface_answer, interface_tape}
-- "RFC 3629 decides UTF-8": its section 4, by bytes, and its section 3, by numbers of characters
pub use Rattle.utf8.specs.Utf8.{Utf8}
pub use Rattle.utf8.specs.Encode.{scalar, encode, encoded}
