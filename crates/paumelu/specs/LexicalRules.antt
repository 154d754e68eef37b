-- Document 01, "Lexical rules". Assumes nothing: these are definitions.

-- one constructor for each rule, in the document's order: Whitespace, Comment, punctuators, Spread, Name, Int, Float, StringValue
pub use Rattle.rules.specs.Rules.{Rule}
-- what they are made of
pub use Rattle.rules.specs.Rules.{Blanks, Punctuator, IntegerPart, FractionalPart, ExponentPart, FloatValue}
pub use Rattle.rules.specs.Classes.{digit, letter, name_start, name_continue, line_end, after_number}
-- "Block string: opens at `"""`, closes at the first later `"""` that shares no quote with a `\"""`"
pub use Rattle.rules.specs.Block.{Block}
-- "Quoted string", with its escapes
pub use Rattle.rules.specs.Quoted.{Quoted, Piece}
pub use Rattle.rules.specs.StringValue.{StringValue}
-- the items of a text: at each boundary the token whose rule matches, else the error; Eof last
pub use Rattle.rules.specs.Items.{items, item_at}
