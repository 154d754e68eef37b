-- What the contracts of the lexer cite.
pub mod Cursor
