-- Strings.
pub mod String
