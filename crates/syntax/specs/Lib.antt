-- The grammar of values, types and selection sets.
-- what a reader must believe: tokens, trees, and how a refusal is found
pub mod Token
pub mod Words
pub mod Grammar
pub mod Types
pub mod Selections
pub mod Machine
pub mod TypeReading
pub mod Written
