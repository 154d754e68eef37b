-- What the grammar's entries answer.
pub mod Answers
pub mod Trees
pub mod Promise
