-- What the entries answer.
pub mod Answers
pub mod Part
