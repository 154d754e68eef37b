-- Tokens on an item tape, events on an event tape, and what the grammar's functions promise.
pub mod Kinds
pub mod View
pub mod Events
pub mod Promise
