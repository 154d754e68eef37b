-- Laws of the view, and of readings.
pub mod Writing
pub mod View
pub mod Items
pub mod Moves
pub mod Codes
