-- Laws of the machine of numbers.
pub mod Machine
pub mod Turn
pub mod Unique
