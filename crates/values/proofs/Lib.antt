-- Laws of values.
pub mod Steps
pub mod Loops
