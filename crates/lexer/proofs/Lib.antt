-- Laws of the scanners.
pub mod Blanks
pub mod Fronts
pub mod Own
pub mod Unique
