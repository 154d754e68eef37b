-- Laws of the grammar's entries.
pub mod Errors
pub mod Fits
pub mod Readings
pub mod Rows
pub mod Starts
pub mod Laws
pub mod Exactly
pub mod Unique
