-- Laws of the entries.
pub mod Codes
pub mod Cases
pub mod Unique
