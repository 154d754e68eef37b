-- Laws of reading.
pub mod Turn
pub mod Reading
pub mod Entries
pub mod Laws
pub mod Examples
pub mod Unique
