-- What the contracts of printing cite.
pub mod Characters
pub mod Entries
