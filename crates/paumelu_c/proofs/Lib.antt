-- What C calls has one result.
pub mod Unique
