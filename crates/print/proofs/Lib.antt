-- Laws of what printing tells.
pub mod Decoded
pub mod Errors
pub mod Unique
