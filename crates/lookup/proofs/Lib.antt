-- Laws of classes.
pub mod Classes
pub mod Unique
