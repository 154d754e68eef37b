-- Laws of types.
pub mod Steps
pub mod Walks
