-- What the contracts of selections cite.
pub mod Follows
