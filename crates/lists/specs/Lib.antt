-- What the contracts of lists cite.
pub mod Colours
