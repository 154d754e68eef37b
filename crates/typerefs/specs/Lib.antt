-- What the contracts of typerefs cite.
pub mod Promise
pub mod Walk
