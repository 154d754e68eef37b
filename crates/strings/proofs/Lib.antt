-- Laws of the machine of strings.
pub mod Hex
pub mod Quoted
pub mod Plain
pub mod Block
pub mod Simulation
pub mod Items
pub mod Unique
