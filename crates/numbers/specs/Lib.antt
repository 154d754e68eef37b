-- Numbers.
pub mod Number
