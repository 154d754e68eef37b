-- Laws of selections.
pub mod ArgumentSteps
pub mod DirectiveSteps
pub mod Sets
pub mod Fields
pub mod Fragments
