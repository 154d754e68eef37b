-- Laws of the grammar.
mod Cases
pub mod Steps
pub mod ValueComplete
pub mod Loosen
pub mod Forms
pub mod Back
pub mod BackSets
pub mod Sound
pub mod ValueSound
pub mod SetSound
pub mod SetComplete
pub mod TypeComplete
pub mod TypeSound
pub mod Counts
pub mod Depth
pub mod Cst
pub mod Nest
pub mod Unique
pub mod OneReading
pub mod Refusals
pub mod Dollars
pub mod TypeRefusals
pub mod TextTokens
pub mod Written
pub mod Twins
pub mod TwinSets
pub mod ReadBack
