-- Laws of the numbers of document 01's tables.
pub mod KindLaws
pub mod FaultLaws
