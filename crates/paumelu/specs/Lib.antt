-- Document 01, section by section and in its order: each module passes on the definitions that say what the section says. Another definition is
-- a part of one of these, or says how the code works and need not be believed. The document's further sections: "Known departures from
-- the Rust" is docs/DIFFERENCES.md, "Cases to prove, in a single list" proofs/Cases.antt, "Slips we expect" and "How strong each contract is to be"
-- docs/PROMISES.md, and "Which language form to use" docs/DECISIONS.md.
pub mod Entries
pub mod NumbersGivenBack
pub mod TapeEntries
pub mod LexicalRules
pub mod ErrorsAndWhatTheyCover
pub mod GrammarAndDepth
-- row 11, and the C interface
pub mod Interface
