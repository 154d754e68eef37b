-- Document 01, "Errors and what they cover". Assumes nothing: these are definitions.

-- one constructor for each error or more, in the document's order, with what it covers
pub use Rattle.rules.specs.Errors.{Fault}
-- a token by its rule, or an error, whose code is 64 + error
pub use Rattle.rules.specs.Errors.{Stands}
-- "Within a closed string" and "Used up means": where a string closes and which faults it has
pub use Rattle.rules.specs.Faults.{string_scan, after}
-- "The last fault in a string gives the code"
pub use Rattle.rules.specs.StringAt.{last}
