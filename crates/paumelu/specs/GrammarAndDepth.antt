-- Document 01, "Grammar and depth". Assumes nothing: these are definitions.

-- "Value, Type and SelectionSet as in September 2025": trees, their tokens and their events
pub use Rattle.syntax.specs.Grammar.{Value, value_tokens, value_events}
pub use Rattle.syntax.specs.Types.{Ty, ty_tokens, ty_events}
pub use Rattle.syntax.specs.Selections.{SelectionSet, set_tokens, set_events}
-- "Every Name gives a NAME around its token"
pub use Rattle.syntax.specs.Token.{name_events}
-- "Depth counts open list items, object field values, list types and selection sets together"
pub use Rattle.syntax.specs.Grammar.{value_depth}
pub use Rattle.syntax.specs.Types.{ty_depth}
pub use Rattle.syntax.specs.Selections.{set_depth}
-- where it is tested, and which token no sentence can have: "The earliest place among 7, 8 and 9 counts; at one place, 7 before 8 before 9"
pub use Rattle.syntax.specs.Machine.{step, read_value, read_constant, read_selection_set}
pub use Rattle.syntax.specs.TypeReading.{type_at, read_type}
