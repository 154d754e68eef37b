-- Nodes, by their event codes. Assumes nothing: these are definitions.
use Rattle.std.specs.Prelude.{ℕ, ◌≡◌, Result, MatchResult}
use Rattle.codes.specs.EventCodes as numbers
use Rattle.codes.specs.declared.node.Node.{Node}
use Rattle.codes.specs.declared.node.Node.TheVariants as the
use Rattle.codes.specs.declared.UnknownNumber.{UnknownNumber}

abbrev pub number_of : Node → ℕ
number_of the.Name = numbers.name
number_of the.IntValue = numbers.int_value
number_of the.FloatValue = numbers.float_value
number_of the.StringValue = numbers.string_value
number_of the.BooleanValue = numbers.boolean_value
number_of the.NullValue = numbers.null_value
number_of the.EnumValue = numbers.enum_value
number_of the.ListValue = numbers.list_value
number_of the.ObjectValue = numbers.object_value
number_of the.ObjectField = numbers.object_field
number_of the.Variable = numbers.variable
number_of the.NamedType = numbers.named_type
number_of the.ListType = numbers.list_type
number_of the.NonNullType = numbers.non_null_type
number_of the.SelectionSet = numbers.selection_set
number_of the.Field = numbers.field
number_of the.Alias = numbers.alias
number_of the.Arguments = numbers.arguments
number_of the.Argument = numbers.argument
number_of the.Directives = numbers.directives
number_of the.Directive = numbers.directive
number_of the.FragmentSpread = numbers.fragment_spread
number_of the.FragmentName = numbers.fragment_name
number_of the.InlineFragment = numbers.inline_fragment
number_of the.TypeCondition = numbers.type_condition

-- what `From` gives
abbrev pub Gives : Node → ℕ → Type 0
Gives x n = n ≡ number_of x

-- what `TryFrom` gives: the one with this number, if there is one
abbrev pub Names : ℕ → Result Node UnknownNumber → Type 0
Names n r = MatchResult r (λ x. number_of x ≡ n) (λ e. (x : Node) → number_of x ≡ n → ⊥)
