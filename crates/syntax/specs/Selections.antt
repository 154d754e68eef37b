-- GraphQL September 2025: SelectionSet as trees, with what a tree's tokens are, its events and its depth. No word here of how a text is read.
-- Assumes nothing: these are definitions.
use Rattle.std.specs.Prelude.{ℕ, suc, max, false, List, [], ◌∷◌, ◌++◌}
use Rattle.base.specs.Item.{Item}
use Rattle.codes.specs.EventCodes as nodes
use Rattle.syntax.specs.Token.{paren_l, paren_r, dots, colon, at, brace_l, brace_r, word_on, Token, token_event, name_events}
use Rattle.syntax.specs.Grammar.{Span, of, Name, name_token, FragmentWord, fragment_kind, node, Value, value_tokens, value_events, value_depth}

-- Argument : Name : Value
pub record Argument : Type 0 where
  pub name : Name
  pub colon_at : Span
  pub value : Value false

pub data Arguments : Type 0 where
  one_argument : Argument → Arguments
  more_arguments : Argument → Arguments → Arguments

-- Arguments : ( Argument+ ), where there are some
pub data OptArguments : Type 0 where
  no_arguments : OptArguments
  arguments : Span → Arguments → Span → OptArguments

-- Directive : @ Name Arguments?
pub record Directive : Type 0 where
  pub at_at : Span
  pub name : Name
  pub args : OptArguments

-- Directives : Directive+, where there are some
pub data Directives : Type 0 where
  one_directive : Directive → Directives
  more_directives : Directive → Directives → Directives

pub data OptDirectives : Type 0 where
  no_directives : OptDirectives
  directives : Directives → OptDirectives

-- Alias : Name :
pub data OptAlias : Type 0 where
  no_alias : OptAlias
  alias : Name → Span → OptAlias

-- TypeCondition : on NamedType
pub data OptCondition : Type 0 where
  no_condition : OptCondition
  condition : Span → Name → OptCondition

mutual
  -- SelectionSet : { Selection+ }
  pub data SelectionSet : Type 0 where
    selection_set : Span → Selections → Span → SelectionSet

  pub data Selections : Type 0 where
    one_selection : Selection → Selections
    more_selections : Selection → Selections → Selections

  -- Selection : Field, FragmentSpread, InlineFragment
  pub data Selection : Type 0 where
    -- Field : Alias? Name Arguments? Directives? SelectionSet?
    field : OptAlias → Name → OptArguments → OptDirectives → OptSelectionSet → Selection
    -- FragmentSpread : ... FragmentName Directives?
    fragment_spread : Span → FragmentWord → Span → OptDirectives → Selection
    -- InlineFragment : ... TypeCondition? Directives? SelectionSet
    inline_fragment : Span → OptCondition → OptDirectives → SelectionSet → Selection

  pub data OptSelectionSet : Type 0 where
    no_selection_set : OptSelectionSet
    some_selection_set : SelectionSet → OptSelectionSet

-- ---- the tokens

abbrev pub argument_tokens : Argument → List Token
argument_tokens a = name_token a.name ∷ of colon a.colon_at ∷ value_tokens a.value

abbrev pub arguments_tokens : Arguments → List Token
arguments_tokens (one_argument a) = argument_tokens a
arguments_tokens (more_arguments a xs) = argument_tokens a ++ arguments_tokens xs

abbrev pub opt_arguments_tokens : OptArguments → List Token
opt_arguments_tokens no_arguments = []
opt_arguments_tokens (arguments l xs r) = of paren_l l ∷ (arguments_tokens xs ++ (of paren_r r ∷ []))

abbrev pub directive_tokens : Directive → List Token
directive_tokens d = of at d.at_at ∷ name_token d.name ∷ opt_arguments_tokens d.args

abbrev pub directives_tokens : Directives → List Token
directives_tokens (one_directive d) = directive_tokens d
directives_tokens (more_directives d ds) = directive_tokens d ++ directives_tokens ds

abbrev pub opt_directives_tokens : OptDirectives → List Token
opt_directives_tokens no_directives = []
opt_directives_tokens (directives ds) = directives_tokens ds

abbrev pub alias_tokens : OptAlias → List Token
alias_tokens no_alias = []
alias_tokens (alias n c) = name_token n ∷ of colon c ∷ []

abbrev pub condition_tokens : OptCondition → List Token
condition_tokens no_condition = []
condition_tokens (condition o n) = of word_on o ∷ name_token n ∷ []

abbrev mutual
  pub set_tokens : SelectionSet → List Token
  set_tokens (selection_set l ss r) = of brace_l l ∷ (selections_tokens ss ++ (of brace_r r ∷ []))

  pub selections_tokens : Selections → List Token
  selections_tokens (one_selection s) = selection_tokens s
  selections_tokens (more_selections s ss) = selection_tokens s ++ selections_tokens ss

  pub selection_tokens : Selection → List Token
  selection_tokens (field a n xs ds s) = alias_tokens a ++ (name_token n ∷ (opt_arguments_tokens xs ++ (opt_directives_tokens ds ++ opt_set_tokens s)))
  selection_tokens (fragment_spread d w n ds) = of dots d ∷ of (fragment_kind w) n ∷ opt_directives_tokens ds
  selection_tokens (inline_fragment d c ds s) = of dots d ∷ (condition_tokens c ++ (opt_directives_tokens ds ++ set_tokens s))

  pub opt_set_tokens : OptSelectionSet → List Token
  opt_set_tokens no_selection_set = []
  opt_set_tokens (some_selection_set s) = set_tokens s

-- ---- the events

abbrev pub argument_events : Argument → List Item
argument_events a = node nodes.argument (argument_tokens a) (name_events (name_token a.name) ++ (token_event (of colon a.colon_at) ∷ value_events a.value))

abbrev pub arguments_events : Arguments → List Item
arguments_events (one_argument a) = argument_events a
arguments_events (more_arguments a xs) = argument_events a ++ arguments_events xs

-- "Optional parts that are empty give no node"
abbrev pub opt_arguments_events : OptArguments → List Item
opt_arguments_events no_arguments = []
opt_arguments_events (arguments l xs r) =
    node nodes.arguments (of paren_l l ∷ (arguments_tokens xs ++ (of paren_r r ∷ []))) (token_event (of paren_l l) ∷ (arguments_events xs ++ (token_event (of paren_r r) ∷ [])))

abbrev pub directive_events : Directive → List Item
directive_events d = node nodes.directive (directive_tokens d) (token_event (of at d.at_at) ∷ (name_events (name_token d.name) ++ opt_arguments_events d.args))

abbrev pub directives_events : Directives → List Item
directives_events (one_directive d) = directive_events d
directives_events (more_directives d ds) = directive_events d ++ directives_events ds

abbrev pub opt_directives_events : OptDirectives → List Item
opt_directives_events no_directives = []
opt_directives_events (directives ds) = node nodes.directives (directives_tokens ds) (directives_events ds)

-- "An alias includes its `:`"
abbrev pub alias_events : OptAlias → List Item
alias_events no_alias = []
alias_events (alias n c) = node nodes.alias (name_token n ∷ of colon c ∷ []) (name_events (name_token n) ++ (token_event (of colon c) ∷ []))

-- "a type condition is `on` and a NAMED_TYPE", and its `on` is held by itself
abbrev pub condition_events : OptCondition → List Item
condition_events no_condition = []
condition_events (condition o n) =
    node nodes.type_condition (of word_on o ∷ name_token n ∷ []) (token_event (of word_on o) ∷ node nodes.named_type (name_token n ∷ []) (name_events (name_token n)))

abbrev mutual
  pub set_events : SelectionSet → List Item
  set_events (selection_set l ss r) =
      node nodes.selection_set (of brace_l l ∷ (selections_tokens ss ++ (of brace_r r ∷ []))) (token_event (of brace_l l) ∷ (selections_events ss ++ (token_event (of brace_r r) ∷ [])))

  pub selections_events : Selections → List Item
  selections_events (one_selection s) = selection_events s
  selections_events (more_selections s ss) = selection_events s ++ selections_events ss

  pub selection_events : Selection → List Item
  selection_events (field a n xs ds s) =
      node nodes.field (alias_tokens a ++ (name_token n ∷ (opt_arguments_tokens xs ++ (opt_directives_tokens ds ++ opt_set_tokens s))))
      (alias_events a ++ (name_events (name_token n) ++ (opt_arguments_events xs ++ (opt_directives_events ds ++ opt_set_events s))))
  selection_events (fragment_spread d w n ds) =
      node nodes.fragment_spread (of dots d ∷ of (fragment_kind w) n ∷ opt_directives_tokens ds)
      (token_event (of dots d) ∷ (node nodes.fragment_name (of (fragment_kind w) n ∷ []) (name_events (of (fragment_kind w) n)) ++ opt_directives_events ds))
  selection_events (inline_fragment d c ds s) =
      node nodes.inline_fragment (of dots d ∷ (condition_tokens c ++ (opt_directives_tokens ds ++ set_tokens s)))
      (token_event (of dots d) ∷ (condition_events c ++ (opt_directives_events ds ++ set_events s)))

  pub opt_set_events : OptSelectionSet → List Item
  opt_set_events no_selection_set = []
  opt_set_events (some_selection_set s) = set_events s

-- ---- the depth: "arguments add none of their own"

abbrev pub arguments_depth : Arguments → ℕ
arguments_depth (one_argument a) = value_depth a.value
arguments_depth (more_arguments a xs) = max (value_depth a.value) (arguments_depth xs)

abbrev pub opt_arguments_depth : OptArguments → ℕ
opt_arguments_depth no_arguments = 0
opt_arguments_depth (arguments l xs r) = arguments_depth xs

abbrev pub directives_depth : Directives → ℕ
directives_depth (one_directive d) = opt_arguments_depth d.args
directives_depth (more_directives d ds) = max (opt_arguments_depth d.args) (directives_depth ds)

abbrev pub opt_directives_depth : OptDirectives → ℕ
opt_directives_depth no_directives = 0
opt_directives_depth (directives ds) = directives_depth ds

abbrev mutual
  pub set_depth : SelectionSet → ℕ
  set_depth (selection_set l ss r) = suc (selections_depth ss)

  pub selections_depth : Selections → ℕ
  selections_depth (one_selection s) = selection_depth s
  selections_depth (more_selections s ss) = max (selection_depth s) (selections_depth ss)

  pub selection_depth : Selection → ℕ
  selection_depth (field a n xs ds s) = max (opt_arguments_depth xs) (max (opt_directives_depth ds) (opt_set_depth s))
  selection_depth (fragment_spread d w n ds) = opt_directives_depth ds
  selection_depth (inline_fragment d c ds s) = max (opt_directives_depth ds) (set_depth s)

  pub opt_set_depth : OptSelectionSet → ℕ
  opt_set_depth no_selection_set = 0
  opt_set_depth (some_selection_set s) = set_depth s
