-- GraphQL September 2025: Type as trees, with what a tree's tokens are, its events and its depth. No word here of how a text is read.
-- Assumes nothing: these are definitions.
use Rattle.std.specs.Prelude.{ℕ, suc, List, [], ◌∷◌, ◌++◌}
use Rattle.base.specs.Item.{Item}
use Rattle.codes.specs.EventCodes as nodes
use Rattle.syntax.specs.Token.{bang, bracket_l, bracket_r, Token, token_event, name_events}
use Rattle.syntax.specs.Grammar.{Span, of, Name, name_token, node}

mutual
  -- Type : NamedType, ListType, NonNullType
  -- NonNullType : NamedType !, ListType !
  pub data Ty : Type 0 where
    nullable : Base → Ty
    non_null : Base → Span → Ty

  pub data Base : Type 0 where
    -- NamedType : Name
    named_type : Name → Base
    -- ListType : [ Type ]
    list_type : Span → Ty → Span → Base

abbrev mutual
  pub ty_tokens : Ty → List Token
  ty_tokens (nullable b) = base_tokens b
  ty_tokens (non_null b s) = base_tokens b ++ (of bang s ∷ [])

  pub base_tokens : Base → List Token
  base_tokens (named_type n) = name_token n ∷ []
  base_tokens (list_type l t r) = of bracket_l l ∷ (ty_tokens t ++ (of bracket_r r ∷ []))

-- "NON_NULL_TYPE surrounds its inner type and the `!`"
abbrev mutual
  pub ty_events : Ty → List Item
  ty_events (nullable b) = base_events b
  ty_events (non_null b s) = node nodes.non_null_type (base_tokens b ++ (of bang s ∷ [])) (base_events b ++ (token_event (of bang s) ∷ []))

  pub base_events : Base → List Item
  base_events (named_type n) = node nodes.named_type (name_token n ∷ []) (name_events (name_token n))
  base_events (list_type l t r) =
      node nodes.list_type (of bracket_l l ∷ (ty_tokens t ++ (of bracket_r r ∷ []))) (token_event (of bracket_l l) ∷ (ty_events t ++ (token_event (of bracket_r r) ∷ [])))

abbrev mutual
  pub ty_depth : Ty → ℕ
  ty_depth (nullable b) = base_depth b
  ty_depth (non_null b s) = base_depth b

  pub base_depth : Base → ℕ
  base_depth (named_type n) = 0
  base_depth (list_type l t r) = suc (ty_depth t)
