-- The reader's definition for types, by recursion on the depth that is left, since a type has no siblings and its NON_NULL_TYPE opens before
-- the `!` that says so. Assumes nothing: these are definitions.
use Rattle.std.specs.Prelude.{ℕ, zero, suc, List, [], ◌∷◌, ◌++◌, eqb}
use Rattle.base.specs.Text.{pick}
use Rattle.base.specs.Item.{Item}
use Rattle.codes.specs.Refusals.{too_deep, no_sentence}
use Rattle.codes.specs.EventCodes as nodes
use Rattle.syntax.specs.Token.{eof, bang, bracket_l, bracket_r, is_name, Token, end_of, token_event, opens, closes, name_events}
use Rattle.syntax.specs.Machine.{Read, refused, accepted}

-- a type was read: its events, the end of its last token, and the tokens that follow it; or it is refused
pub data TypeRead : Type 0 where
  typed : (events : List Item) → (end : ℕ) → List Token → TypeRead
  untyped : (number place : ℕ) → TypeRead

-- a type that began at s, with its events and its end, and what follows: a `!` makes it a NON_NULL_TYPE
unfoldable pub with_bang : (s : ℕ) → List Item → (end : ℕ) → List Token → TypeRead
with_bang s es e [] = typed es e []
with_bang s es e (t ∷ ts) =
    pick (eqb t.kind bang) (typed (opens nodes.non_null_type s ∷ (es ++ (token_event t ∷ closes nodes.non_null_type s (end_of t) ∷ []))) (end_of t) ts)
    (typed es e (t ∷ ts))

-- the `]` of a list type whose `[` is b, after its item type
unfoldable pub with_bracket : Token → TypeRead → TypeRead
with_bracket b (untyped n p) = untyped n p
with_bracket b (typed es e []) = untyped no_sentence e
with_bracket b (typed es e (t ∷ ts)) =
    pick (eqb t.kind bracket_r)
    (with_bang b.start (opens nodes.list_type b.start ∷ token_event b ∷ (es ++ (token_event t ∷ closes nodes.list_type b.start (end_of t) ∷ []))) (end_of t) ts)
    (untyped no_sentence t.start)

-- 7 at the token after a `[`, "before looking further"
abbrev pub no_depth : List Token → (end : ℕ) → TypeRead
no_depth [] e = untyped too_deep e
no_depth (t ∷ ts) e = untyped too_deep t.start

-- a type, with so much depth left
unfoldable pub type_at : (depth : ℕ) → List Token → TypeRead
type_at r [] = untyped no_sentence 0
type_at zero (t ∷ ts) =
    pick (is_name t.kind) (with_bang t.start (opens nodes.named_type t.start ∷ (name_events t ++ (closes nodes.named_type t.start (end_of t) ∷ []))) (end_of t) ts)
    (pick (eqb t.kind bracket_l) (no_depth ts (end_of t)) (untyped no_sentence t.start))
type_at (suc r) (t ∷ ts) =
    pick (is_name t.kind) (with_bang t.start (opens nodes.named_type t.start ∷ (name_events t ++ (closes nodes.named_type t.start (end_of t) ∷ []))) (end_of t) ts)
    (pick (eqb t.kind bracket_l) (with_bracket t (type_at r ts)) (untyped no_sentence t.start))

-- a type fills the text: Eof follows
unfoldable pub whole_type : TypeRead → Read
whole_type (untyped n p) = refused n p
whole_type (typed es e []) = refused no_sentence e
whole_type (typed es e (t ∷ ts)) = pick (eqb t.kind eof) (accepted es) (refused no_sentence t.start)

abbrev pub read_type : (depth : ℕ) → List Token → Read
read_type d ts = whole_type (type_at d ts)
