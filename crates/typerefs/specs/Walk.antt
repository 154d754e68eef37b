-- A type but for its `!`, what follows each of its levels, and what a walk over it promises. Assumes nothing: these are definitions.
use Rattle.std.specs.Prelude.{ℕ, zero, suc, ◌<◌, ◌≡◌, Bool, true, false, List, [], ◌∷◌, ◌++◌, eqb, length, get_or, Result, Ok, Err}
use Rattle.base.specs.Text.{pick}
use Rattle.base.specs.Item.{Item}
use Rattle.codes.specs.Refusals.{no_sentence}
use Rattle.codes.specs.EventCodes as nodes
use Rattle.rules.specs.Items.{items}
use Rattle.syntax.specs.Token.{bang, bracket_l, bracket_r, is_name, Token, end_of, token_event, opens, closes, name_events}
use Rattle.syntax.specs.TypeReading.{TypeRead, typed, untyped, no_depth, type_at}
use Rattle.codes.specs.RefusalNumbers.{number_of}
use Rattle.codes.specs.declared.refusal.Refused.{Refused}
use Rattle.parser.specs.declared.token.Reached.{Reached}
use Rattle.parser.specs.declared.events.Events.{Events}
use Rattle.parser.specs.View.{rest}
use Rattle.parser.specs.Events.{Wrote}

-- the `]` of a list type whose `[` is b, after its item type; what follows is left
unfoldable pub listed : Token → TypeRead → TypeRead
listed b (untyped n p) = untyped n p
listed b (typed es e []) = untyped no_sentence e
listed b (typed es e (t ∷ ts)) =
    pick (eqb t.kind bracket_r)
    (typed (opens nodes.list_type b.start ∷ token_event b ∷ (es ++ (token_event t ∷ closes nodes.list_type b.start (end_of t) ∷ []))) (end_of t) ts)
    (untyped no_sentence t.start)

-- a type but for its `!`, with so much depth left
unfoldable pub base_at : (depth : ℕ) → List Token → TypeRead
base_at r [] = untyped no_sentence 0
base_at zero (t ∷ ts) =
    pick (is_name t.kind) (typed (opens nodes.named_type t.start ∷ (name_events t ++ (closes nodes.named_type t.start (end_of t) ∷ []))) (end_of t) ts)
    (pick (eqb t.kind bracket_l) (no_depth ts (end_of t)) (untyped no_sentence t.start))
base_at (suc r) (t ∷ ts) =
    pick (is_name t.kind) (typed (opens nodes.named_type t.start ∷ (name_events t ++ (closes nodes.named_type t.start (end_of t) ∷ []))) (end_of t) ts)
    (pick (eqb t.kind bracket_l) (listed t (type_at r ts)) (untyped no_sentence t.start))

-- is the first token a `!`?
abbrev pub bang_first : List Token → Bool
bang_first [] = false
bang_first (t ∷ ts) = eqb t.kind bang

-- k says whether a `!` is the token after what was read
abbrev pub Follows : TypeRead → (k : Bool) → Type 0
Follows (typed es e ts) k = k ≡ bang_first ts
Follows (untyped n p) k = Unit {0}

-- of a list type with so much depth left: the notes say whether a `!` follows its item type, and so on inwards
unfoldable pub Below : List Bool → (depth : ℕ) → List Token → Type 0
Below notes zero ts = Unit {0}
Below notes (suc r) [] = Unit {0}
Below notes (suc r) (t ∷ ts) = t.kind ≡ bracket_l → Follows (base_at r ts) (get_or notes r false) × Below notes r ts

-- the notes say whether a `!` follows a type but for its `!`, and so on inwards
abbrev pub Noted : List Bool → (depth : ℕ) → List Token → Type 0
Noted notes d ts = Follows (base_at d ts) (get_or notes d false) × Below notes d ts

-- at depth d the notes say k now, and below it what they said
pub record Marked (notes notes' : List Bool) (d : ℕ) (k : Bool) : Type 0 where
  pub kept : length notes' ≡ length notes
  pub here : get_or notes' d false ≡ k
  pub under : (i : ℕ) → i < d → get_or notes' i false ≡ get_or notes i false

-- a walk over what reads as x: it was read, and `after` holds; if `before` held, its events were written; or it was refused
pub data Walked (t : List ℕ) (x : TypeRead) (before after : Type 0) (old new : Events) : Result Reached Refused → Type 0 where
  walked : {to : Reached} (es : List Item) → x ≡ typed es to.end (rest t to.next) → new.tape.ghost_name ≡ old.tape.ghost_name
      → length new.tape.now ≡ length old.tape.now → (before → Wrote old new es) → after → to.next < length (items t) → Walked t x before after old new (Ok to)
  refused : {by : Refused} → new.tape.ghost_name ≡ old.tape.ghost_name → length new.tape.now ≡ length old.tape.now → x ≡ untyped (number_of by.refusal) by.place
      → Walked t x before after old new (Err by)

-- a `]` at item number `at` is the last token of a list type that began at `start`; or 9
pub data Closed (t : List ℕ) (start at : ℕ) (old new : Events) : Result Reached Refused → Type 0 where
  closed : {to : Reached} (u : Token) → rest t at ≡ u ∷ rest t to.next → eqb u.kind bracket_r ≡ true → to.end ≡ end_of u → to.next < length (items t)
      → Wrote old new (token_event u ∷ closes nodes.list_type start (end_of u) ∷ []) → Closed t start at old new (Ok to)
  unclosed : {by : Refused} (u : Token) (us : List Token) → rest t at ≡ u ∷ us → eqb u.kind bracket_r ≡ false → new ≡ old → number_of by.refusal ≡ no_sentence
      → by.place ≡ u.start → Closed t start at old new (Err by)

-- a type that began at `start` ended where reading has come to: a `!` there is the last token of a non-null type; else it is done
pub data Ended (t : List ℕ) (start : ℕ) (from : Reached) (old new : Events) (to : Reached) : Type 0 where
  banged : (u : Token) → rest t from.next ≡ u ∷ rest t to.next → eqb u.kind bang ≡ true → to.end ≡ end_of u → to.next < length (items t)
      → Wrote old new (token_event u ∷ closes nodes.non_null_type start (end_of u) ∷ []) → Ended t start from old new to
  bare : (u : Token) (us : List Token) → rest t from.next ≡ u ∷ us → eqb u.kind bang ≡ false → new ≡ old → to ≡ from → Ended t start from old new to
