-- The reader's definition: a stack of what is still due, and one step for each token. It says which texts are refused, with which number
-- and where, and which events the others give. That it accepts just the trees' tokens, with the trees' events, is proved.
-- Assumes nothing: these are definitions.
use Rattle.std.specs.Prelude.{ℕ, zero, suc, Bool, true, false, List, [], ◌∷◌, ◌++◌, eqb}
use Rattle.base.specs.Text.{pick}
use Rattle.base.specs.Item.{Item}
use Rattle.codes.specs.Refusals.{too_deep, dollar_in_constant, no_sentence}
use Rattle.codes.specs.EventCodes as nodes
use Rattle.syntax.specs.Token.{eof, dollar, paren_l, paren_r, dots, colon, at, bracket_l, bracket_r, brace_l, brace_r, string, int, float, word_true, word_false, word_null, word_on, is_name, is_enum, is_fragment_name, Token, end_of, token_event, opens, closes, leaf, name_events}

-- What is due. Where a depth stands, it is what is left there; where a start stands, it is that of the node's first token.
pub data Sym : Type 0 where
  -- a value
  value : (depth : ℕ) → Sym
  -- a value, one level deeper: the depth is tested before looking further
  deeper : (depth : ℕ) → Sym
  -- a list's further items or its `]`
  items : (depth start : ℕ) → Sym
  -- an object's further fields or its `}`
  fields : (depth start : ℕ) → Sym
  -- a Name
  name : Sym
  -- a `:`
  colon_due : Sym
  -- nothing: the node of this code, which began at start, ends
  close : (code start : ℕ) → Sym
  -- a selection set
  selection_set : (depth : ℕ) → Sym
  -- a selection set, or none
  opt_selection_set : (depth : ℕ) → Sym
  -- a selection set's first selection: the depth is tested before looking further
  first_selection : (depth start : ℕ) → Sym
  -- a selection set's further selections or its `}`
  selections : (depth start : ℕ) → Sym
  -- what follows the first name of a field: a `:` makes it an alias
  named : (depth : ℕ) → Token → Sym
  -- what follows a `...`
  spread : (depth : ℕ) → Token → Sym
  -- arguments, or none; the first of some; further ones or the `)`
  opt_arguments : (depth : ℕ) → Sym
  first_argument : (depth start : ℕ) → Sym
  arguments : (depth start : ℕ) → Sym
  -- directives, or none; further ones, or none
  opt_directives : (depth : ℕ) → Sym
  directives : (depth start : ℕ) → Sym
  -- a NAMED_TYPE
  named_type : Sym

-- what a token does: it gives events and leaves a stack; or it is refused; or the reading is done
pub data Move : Type 0 where
  go : List Item → List Sym → Move
  stop : (number : ℕ) → Move
  halt : List Item → Move

-- events first, and then the move
abbrev pub also : List Item → Move → Move
also es (go fs K) = go (es ++ fs) K
also es (stop n) = stop n
also es (halt fs) = halt (es ++ fs)

-- ---- at a token t, with K below

-- where a value is due. c: only a constant may stand there
unfoldable pub at_value : (c : Bool) → (depth : ℕ) → List Sym → Token → Move
at_value c r K t =
    pick (eqb t.kind int) (go (leaf nodes.int_value t) K)
    (pick (eqb t.kind float) (go (leaf nodes.float_value t) K)
    (pick (eqb t.kind string) (go (leaf nodes.string_value t) K)
    (pick (eqb t.kind word_true) (go (leaf nodes.boolean_value t) K)
    (pick (eqb t.kind word_false) (go (leaf nodes.boolean_value t) K)
    (pick (eqb t.kind word_null) (go (leaf nodes.null_value t) K)
    (pick (is_enum t.kind) (go (opens nodes.enum_value t.start ∷ (name_events t ++ (closes nodes.enum_value t.start (end_of t) ∷ []))) K)
    (pick (eqb t.kind bracket_l) (go (opens nodes.list_value t.start ∷ token_event t ∷ []) (items r t.start ∷ K))
    (pick (eqb t.kind brace_l) (go (opens nodes.object_value t.start ∷ token_event t ∷ []) (fields r t.start ∷ K))
    (pick (eqb t.kind dollar)
    (pick c (stop dollar_in_constant) (go (opens nodes.variable t.start ∷ token_event t ∷ []) (name ∷ close nodes.variable t.start ∷ K)))
    (stop no_sentence))))))))))

-- one level deeper: 7 where no depth is left, whatever stands there
abbrev pub at_deeper : Bool → ℕ → List Sym → Token → Move
at_deeper c zero K t = stop too_deep
at_deeper c (suc r) K t = at_value c r K t

-- in a list value the depth is tested "only when the next token is neither `]` nor Eof"
unfoldable pub at_items : Bool → (depth start : ℕ) → List Sym → Token → Move
at_items c r s K t =
    pick (eqb t.kind bracket_r) (go (token_event t ∷ closes nodes.list_value s (end_of t) ∷ []) K)
    (pick (eqb t.kind eof) (stop no_sentence) (at_deeper c r (items r s ∷ K) t))

unfoldable pub at_fields : (depth start : ℕ) → List Sym → Token → Move
at_fields r s K t =
    pick (eqb t.kind brace_r) (go (token_event t ∷ closes nodes.object_value s (end_of t) ∷ []) K)
    (pick (is_name t.kind) (go (opens nodes.object_field t.start ∷ name_events t) (colon_due ∷ deeper r ∷ close nodes.object_field t.start ∷ fields r s ∷ K))
    (stop no_sentence))

unfoldable pub at_name : List Sym → Token → Move
at_name K t = pick (is_name t.kind) (go (name_events t) K) (stop no_sentence)

unfoldable pub at_colon : List Sym → Token → Move
at_colon K t = pick (eqb t.kind colon) (go (token_event t ∷ []) K) (stop no_sentence)

unfoldable pub at_named_type : List Sym → Token → Move
at_named_type K t = pick (is_name t.kind) (go (opens nodes.named_type t.start ∷ (name_events t ++ (closes nodes.named_type t.start (end_of t) ∷ []))) K) (stop no_sentence)

-- the `{` of a selection set; else m
unfoldable pub or_selection_set : (depth : ℕ) → List Sym → Token → Move → Move
or_selection_set r K t m = pick (eqb t.kind brace_l) (go (opens nodes.selection_set t.start ∷ token_event t ∷ []) (first_selection r t.start ∷ K)) m

-- a field's first name, or a `...`; else m
unfoldable pub or_selection : (depth : ℕ) → List Sym → Token → Move → Move
or_selection r K t m =
    pick (is_name t.kind) (go [] (named r t ∷ K))
    (pick (eqb t.kind dots) (go [] (spread r t ∷ K)) m)

-- "tested after `{` of a selection set .., before looking further"
abbrev pub at_first_selection : (depth start : ℕ) → List Sym → Token → Move
at_first_selection zero s K t = stop too_deep
at_first_selection (suc r) s K t = or_selection r (selections r s ∷ K) t (stop no_sentence)

unfoldable pub at_selections : (depth start : ℕ) → List Sym → Token → Move
at_selections r s K t =
    pick (eqb t.kind brace_r) (go (token_event t ∷ closes nodes.selection_set s (end_of t) ∷ []) K)
    (or_selection r (selections r s ∷ K) t (stop no_sentence))

-- what may follow a field's name
abbrev pub after_name : (depth start : ℕ) → List Sym → List Sym
after_name r s K = opt_arguments r ∷ opt_directives r ∷ opt_selection_set r ∷ close nodes.field s ∷ K

unfoldable pub or_arguments : (depth : ℕ) → List Sym → Token → Move → Move
or_arguments r K t m = pick (eqb t.kind paren_l) (go (opens nodes.arguments t.start ∷ token_event t ∷ []) (first_argument r t.start ∷ K)) m

-- an argument's name; else m
unfoldable pub or_argument : (depth start : ℕ) → List Sym → Token → Move → Move
or_argument r s K t m =
    pick (is_name t.kind) (go (opens nodes.argument t.start ∷ name_events t) (colon_due ∷ value r ∷ close nodes.argument t.start ∷ arguments r s ∷ K)) m

unfoldable pub at_arguments : (depth start : ℕ) → List Sym → Token → Move
at_arguments r s K t =
    pick (eqb t.kind paren_r) (go (token_event t ∷ closes nodes.arguments s (end_of t) ∷ []) K)
    (or_argument r s K t (stop no_sentence))

-- a directive's `@`, the directives of which began at s, with the events es before it; else m
unfoldable pub or_directive : List Item → (depth start : ℕ) → List Sym → Token → Move → Move
or_directive es r s K t m =
    pick (eqb t.kind at)
    (go (es ++ (opens nodes.directive t.start ∷ token_event t ∷ [])) (name ∷ opt_arguments r ∷ close nodes.directive t.start ∷ directives r s ∷ K)) m

-- the first `@`
abbrev pub or_directives : (depth : ℕ) → List Sym → Token → Move → Move
or_directives r K t m = or_directive (opens nodes.directives t.start ∷ []) r t.start K t m

-- after the `...` d: a fragment spread's name, a type condition's `on`, or an inline fragment's `@` or `{`
unfoldable pub at_spread : (depth : ℕ) → Token → List Sym → Token → Move
at_spread r d K t =
    pick (is_fragment_name t.kind)
    (go (opens nodes.fragment_spread d.start ∷ token_event d ∷ opens nodes.fragment_name t.start ∷ (name_events t ++ (closes nodes.fragment_name t.start (end_of t) ∷ [])))
    (opt_directives r ∷ close nodes.fragment_spread d.start ∷ K))
    (also (opens nodes.inline_fragment d.start ∷ token_event d ∷ [])
    (pick (eqb t.kind word_on)
    (go (opens nodes.type_condition t.start ∷ token_event t ∷ []) (named_type ∷ close nodes.type_condition t.start ∷ opt_directives r ∷ selection_set r ∷ close nodes.inline_fragment d.start ∷ K))
    (or_directives r (selection_set r ∷ close nodes.inline_fragment d.start ∷ K) t
    (or_selection_set r (close nodes.inline_fragment d.start ∷ K) t (stop no_sentence)))))

-- one step: c says whether values are constant, l is the end of the token before t. What ends where something else begins hands the
-- token on to what lies below
unfoldable pub step : (c : Bool) → (l : ℕ) → List Sym → Token → Move
step c l [] t = pick (eqb t.kind eof) (halt []) (stop no_sentence)
step c l (value r ∷ K) t = at_value c r K t
step c l (deeper r ∷ K) t = at_deeper c r K t
step c l (items r s ∷ K) t = at_items c r s K t
step c l (fields r s ∷ K) t = at_fields r s K t
step c l (name ∷ K) t = at_name K t
step c l (colon_due ∷ K) t = at_colon K t
step c l (close n s ∷ K) t = also (closes n s l ∷ []) (step c l K t)
step c l (selection_set r ∷ K) t = or_selection_set r K t (stop no_sentence)
step c l (opt_selection_set r ∷ K) t = or_selection_set r K t (step c l K t)
step c l (first_selection r s ∷ K) t = at_first_selection r s K t
step c l (selections r s ∷ K) t = at_selections r s K t
-- a `:` makes the name n an alias; else it is the field's own, and t is what follows it
step c l (named r n ∷ K) t =
    pick (eqb t.kind colon)
    (go (opens nodes.field n.start ∷ opens nodes.alias n.start ∷ (name_events n ++ (token_event t ∷ closes nodes.alias n.start (end_of t) ∷ []))) (name ∷ after_name r n.start K))
    (also (opens nodes.field n.start ∷ name_events n)
    (or_arguments r (opt_directives r ∷ opt_selection_set r ∷ close nodes.field n.start ∷ K) t
    (or_directives r (opt_selection_set r ∷ close nodes.field n.start ∷ K) t
    (or_selection_set r (close nodes.field n.start ∷ K) t
    (also (closes nodes.field n.start l ∷ []) (step c l K t))))))
step c l (spread r d ∷ K) t = at_spread r d K t
step c l (opt_arguments r ∷ K) t = or_arguments r K t (step c l K t)
step c l (first_argument r s ∷ K) t = or_argument r s K t (stop no_sentence)
step c l (arguments r s ∷ K) t = at_arguments r s K t
step c l (opt_directives r ∷ K) t = or_directives r K t (step c l K t)
step c l (directives r s ∷ K) t = or_directive [] r s K t (also (closes nodes.directives s l ∷ []) (step c l K t))
step c l (named_type ∷ K) t = at_named_type K t

-- ---- the run

-- the answer: a refusal and its place, or the events
pub data Read : Type 0 where
  refused : (number place : ℕ) → Read
  accepted : List Item → Read

abbrev pub emits : List Item → Read → Read
emits es (refused n p) = refused n p
emits es (accepted fs) = accepted (es ++ fs)

-- what a move at a token makes of the reading; k reads on
abbrev pub moved : Move → (place : ℕ) → (List Sym → Read) → Read
moved (go es K) p k = emits es (k K)
moved (stop n) p k = refused n p
moved (halt es) p k = accepted es

-- over tokens of which the last is Eof, where the token before them ended at l
unfoldable pub run : (c : Bool) → List Sym → (l : ℕ) → List Token → Read
run c K l [] = refused no_sentence l
run c K l (t ∷ ts) = moved (step c l K t) t.start (λ K'. run c K' (end_of t) ts)

-- what the entries read: a value, a constant value, a selection set
abbrev pub read_value : (depth : ℕ) → List Token → Read
read_value d ts = run false (value d ∷ []) 0 ts

abbrev pub read_constant : (depth : ℕ) → List Token → Read
read_constant d ts = run true (value d ∷ []) 0 ts

abbrev pub read_selection_set : (depth : ℕ) → List Token → Read
read_selection_set d ts = run false (selection_set d ∷ []) 0 ts
