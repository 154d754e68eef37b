-- A larger depth limit changes no answer other than 7. Assumes nothing.
use Prim.Native.Nat.{ℕ, zero, suc, ◌+◌, ◌-◌, ◌≤◌}
use native.Mathlib.Nat.{add-zero, add-suc}
use native.Mathlib.Omega.{arith}
use mathlib.Core.Path.{◌≡◌, refl, ap, ◌∙◌}
use mathlib.Core.Bool.{Bool, true, false}
use mathlib.Core.Logic.{◌⊎◌, inl, inr}
use mathlib.Core.List.{List, [], ◌∷◌, ◌++◌}
use lib.Dec.{eqb}
use Rattle.base.specs.Text.{pick}
use Rattle.base.specs.Item.{Item}
use Rattle.syntax.specs.Token.{eof, dollar, colon, dots, at, paren_l, paren_r, bracket_l, bracket_r, brace_l, brace_r, string, int, float, word_true, word_false, word_null, word_on, is_name, is_enum, is_fragment_name, Token, end_of, token_event, opens, closes, leaf, name_events}
use Rattle.syntax.specs.Machine.{Sym, value, deeper, items, fields, name, colon_due, close, selection_set, opt_selection_set, first_selection, selections, named, spread, opt_arguments, first_argument, arguments, opt_directives, directives, named_type, Move, go, stop, halt, also, at_value, at_deeper, at_items, at_fields, at_name, at_colon, at_named_type, or_selection_set, or_selection, at_first_selection, at_selections, after_name, or_arguments, or_argument, at_arguments, or_directive, at_spread, step, Read, refused, accepted, emits, moved, run, read_value, read_constant, read_selection_set}
use Rattle.syntax.specs.TypeReading.{TypeRead, typed, untyped, with_bang, with_bracket, no_depth, type_at, whole_type, read_type}

-- what is due, with one level more
abbrev pub lift : Sym → Sym
lift (value r) = value (suc r)
lift (deeper r) = deeper (suc r)
lift (items r s) = items (suc r) s
lift (fields r s) = fields (suc r) s
lift name = name
lift colon_due = colon_due
lift (close n s) = close n s
lift (selection_set r) = selection_set (suc r)
lift (opt_selection_set r) = opt_selection_set (suc r)
lift (first_selection r s) = first_selection (suc r) s
lift (selections r s) = selections (suc r) s
lift (named r n) = named (suc r) n
lift (spread r d) = spread (suc r) d
lift (opt_arguments r) = opt_arguments (suc r)
lift (first_argument r s) = first_argument (suc r) s
lift (arguments r s) = arguments (suc r) s
lift (opt_directives r) = opt_directives (suc r)
lift (directives r s) = directives (suc r) s
lift named_type = named_type

abbrev pub lifts : List Sym → List Sym
lifts [] = []
lifts (s ∷ K) = lift s ∷ lifts K

-- a move that is no refusal with 7
abbrev pub Past : Move → Type 0
Past (go es K) = Unit {0}
Past (stop n) = (n ≡ 8) ⊎ (n ≡ 9)
Past (halt es) = Unit {0}

-- a move, and the move with one level more
pub data Lifted : Move → Move → Type 0 where
  goes : (es : List Item) (K : List Sym) → Lifted (go es K) (go es (lifts K))
  halts : (es : List Item) → Lifted (halt es) (halt es)
  stays : (n : ℕ) → (n ≡ 8) ⊎ (n ≡ 9) → Lifted (stop n) (stop n)
  past : (m : Move) → Past m → Lifted (stop 7) m

nine : Lifted (stop 9) (stop 9)
nine = stays 9 (inr refl)

past_pick : (b : Bool) (m n : Move) → Past m → Past n → Past (pick b m n)
past_pick true m n p q = p
past_pick false m n p q = q

past_also : (es : List Item) (m : Move) → Past m → Past (also es m)
past_also es (go fs K) p = tt
past_also es (stop n) p = p
past_also es (halt fs) p = tt

lifted_pick : {m m' n n' : Move} (b : Bool) → Lifted m m' → Lifted n n' → Lifted (pick b m n) (pick b m' n')
lifted_pick true p q = p
lifted_pick false p q = q

lifted_also : (es : List Item) {m m' : Move} → Lifted m m' → Lifted (also es m) (also es m')
lifted_also es (goes fs K) = goes (es ++ fs) K
lifted_also es (halts fs) = halts (es ++ fs)
lifted_also es (stays n h) = stays n h
lifted_also es (past m h) = past (also es m) (past_also es m h)

lifted_value : (c : Bool) (r : ℕ) (K : List Sym) (t : Token) → Lifted (at_value c r K t) (at_value c (suc r) (lifts K) t)
unfolding at_value
lifted_value c r K t =
    lifted_pick (eqb t.kind int) (goes (leaf 2 t) K)
    (lifted_pick (eqb t.kind float) (goes (leaf 3 t) K)
    (lifted_pick (eqb t.kind string) (goes (leaf 4 t) K)
    (lifted_pick (eqb t.kind word_true) (goes (leaf 5 t) K)
    (lifted_pick (eqb t.kind word_false) (goes (leaf 5 t) K)
    (lifted_pick (eqb t.kind word_null) (goes (leaf 6 t) K)
    (lifted_pick (is_enum t.kind) (goes (opens 7 t.start ∷ (name_events t ++ (closes 7 t.start (end_of t) ∷ []))) K)
    (lifted_pick (eqb t.kind bracket_l) (goes (opens 8 t.start ∷ token_event t ∷ []) (items r t.start ∷ K))
    (lifted_pick (eqb t.kind brace_l) (goes (opens 9 t.start ∷ token_event t ∷ []) (fields r t.start ∷ K))
    (lifted_pick (eqb t.kind dollar)
    (lifted_pick c (stays 8 (inl refl)) (goes (opens 11 t.start ∷ token_event t ∷ []) (name ∷ close 11 t.start ∷ K)))
    nine)))))))))

-- where a value is due, no refusal is a 7
past_value : (c : Bool) (r : ℕ) (K : List Sym) (t : Token) → Past (at_value c r K t)
unfolding at_value
past_value c r K t = search (past_pick, inl, inr) depth 14

lifted_deeper : (c : Bool) (r : ℕ) (K : List Sym) (t : Token) → Lifted (at_deeper c r K t) (at_deeper c (suc r) (lifts K) t)
lifted_deeper c zero K t = past (at_value c zero (lifts K) t) (past_value c zero (lifts K) t)
lifted_deeper c (suc r) K t = lifted_value c r K t

lifted_set : {m m' : Move} (r : ℕ) (K : List Sym) (t : Token) → Lifted m m' → Lifted (or_selection_set r K t m) (or_selection_set (suc r) (lifts K) t m')
unfolding or_selection_set
lifted_set r K t p = lifted_pick (eqb t.kind brace_l) (goes (opens 15 t.start ∷ token_event t ∷ []) (first_selection r t.start ∷ K)) p

lifted_selection : (r : ℕ) (K : List Sym) (t : Token) → Lifted (or_selection r K t (stop 9)) (or_selection (suc r) (lifts K) t (stop 9))
unfolding or_selection
lifted_selection r K t = lifted_pick (is_name t.kind) (goes [] (named r t ∷ K)) (lifted_pick (eqb t.kind dots) (goes [] (spread r t ∷ K)) nine)

past_selection : (r : ℕ) (K : List Sym) (t : Token) → Past (or_selection r K t (stop 9))
unfolding or_selection
past_selection r K t = search (past_pick, inl, inr) depth 14

lifted_first : (r s : ℕ) (K : List Sym) (t : Token) → Lifted (at_first_selection r s K t) (at_first_selection (suc r) s (lifts K) t)
lifted_first zero s K t = past (or_selection zero (selections zero s ∷ lifts K) t (stop 9)) (past_selection zero (selections zero s ∷ lifts K) t)
lifted_first (suc r) s K t = lifted_selection r (selections r s ∷ K) t

lifted_arguments : {m m' : Move} (r : ℕ) (K : List Sym) (t : Token) → Lifted m m' → Lifted (or_arguments r K t m) (or_arguments (suc r) (lifts K) t m')
unfolding or_arguments
lifted_arguments r K t p = lifted_pick (eqb t.kind paren_l) (goes (opens 18 t.start ∷ token_event t ∷ []) (first_argument r t.start ∷ K)) p

lifted_argument : (r s : ℕ) (K : List Sym) (t : Token) → Lifted (or_argument r s K t (stop 9)) (or_argument (suc r) s (lifts K) t (stop 9))
unfolding or_argument
lifted_argument r s K t = lifted_pick (is_name t.kind) (goes (opens 19 t.start ∷ name_events t) (colon_due ∷ value r ∷ close 19 t.start ∷ arguments r s ∷ K)) nine

lifted_directive : {m m' : Move} (es : List Item) (r s : ℕ) (K : List Sym) (t : Token) → Lifted m m' → Lifted (or_directive es r s K t m) (or_directive es (suc r) s (lifts K) t m')
unfolding or_directive
lifted_directive es r s K t p =
    lifted_pick (eqb t.kind at) (goes (es ++ (opens 21 t.start ∷ token_event t ∷ [])) (name ∷ opt_arguments r ∷ close 21 t.start ∷ directives r s ∷ K)) p

lifted_spread : (r : ℕ) (d : Token) (K : List Sym) (t : Token) → Lifted (at_spread r d K t) (at_spread (suc r) d (lifts K) t)
unfolding at_spread
lifted_spread r d K t =
    lifted_pick (is_fragment_name t.kind)
    (goes (opens 22 d.start ∷ token_event d ∷ opens 23 t.start ∷ (name_events t ++ (closes 23 t.start (end_of t) ∷ []))) (opt_directives r ∷ close 22 d.start ∷ K))
    (lifted_also (opens 24 d.start ∷ token_event d ∷ [])
    (lifted_pick (eqb t.kind word_on)
    (goes (opens 25 t.start ∷ token_event t ∷ []) (named_type ∷ close 25 t.start ∷ opt_directives r ∷ selection_set r ∷ close 24 d.start ∷ K))
    (lifted_directive (opens 20 t.start ∷ []) r t.start (selection_set r ∷ close 24 d.start ∷ K) t (lifted_set r (close 24 d.start ∷ K) t nine))))

-- one step with one level more
pub lifted : (c : Bool) (l : ℕ) (K : List Sym) (t : Token) → Lifted (step c l K t) (step c l (lifts K) t)
unfolding step at_items at_fields at_name at_colon at_named_type at_selections at_arguments
lifted c l [] t = lifted_pick (eqb t.kind eof) (halts []) nine
lifted c l (value r ∷ K) t = lifted_value c r K t
lifted c l (deeper r ∷ K) t = lifted_deeper c r K t
lifted c l (items r s ∷ K) t =
    lifted_pick (eqb t.kind bracket_r) (goes (token_event t ∷ closes 8 s (end_of t) ∷ []) K) (lifted_pick (eqb t.kind eof) nine (lifted_deeper c r (items r s ∷ K) t))
lifted c l (fields r s ∷ K) t =
    lifted_pick (eqb t.kind brace_r) (goes (token_event t ∷ closes 9 s (end_of t) ∷ []) K)
    (lifted_pick (is_name t.kind) (goes (opens 10 t.start ∷ name_events t) (colon_due ∷ deeper r ∷ close 10 t.start ∷ fields r s ∷ K)) nine)
lifted c l (name ∷ K) t = lifted_pick (is_name t.kind) (goes (name_events t) K) nine
lifted c l (colon_due ∷ K) t = lifted_pick (eqb t.kind colon) (goes (token_event t ∷ []) K) nine
lifted c l (close n s ∷ K) t = lifted_also (closes n s l ∷ []) (lifted c l K t)
lifted c l (selection_set r ∷ K) t = lifted_set r K t nine
lifted c l (opt_selection_set r ∷ K) t = lifted_set r K t (lifted c l K t)
lifted c l (first_selection r s ∷ K) t = lifted_first r s K t
lifted c l (selections r s ∷ K) t = lifted_pick (eqb t.kind brace_r) (goes (token_event t ∷ closes 15 s (end_of t) ∷ []) K) (lifted_selection r (selections r s ∷ K) t)
lifted c l (named r n ∷ K) t =
    let s : ℕ = n.start in
    lifted_pick (eqb t.kind colon)
    (goes (opens 16 s ∷ opens 17 s ∷ (name_events n ++ (token_event t ∷ closes 17 s (end_of t) ∷ []))) (name ∷ after_name r s K))
    (lifted_also (opens 16 s ∷ name_events n)
    (lifted_arguments r (opt_directives r ∷ opt_selection_set r ∷ close 16 s ∷ K) t
    (lifted_directive (opens 20 t.start ∷ []) r t.start (opt_selection_set r ∷ close 16 s ∷ K) t
    (lifted_set r (close 16 s ∷ K) t (lifted_also (closes 16 s l ∷ []) (lifted c l K t))))))
lifted c l (spread r d ∷ K) t = lifted_spread r d K t
lifted c l (opt_arguments r ∷ K) t = lifted_arguments r K t (lifted c l K t)
lifted c l (first_argument r s ∷ K) t = lifted_argument r s K t
lifted c l (arguments r s ∷ K) t = lifted_pick (eqb t.kind paren_r) (goes (token_event t ∷ closes 18 s (end_of t) ∷ []) K) (lifted_argument r s K t)
lifted c l (opt_directives r ∷ K) t = lifted_directive (opens 20 t.start ∷ []) r t.start K t (lifted c l K t)
lifted c l (directives r s ∷ K) t = lifted_directive [] r s K t (lifted_also (closes 20 s l ∷ []) (lifted c l K t))
lifted c l (named_type ∷ K) t = lifted_pick (is_name t.kind) (goes (opens 12 t.start ∷ (name_events t ++ (closes 12 t.start (end_of t) ∷ []))) K) nine

-- ---- the run

-- an answer that is no refusal with 7
abbrev pub NotSeven : Read → Type 0
NotSeven (refused n p) = n ≡ 7 → ⊥
NotSeven (accepted es) = Unit {0}

not_seven_emits : (es : List Item) (a : Read) → NotSeven (emits es a) → NotSeven a
not_seven_emits es (refused n p) h = h
not_seven_emits es (accepted fs) h = h

lifted_moved : {m m' : Move} (p : ℕ) (k : List Sym → Read) → Lifted m m' → ((K : List Sym) → NotSeven (k K) → k (lifts K) ≡ k K) → NotSeven (moved m p k) → moved m' p k ≡ moved m p k
lifted_moved p k (goes es K) ih h = ap (emits es) (ih K (not_seven_emits es (k K) h))
lifted_moved p k (halts es) ih h = refl
lifted_moved p k (stays n e) ih h = refl
lifted_moved p k (past m e) ih h = absurd (h refl)

-- one level more changes no answer other than 7
pub lifted_run : (c : Bool) (ts : List Token) (K : List Sym) (l : ℕ) → NotSeven (run c K l ts) → run c (lifts K) l ts ≡ run c K l ts
unfolding run
lifted_run c [] K l h = refl
lifted_run c (t ∷ ts) K l h = lifted_moved t.start (λ K'. run c K' (end_of t) ts) (lifted c l K t) (λ K' h'. lifted_run c ts K' (end_of t) h') h

-- ---- types

abbrev NotSevenType : TypeRead → Type 0
NotSevenType (typed es e ts) = Unit {0}
NotSevenType (untyped n p) = n ≡ 7 → ⊥

not_seven_bracket : (b : Token) (x : TypeRead) → NotSevenType (with_bracket b x) → NotSevenType x
unfolding with_bracket
not_seven_bracket b (typed es e ts) h = tt
not_seven_bracket b (untyped n p) h = h

not_seven_depth : {A : Type 0} (ts : List Token) (e : ℕ) → NotSevenType (no_depth ts e) → A
not_seven_depth [] e h = absurd (h refl)
not_seven_depth (t ∷ ts) e h = absurd (h refl)

pick_same : (b : Bool) (x y z : TypeRead) → (NotSevenType y → z ≡ y) → NotSevenType (pick b x y) → pick b x z ≡ pick b x y
pick_same true x y z f h = refl
pick_same false x y z f h = f h

pick_first : (b : Bool) (x y z : TypeRead) → (NotSevenType y → z ≡ y) → NotSevenType (pick b y x) → pick b z x ≡ pick b y x
pick_first true x y z f h = f h
pick_first false x y z f h = refl

-- a name with its `!`, or none
abbrev named_type_lem : Token → List Token → TypeRead
named_type_lem t ts = with_bang t.start (opens 12 t.start ∷ (name_events t ++ (closes 12 t.start (end_of t) ∷ []))) (end_of t) ts

-- one level more changes no type's reading other than 7
pub type_lifted : (r : ℕ) (ts : List Token) → NotSevenType (type_at r ts) → type_at (suc r) ts ≡ type_at r ts
unfolding type_at
type_lifted zero [] h = refl
type_lifted (suc r) [] h = refl
type_lifted zero (t ∷ ts) h =
    let y = no_depth ts (end_of t) in
    let z = with_bracket t (type_at zero ts) in
    pick_same (is_name t.kind) (named_type_lem t ts) (pick (eqb t.kind bracket_l) y (untyped 9 t.start)) (pick (eqb t.kind bracket_l) z (untyped 9 t.start))
    (pick_first (eqb t.kind bracket_l) (untyped 9 t.start) y z (λ k. not_seven_depth ts (end_of t) k)) h
type_lifted (suc r) (t ∷ ts) h =
    let y = with_bracket t (type_at r ts) in
    let z = with_bracket t (type_at (suc r) ts) in
    pick_same (is_name t.kind) (named_type_lem t ts) (pick (eqb t.kind bracket_l) y (untyped 9 t.start)) (pick (eqb t.kind bracket_l) z (untyped 9 t.start))
    (pick_first (eqb t.kind bracket_l) (untyped 9 t.start) y z (λ k. ap (with_bracket t) (type_lifted r ts (not_seven_bracket t (type_at r ts) k)))) h

not_seven_whole : (x : TypeRead) → NotSeven (whole_type x) → NotSevenType x
unfolding whole_type
not_seven_whole (untyped n p) h = h
not_seven_whole (typed es e ts) h = tt

-- ---- the entries

-- a reading that one level more does not change is not changed by more
raise : (P : ℕ → Read) → ((d : ℕ) → NotSeven (P d) → P (suc d) ≡ P d) → (k d : ℕ) → NotSeven (P d) → P (d + k) ≡ P d
raise P f zero d h = rw (add-zero d)
raise P f (suc k) d h = let e = raise P f k d h in rw (add-suc d k) (f (d + k) (rw e h) ∙ e)

raised : (P : ℕ → Read) → ((d : ℕ) → NotSeven (P d) → P (suc d) ≡ P d) → (d d' : ℕ) → d ≤ d' → NotSeven (P d) → P d' ≡ P d
raised P f d d' h n = let e : d' ≡ d + (d' - d) = omega arith in ap P e ∙ raise P f (d' - d) d n

-- a larger limit changes no answer other than 7: values of either constness
pub value_raised : (c : Bool) (d d' : ℕ) (ts : List Token) → d ≤ d' → NotSeven (run c (value d ∷ []) 0 ts) → run c (value d' ∷ []) 0 ts ≡ run c (value d ∷ []) 0 ts
value_raised c d d' ts h n = raised (λ (r : ℕ). run c (value r ∷ []) 0 ts) (λ r k. lifted_run c ts (value r ∷ []) 0 k) d d' h n

-- values
pub read_value_raised : (d d' : ℕ) (ts : List Token) → d ≤ d' → NotSeven (read_value d ts) → read_value d' ts ≡ read_value d ts
read_value_raised d d' ts h n = value_raised false d d' ts h n

-- constants
pub read_constant_raised : (d d' : ℕ) (ts : List Token) → d ≤ d' → NotSeven (read_constant d ts) → read_constant d' ts ≡ read_constant d ts
read_constant_raised d d' ts h n = value_raised true d d' ts h n

-- selection sets
pub read_selection_set_raised : (d d' : ℕ) (ts : List Token) → d ≤ d' → NotSeven (read_selection_set d ts) → read_selection_set d' ts ≡ read_selection_set d ts
read_selection_set_raised d d' ts h n = raised (λ (r : ℕ). read_selection_set r ts) (λ r k. lifted_run false ts (selection_set r ∷ []) 0 k) d d' h n

-- types
pub read_type_raised : (d d' : ℕ) (ts : List Token) → d ≤ d' → NotSeven (read_type d ts) → read_type d' ts ≡ read_type d ts
read_type_raised d d' ts h n = raised (λ (r : ℕ). read_type r ts) (λ r k. ap whole_type (type_lifted r ts (not_seven_whole (type_at r ts) k))) d d' h n
