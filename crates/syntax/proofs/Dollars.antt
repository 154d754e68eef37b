-- Each `$` where a value may stand in a constant is an 8: where, within the depth limit, a constant could go on with an Int, a `$` in its place is
-- refused with 8. Assumes nothing.
use Prim.Native.Nat.{ℕ, zero, suc, ◌≤◌}
use native.Mathlib.Omega.{arith}
use mathlib.Core.Path.{◌≡◌, refl, sym, ap, ◌∙◌}
use mathlib.Core.Bool.{Bool, true}
use mathlib.Core.List.{List, [], ◌∷◌, ◌++◌, append_assoc, append-nil}
use borrow.Author.Tests.{eq-eqb}
use Rattle.base.specs.Item.{Item}
use Rattle.codes.specs.EventCodes as nodes
use Rattle.syntax.specs.Token.{eof, dollar, int, is_name, is_enum, is_fragment_name, Token, token, end_of, opens, closes, name_events}
use Rattle.syntax.specs.Grammar.{Span, of, Value, value_tokens, value_events, value_depth}
use Rattle.syntax.specs.Machine.{Sym, value, deeper, items, fields, name, colon_due, close, selection_set, opt_selection_set, first_selection, selections, named, spread, opt_arguments, first_argument, arguments, opt_directives, directives, named_type, Move, go, stop, halt, also, at_value, at_items, at_fields, at_name, at_colon, at_named_type, or_selection_set, or_selection, at_selections, or_arguments, or_argument, at_arguments, or_directive, at_spread, step, refused, accepted, emits, run, read_constant}
use Rattle.syntax.proofs.Steps.{emits_emits, emits_none, emits_accepted}
use Rattle.syntax.proofs.Sound.{sound, eof_sound, NoEof}
use Rattle.syntax.proofs.Forms.{tokens_of}
use Rattle.syntax.proofs.ValueComplete.{value_accepted}

-- what a step makes of an Int, and of a `$` in its place: the Int is taken and the `$` is an 8, or both are a 7, or the Int is a 9
data Instead : Move → Move → Type 0 where
  eight : {es : List Item} {K : List Sym} → Instead (go es K) (stop 8)
  seven : Instead (stop 7) (stop 7)
  nine : {m : Move} → Instead (stop 9) m

instead_also : (es : List Item) {m m' : Move} → Instead m m' → Instead (also es m) (also es m')
instead_also es eight = eight
instead_also es seven = seven
instead_also es nine = nine

instead : (l : ℕ) (K : List Sym) (s : Span) (a b : ℕ) → Instead (step true l K (of int s)) (step true l K (token dollar a b))
unfolding step at_value at_items at_fields at_name at_colon at_named_type or_selection_set or_selection at_selections or_arguments or_argument at_arguments or_directive at_spread is_name is_enum is_fragment_name
instead l [] s a b = nine
instead l (value r ∷ K) s a b = eight
instead l (deeper zero ∷ K) s a b = seven
instead l (deeper (suc r) ∷ K) s a b = eight
instead l (items zero q ∷ K) s a b = seven
instead l (items (suc r) q ∷ K) s a b = eight
instead l (fields r q ∷ K) s a b = nine
instead l (name ∷ K) s a b = nine
instead l (colon_due ∷ K) s a b = nine
instead l (close n q ∷ K) s a b = instead_also (closes n q l ∷ []) (instead l K s a b)
instead l (selection_set r ∷ K) s a b = nine
instead l (opt_selection_set r ∷ K) s a b = instead l K s a b
instead l (first_selection zero q ∷ K) s a b = seven
instead l (first_selection (suc r) q ∷ K) s a b = nine
instead l (selections r q ∷ K) s a b = nine
instead l (named r n ∷ K) s a b =
    instead_also (opens nodes.field n.start ∷ name_events n) (instead_also (closes nodes.field n.start l ∷ []) (instead l K s a b))
instead l (spread r d ∷ K) s a b = nine
instead l (opt_arguments r ∷ K) s a b = instead l K s a b
instead l (first_argument r q ∷ K) s a b = nine
instead l (arguments r q ∷ K) s a b = nine
instead l (opt_directives r ∷ K) s a b = instead l K s a b
instead l (directives r q ∷ K) s a b = instead_also (closes nodes.directives q l ∷ []) (instead l K s a b)
instead l (named_type ∷ K) s a b = nine

-- only Eof ends a reading
one_token : (t e : Token) (us vs : List Token) → t ∷ [] ≡ vs ++ (e ∷ us) → e.kind ≡ eof → t.kind ≡ eof
one_token t e us [] q k = let z : t ≡ e = cc in ap (λ (u : Token). u.kind) z ∙ k
one_token t e us (v ∷ []) q k = absurd (let z : ◌≡◌ {A = ℕ} 0 1 = cc in omega arith)
one_token t e us (v ∷ w ∷ vs) q k = absurd (let z : ◌≡◌ {A = ℕ} 0 1 = cc in omega arith)

halts_eof : (c : Bool) (l : ℕ) (K : List Sym) (t : Token) (es : List Item) → step c l K t ≡ halt es → t.kind ≡ eof
unfolding run
halts_eof c l K t es h =
    let r = sound c (t ∷ []) K [] l es (rw (append-nil K, h)) in
    let x = eof_sound c _ r.rest r.others r.goes in
    one_token t x.0 x.1 (tokens_of r.forms) (r.tokens ∙ ap (λ (vs : List Token). tokens_of r.forms ++ vs) x.2) x.3

-- the tokens us are read, and leave something due, whatever follows them
record Reach (K : List Sym) (l : ℕ) (us : List Token) : Type 0 where
  due : List Sym
  end : ℕ
  given : List Item
  all : (ws : List Token) → run true K l (us ++ ws) ≡ emits given (run true due end ws)

reach_step : (u : Token) (us : List Token) (K : List Sym) (l : ℕ) (ws : List Token) (es : List Item) → NoEof (u ∷ us) → run true K l (u ∷ (us ++ ws)) ≡ accepted es
    → ((K' : List Sym) (l' : ℕ) (fs : List Item) → run true K' l' (us ++ ws) ≡ accepted fs → Reach K' l' us) → (m : Move) → step true l K u ≡ m → Reach K l (u ∷ us)
unfolding run
reach_step u us K l ws es n h f (go fs K') e =
    let x = emits_accepted (run true K' (end_of u) (us ++ ws)) fs es (rw e at h) in
    let r = f K' (end_of u) x.0 x.1 in
    record { due = r.due; end = r.end; given = fs ++ r.given; all = λ vs. rw (e, r.all vs) (emits_emits fs r.given (run true r.due r.end vs)) }
reach_step u us K l ws es n h f (stop k) e = absurd (let z : ◌≡◌ {A = ℕ} 0 1 = (let q = rw e at h in cc) in omega arith)
reach_step u us K l ws es n h f (halt fs) e =
    absurd (let z : ◌≡◌ {A = ℕ} 0 1 = (let q = eq-eqb u.kind eof (halts_eof true l K u fs e) in let p = n.0 in cc) in omega arith)

reach : (us : List Token) (K : List Sym) (l : ℕ) (ws : List Token) (es : List Item) → NoEof us → run true K l (us ++ ws) ≡ accepted es → Reach K l us
unfolding run
reach [] K l ws es n h = record { due = K; end = l; given = []; all = λ vs. sym (emits_none (run true K l vs)) }
reach (u ∷ us) K l ws es n h = reach_step u us K l ws es n h (λ K' l' fs g. reach us K' l' ws fs n.1 g) (step true l K u) refl

-- us stand before the `$`, and some constant within the limit has an Int there
pub each_dollar : (d : ℕ) (us : List Token) → NoEof us → (x : Value true) (s : Span) (rest : List Token) → value_depth x ≤ d → value_tokens x ≡ us ++ (of int s ∷ rest)
    → (a b : ℕ) (ws : List Token) → read_constant d (us ++ (token dollar a b ∷ ws)) ≡ refused 8 a
unfolding run
each_dollar d us n x s rest l q a b ws = r.all (token dollar a b ∷ ws) ∙ by_move (instead r.end r.due s a b) refl refl
  where
    e : Token
    e = token eof 0 0

    whole : run true (value d ∷ []) 0 (us ++ (of int s ∷ (rest ++ (e ∷ [])))) ≡ accepted (value_events x)
    whole = ap (run true (value d ∷ []) 0) (sym (append_assoc us (of int s ∷ rest) (e ∷ [])) ∙ ap (λ (ts : List Token). ts ++ (e ∷ [])) (sym q)) ∙ value_accepted d x e [] l refl

    r : Reach (value d ∷ []) 0 us
    r = reach us (value d ∷ []) 0 (of int s ∷ (rest ++ (e ∷ []))) (value_events x) n whole

    taken : emits r.given (run true r.due r.end (of int s ∷ (rest ++ (e ∷ [])))) ≡ accepted (value_events x)
    taken = sym (r.all (of int s ∷ (rest ++ (e ∷ [])))) ∙ whole

    by_move : {m m' : Move} → Instead m m' → step true r.end r.due (of int s) ≡ m → step true r.end r.due (token dollar a b) ≡ m'
        → emits r.given (run true r.due r.end (token dollar a b ∷ ws)) ≡ refused 8 a
    by_move eight f g = rw g
    by_move seven f g = absurd (let z : ◌≡◌ {A = ℕ} 0 1 = (let t = rw f at taken in cc) in omega arith)
    by_move nine f g = absurd (let z : ◌≡◌ {A = ℕ} 0 1 = (let t = rw f at taken in cc) in omega arith)
