-- The place of a refusal: the tokens before it begin a sentence, and with the token there they begin none (9), none within the limit (7), or
-- none that is constant (8). Assumes nothing.
use Prim.Native.Nat.{ℕ, zero, suc, ◌≤◌, max}
use native.Mathlib.Omega.{arith}
use mathlib.Core.Path.{◌≡◌, refl, sym, ap, ap₂, ◌∙◌, subst}
use mathlib.Core.Bool.{Bool, true, false}
use mathlib.Core.Logic.{◌⊎◌, inl, inr}
use mathlib.Core.List.{List, [], ◌∷◌, ◌++◌, append_assoc, append-nil}
use lib.Dec.{eqb}
use borrow.Author.Tests.{eqb-true}
use Rattle.base.specs.Text.{pick}
use Rattle.base.specs.Item.{Item}
use Rattle.syntax.specs.Token.{eof, dollar, colon, at, paren_l, bracket_r, brace_l, int, word_on, is_name, is_enum, is_fragment_name, Token, token, end_of, token_event, opens, closes, name_events}
use Rattle.syntax.specs.Grammar.{Span, of, Word, Name, FragmentWord, Value, int_value, no_value, no_field, a_value as an_item, value_tokens, values_tokens, value_events, value_depth}
use Rattle.syntax.specs.Selections as trees
use Rattle.syntax.specs.Selections.{one_argument, no_arguments, no_directives, no_alias, SelectionSet, one_selection, field, no_selection_set, set_tokens, set_events, set_depth}
use Rattle.syntax.specs.Machine.{Sym, value, deeper, items, fields, name, colon_due, close, selection_set, opt_selection_set, first_selection, selections, named, spread, opt_arguments, first_argument, arguments, opt_directives, directives, named_type, Move, go, stop, halt, also, at_value, at_deeper, at_items, at_fields, at_name, at_colon, at_named_type, or_selection_set, or_selection, at_first_selection, at_selections, after_name, or_arguments, or_argument, at_arguments, or_directive, or_directives, at_spread, step, Read, refused, accepted, emits, moved, run, read_selection_set}
use Rattle.syntax.proofs.Steps.{emits_emits, emits_none, emits_refused, join_first}
use Rattle.syntax.proofs.ValueComplete.{value_accepted}
use Rattle.syntax.proofs.SetComplete.{set_complete}
use Rattle.syntax.proofs.Forms.{no_more, Form, a_value, a_deeper, an_items, a_fields, a_name, a_colon, a_close, a_set, an_opt_set, a_first, a_selections, a_plain, a_fragment, an_opt_arguments, a_first_argument, an_arguments, an_opt_directives, a_directives, a_type, form_tokens, Forms, none, form, tokens_of}
use Rattle.syntax.proofs.Back.{Back, takes, refuses, passes}
use Rattle.syntax.proofs.BackSets.{back}
use Rattle.syntax.proofs.Depth.{lifts, Past, Lifted, goes, halts, stays, past, lifted, NotSeven, value_raised, read_selection_set_raised}

-- ---- Eof is never taken

abbrev NoGo : Move → Type 0
NoGo (go es K) = ⊥
NoGo (stop n) = Unit {0}
NoGo (halt es) = Unit {0}

no_go_also : (es : List Item) (m : Move) → NoGo m → NoGo (also es m)
no_go_also es (go fs K) h = h
no_go_also es (stop n) h = tt
no_go_also es (halt fs) h = tt

eof_stays : (c : Bool) (l : ℕ) (K : List Sym) (s : Span) → NoGo (step c l K (of eof s))
unfolding step at_value at_items at_fields at_name at_colon at_named_type or_selection_set or_selection at_selections or_arguments or_argument at_arguments or_directive at_spread is_name is_enum is_fragment_name
eof_stays c l [] s = tt
eof_stays c l (value r ∷ K) s = tt
eof_stays c l (deeper zero ∷ K) s = tt
eof_stays c l (deeper (suc r) ∷ K) s = tt
eof_stays c l (items r q ∷ K) s = tt
eof_stays c l (fields r q ∷ K) s = tt
eof_stays c l (name ∷ K) s = tt
eof_stays c l (colon_due ∷ K) s = tt
eof_stays c l (close n q ∷ K) s = no_go_also (closes n q l ∷ []) (step c l K (of eof s)) (eof_stays c l K s)
eof_stays c l (selection_set r ∷ K) s = tt
eof_stays c l (opt_selection_set r ∷ K) s = eof_stays c l K s
eof_stays c l (first_selection zero q ∷ K) s = tt
eof_stays c l (first_selection (suc r) q ∷ K) s = tt
eof_stays c l (selections r q ∷ K) s = tt
eof_stays c l (named r n ∷ K) s =
    no_go_also (opens 16 n.start ∷ name_events n) (also (closes 16 n.start l ∷ []) (step c l K (of eof s))) (no_go_also (closes 16 n.start l ∷ []) (step c l K (of eof s)) (eof_stays c l K s))
eof_stays c l (spread r d ∷ K) s = tt
eof_stays c l (opt_arguments r ∷ K) s = eof_stays c l K s
eof_stays c l (first_argument r q ∷ K) s = tt
eof_stays c l (arguments r q ∷ K) s = tt
eof_stays c l (opt_directives r ∷ K) s = eof_stays c l K s
eof_stays c l (directives r q ∷ K) s = no_go_also (closes 20 q l ∷ []) (step c l K (of eof s)) (eof_stays c l K s)
eof_stays c l (named_type ∷ K) s = tt

eof_untaken : {A : Type 0} (c : Bool) (l : ℕ) (K K' : List Sym) (t : Token) (es : List Item) → t.kind ≡ eof → step c l K t ≡ go es K' → A
eof_untaken c l K K' t es h e =
    let s : Span = record { start = t.start; size = t.size } in
    let q : t ≡ of eof s = ap (λ (j : ℕ). token j t.start t.size) h in
    absurd (subst NoGo e (subst (λ (u : Token). NoGo (step c l K u)) (sym q) (eof_stays c l K s)))

-- the last token is Eof
abbrev pub EndsEof : List Token → Type 0
EndsEof [] = ⊥
EndsEof (t ∷ []) = t.kind ≡ eof
EndsEof (t ∷ u ∷ ts) = EndsEof (u ∷ ts)

-- ---- one step back, over the whole stack

-- with nothing due no token is taken
nothing_due : (c : Bool) (l : ℕ) (t : Token) (es fs : List Item) (K : List Sym) → go es K ≡ also fs (step c l [] t) → ⊥
unfolding step
nothing_due c l t es fs K e = by_eof (eqb t.kind eof) e
  where
    by_eof : (b : Bool) → go es K ≡ also fs (pick b (halt []) (stop 9)) → ⊥
    by_eof true e = let z : ◌≡◌ {A = ℕ} 0 1 = cc in omega arith
    by_eof false e = let z : ◌≡◌ {A = ℕ} 0 1 = cc in omega arith

step_back : (c : Bool) (l : ℕ) (t : Token) (K K' : List Sym) (es : List Item) → step c l K t ≡ go es K' → (F : Forms c K') → (G : Forms c K) × (tokens_of G ≡ t ∷ tokens_of F)
step_back c l t K K' es e F = by_back (rw append-nil at (back c l t K []))
  where
    by_back : Back c l t K [] (step c l K t) → (G : Forms c K) × (tokens_of G ≡ t ∷ tokens_of F)
    by_back (takes fs Q p b) =
        let q : Q ≡ K' = sym (append-nil Q) ∙ (let z : Q ++ [] ≡ K' = cc in z) in
        let w = (rw q at b) F in
        (w.0, w.1)
    by_back (refuses n p) = absurd (let z : ◌≡◌ {A = ℕ} 0 1 = cc in omega arith)
    by_back (passes fs p G a b) = absurd (nothing_due c l t es fs K' (sym e ∙ p))

-- a token that is taken is taken with one level more too
lift_go : {m m' : Move} (es : List Item) (K : List Sym) → Lifted m m' → m ≡ go es K → m' ≡ go es (lifts K)
lift_go es K (goes fs L) e = let f : fs ≡ es = cc in let g : L ≡ K = cc in ap₂ (λ (gs : List Item) (M : List Sym). go gs (lifts M)) f g
lift_go es K (halts fs) e = cc
lift_go es K (stays n h) e = cc
lift_go es K (past m h) e = cc

-- ---- where a reading is refused

-- the tokens before the place are read, and leave something due; the token there is refused, whatever follows it
pub record Refusal (c : Bool) (K : List Sym) (l : ℕ) (ts : List Token) (n p : ℕ) : Type 0 where
  pub before : List Token
  pub here : Token
  pub after : List Token
  pub tokens : ts ≡ before ++ (here ∷ after)
  pub place : here.start ≡ p
  pub due : List Sym
  pub end : ℕ
  pub given : List Item
  pub stops : step c end due here ≡ stop n
  -- the tokens before the place lead there, whatever follows them
  pub reach : (ws : List Token) → run c K l (before ++ ws) ≡ emits given (run c due end ws)
  -- so they do with one level more
  pub reach_more : (ws : List Token) → run c (lifts K) l (before ++ ws) ≡ emits given (run c (lifts due) end ws)
  -- trees of what is due make trees of what was due
  pub begins : (F : Forms c (lifts due)) → (G : Forms c (lifts K)) × (tokens_of G ≡ before ++ tokens_of F)

refusal_step : (c : Bool) (K : List Sym) (l : ℕ) (t : Token) (ts : List Token) (n p : ℕ) (m : Move) → step c l K t ≡ m
    → ((es : List Item) (K' : List Sym) → m ≡ go es K' → run c K' (end_of t) ts ≡ refused n p → Refusal c K' (end_of t) ts n p)
    → moved m t.start (λ K'. run c K' (end_of t) ts) ≡ refused n p → Refusal c K l (t ∷ ts) n p
unfolding run
refusal_step c K l t ts n p (go es K') e ih a =
    let s = ih es K' refl (emits_refused (run c K' (end_of t) ts) es n p a) in
    let f = lift_go es K' (lifted c l K t) e in
    record {
      before = t ∷ s.before;
      here = s.here;
      after = s.after;
      tokens = ap (λ (us : List Token). t ∷ us) s.tokens;
      place = s.place;
      due = s.due;
      end = s.end;
      given = es ++ s.given;
      stops = s.stops;
      reach = λ ws. rw e (ap (emits es) (s.reach ws) ∙ emits_emits es s.given (run c s.due s.end ws));
      reach_more = λ ws. rw f (ap (emits es) (s.reach_more ws) ∙ emits_emits es s.given (run c (lifts s.due) s.end ws));
      begins =
          λ F.
          let w = s.begins F in
          let v = step_back c l t (lifts K) (lifts K') es f w.0 in
          (v.0, v.1 ∙ ap (λ (us : List Token). t ∷ us) w.1);
    }
refusal_step c K l t ts n p (stop k) e ih a =
    let q : k ≡ n = cc in
    let r : t.start ≡ p = cc in
    record {
      before = [];
      here = t;
      after = ts;
      tokens = refl;
      place = r;
      due = K;
      end = l;
      given = [];
      stops = e ∙ ap stop q;
      reach = λ ws. sym (emits_none (run c K l ws));
      reach_more = λ ws. sym (emits_none (run c (lifts K) l ws));
      begins = λ F. (F, refl);
    }
refusal_step c K l t ts n p (halt es) e ih a = absurd (let z : ◌≡◌ {A = ℕ} 0 1 = cc in omega arith)

-- every refusal of a token list whose last is Eof has its place at a token
pub refusal : (c : Bool) (ts : List Token) (K : List Sym) (l n p : ℕ) → EndsEof ts → run c K l ts ≡ refused n p → Refusal c K l ts n p
unfolding run
refusal c [] K l n p h a = absurd h
refusal c (t ∷ []) K l n p h a = refusal_step c K l t [] n p (step c l K t) refl (λ es K' e b. eof_untaken c l K K' t es h e) a
refusal c (t ∷ u ∷ ts) K l n p h a = refusal_step c K l t (u ∷ ts) n p (step c l K t) refl (λ es K' e b. refusal c (u ∷ ts) K' (end_of t) n p h b) a

-- ---- what is due can be given

abbrev a_span : Span
a_span = record { start = 0; size = 0 }

abbrev any_name : Name
any_name = record { word = Word.other; span = a_span }

-- with one level more, there is a tree for everything that is due
pub least : (c : Bool) (K : List Sym) → Forms c (lifts K)
least c [] = none
least c (value r ∷ K) = form (a_value {r = suc r} (int_value a_span) (omega arith)) (least c K)
least c (deeper r ∷ K) = form (a_deeper {r = suc r} (int_value a_span) (omega arith)) (least c K)
least c (items r s ∷ K) = form (an_items {r = suc r} no_value a_span (omega arith)) (least c K)
least c (fields r s ∷ K) = form (a_fields {r = suc r} no_field a_span (omega arith)) (least c K)
least c (name ∷ K) = form (a_name any_name) (least c K)
least c (colon_due ∷ K) = form (a_colon a_span) (least c K)
least c (close n s ∷ K) = form a_close (least c K)
least c (selection_set r ∷ K) =
    form (a_set {r = suc r} (trees.selection_set a_span (one_selection (field no_alias any_name no_arguments no_directives no_selection_set)) a_span) (omega arith)) (least c K)
least c (opt_selection_set r ∷ K) = form (an_opt_set {r = suc r} no_selection_set (omega arith)) (least c K)
least c (first_selection r s ∷ K) = form (a_first {r = suc r} (one_selection (field no_alias any_name no_arguments no_directives no_selection_set)) a_span (omega arith)) (least c K)
least c (selections r s ∷ K) = form (a_selections {r = suc r} no_more a_span (omega arith)) (least c K)
least c (named r n ∷ K) = form (a_plain {r = suc r} no_arguments no_directives no_selection_set (omega arith) (omega arith) (omega arith)) (least c K)
least c (spread r d ∷ K) = form (a_fragment {r = suc r} FragmentWord.other a_span no_directives (omega arith)) (least c K)
least c (opt_arguments r ∷ K) = form (an_opt_arguments {r = suc r} no_arguments (omega arith)) (least c K)
least c (first_argument r s ∷ K) = form (a_first_argument {r = suc r} (one_argument (record { name = any_name; colon_at = a_span; value = int_value a_span })) a_span (omega arith)) (least c K)
least c (arguments r s ∷ K) = form (an_arguments {r = suc r} no_more a_span (omega arith)) (least c K)
least c (opt_directives r ∷ K) = form (an_opt_directives {r = suc r} no_directives (omega arith)) (least c K)
least c (directives r s ∷ K) = form (a_directives {r = suc r} no_more (omega arith)) (least c K)
least c (named_type ∷ K) = form (a_type any_name) (least c K)

-- the refusal rests on the tokens up to its place alone
pub alone : {c : Bool} {K : List Sym} {l n p : ℕ} {ts : List Token} (r : Refusal c K l ts n p) (ws : List Token) → run c K l (r.before ++ (r.here ∷ ws)) ≡ refused n p
unfolding run
alone {n = n} r ws = r.reach (r.here ∷ ws) ∙ rw (r.stops, r.place)

-- what is refused is not accepted
pub not_accepted : (a : Read) (n p : ℕ) (es : List Item) → a ≡ refused n p → a ≡ accepted es → ⊥
not_accepted a n p es e f = let z : ◌≡◌ {A = ℕ} 0 1 = cc in omega arith

-- ---- 7: with one level more

past_seven : {m m' : Move} → Lifted m m' → m ≡ stop 7 → Past m'
past_seven (goes es K) e = tt
past_seven (halts es) e = tt
past_seven (stays n h) e = h
past_seven (past m h) e = h

-- the reading with one level more goes past the place p, or is refused there with 8 or 9
pub data Further (c : Bool) (K : List Sym) (l : ℕ) (ts : List Token) (p : ℕ) : Type 0 where
  goes_past : (es : List Item) (K' : List Sym) (before after : List Token) (here : Token) → ts ≡ before ++ (here ∷ after) → here.start ≡ p
      → run c (lifts K) l ts ≡ emits es (run c K' (end_of here) after) → Further c K l ts p
  is_done : (es : List Item) → run c (lifts K) l ts ≡ accepted es → Further c K l ts p
  refused_there : (n : ℕ) → (n ≡ 8) ⊎ (n ≡ 9) → run c (lifts K) l ts ≡ refused n p → Further c K l ts p

further_by : {c : Bool} {K : List Sym} {l p : ℕ} {ts : List Token} (r : Refusal c K l ts 7 p) (m : Move) → step c r.end (lifts r.due) r.here ≡ m → Past m → Further c K l ts p
unfolding run
further_by {c} {K} {l} {p} r (go es K') e h =
    goes_past (r.given ++ es) K' r.before r.after r.here r.tokens r.place
    (ap (run c (lifts K) l) r.tokens ∙ r.reach_more (r.here ∷ r.after) ∙ rw e (emits_emits r.given es (run c K' (end_of r.here) r.after)))
further_by {c} {K} {l} {p} r (stop k) e h =
    refused_there k h (ap (run c (lifts K) l) r.tokens ∙ r.reach_more (r.here ∷ r.after) ∙ rw (e, r.place))
further_by {c} {K} {l} {p} r (halt es) e h =
    is_done (r.given ++ es) (ap (run c (lifts K) l) r.tokens ∙ r.reach_more (r.here ∷ r.after) ∙ rw e)

-- at a 7, one level more helps past the place, or leaves an 8 or a 9 there
pub seven_further : {c : Bool} {K : List Sym} {l p : ℕ} {ts : List Token} (r : Refusal c K l ts 7 p) → Further c K l ts p
seven_further {c} r = further_by r (step c r.end (lifts r.due) r.here) refl (past_seven (lifted c r.end r.due r.here) r.stops)

-- ---- values

-- the tokens us begin the tokens of a value, of this depth at most
pub record BeginsValue (c : Bool) (d : ℕ) (us : List Token) : Type 0 where
  pub tree : Value c
  pub deep : value_depth tree ≤ d
  pub rest : List Token
  pub tokens : value_tokens tree ≡ us ++ rest

begins_value : (c : Bool) (d : ℕ) (us vs : List Token) → (G : Forms c (value d ∷ [])) → tokens_of G ≡ us ++ vs → BeginsValue c d us
begins_value c d us vs (form (a_value v h) none) e = record { tree = v; deep = h; rest = vs; tokens = sym (append-nil (value_tokens v)) ∙ e }

-- at any refusal: the tokens before the place begin a value, with one level more at most
pub viable_value : {c : Bool} {d n p : ℕ} {ts : List Token} (r : Refusal c (value d ∷ []) 0 ts n p) → BeginsValue c (suc d) r.before
viable_value {c} {d} r = let w = r.begins (least c r.due) in begins_value c (suc d) r.before (tokens_of (least c r.due)) w.0 w.1

-- so there is a continuation that is accepted, with one level more
pub goes_on_value : {c : Bool} {d n p : ℕ} {ts : List Token} (r : Refusal c (value d ∷ []) 0 ts n p) (e : Token) → e.kind ≡ eof
    → (ws : List Token) × (es : List Item) × (run c (value (suc d) ∷ []) 0 (r.before ++ (ws ++ (e ∷ []))) ≡ accepted es)
goes_on_value {c} {d} r e k =
    let b = viable_value r in (
      b.rest,
      value_events b.tree,
      ap (run c (value (suc d) ∷ []) 0) (sym (append_assoc r.before b.rest (e ∷ [])) ∙ ap (λ (us : List Token). us ++ (e ∷ [])) (sym b.tokens))
          ∙ value_accepted (suc d) b.tree e [] b.deep k,
    )

-- at a 9 or an 8: with the token there they begin none, whatever its depth
pub never_value : {c : Bool} {d n p : ℕ} {ts : List Token} (r : Refusal c (value d ∷ []) 0 ts n p) → (n ≡ 7 → ⊥)
    → (u : Value c) (e : Token) (vs ws : List Token) → e.kind ≡ eof → value_tokens u ++ (e ∷ vs) ≡ r.before ++ (r.here ∷ ws) → ⊥
never_value {c} {d} {n} {p} r k u e vs ws h q =
    let D = max d (value_depth u) in
    let a = alone r ws in
    let s : NotSeven (run c (value d ∷ []) 0 (r.before ++ (r.here ∷ ws))) = rw a k in
    not_accepted (run c (value D ∷ []) 0 (r.before ++ (r.here ∷ ws))) n p (value_events u)
    (value_raised c d D (r.before ++ (r.here ∷ ws)) (omega arith) s ∙ a)
    (ap (run c (value D ∷ []) 0) (sym q) ∙ value_accepted D u e vs (omega arith) h)

-- at any refusal: with the token there they begin none within the limit
pub never_within : {c : Bool} {d n p : ℕ} {ts : List Token} (r : Refusal c (value d ∷ []) 0 ts n p)
    → (u : Value c) (e : Token) (vs ws : List Token) → value_depth u ≤ d → e.kind ≡ eof → value_tokens u ++ (e ∷ vs) ≡ r.before ++ (r.here ∷ ws) → ⊥
never_within {c} {d} {n} {p} r u e vs ws g h q =
    not_accepted (run c (value d ∷ []) 0 (r.before ++ (r.here ∷ ws))) n p (value_events u) (alone r ws) (ap (run c (value d ∷ []) 0) (sym q) ∙ value_accepted d u e vs g h)

-- ---- selection sets

-- the tokens us begin the tokens of a selection set, of this depth at most
pub record BeginsSet (d : ℕ) (us : List Token) : Type 0 where
  pub tree : SelectionSet
  pub deep : set_depth tree ≤ d
  pub rest : List Token
  pub tokens : set_tokens tree ≡ us ++ rest

begins_set : (c : Bool) (d : ℕ) (us vs : List Token) → (G : Forms c (selection_set d ∷ [])) → tokens_of G ≡ us ++ vs → BeginsSet d us
begins_set c d us vs (form (a_set s h) none) e = record { tree = s; deep = h; rest = vs; tokens = sym (append-nil (set_tokens s)) ∙ e }

-- at any refusal: the tokens before the place begin a selection set, with one level more at most
pub viable_set : {d n p : ℕ} {ts : List Token} (r : Refusal false (selection_set d ∷ []) 0 ts n p) → BeginsSet (suc d) r.before
viable_set {d} r = let w = r.begins (least false r.due) in begins_set false (suc d) r.before (tokens_of (least false r.due)) w.0 w.1

-- so there is a continuation that is accepted, with one level more
pub goes_on_set : {d n p : ℕ} {ts : List Token} (r : Refusal false (selection_set d ∷ []) 0 ts n p) (e : Token) → e.kind ≡ eof
    → (ws : List Token) × (es : List Item) × (read_selection_set (suc d) (r.before ++ (ws ++ (e ∷ []))) ≡ accepted es)
goes_on_set {d} r e k =
    let b = viable_set r in (
      b.rest,
      set_events b.tree,
      ap (read_selection_set (suc d)) (sym (append_assoc r.before b.rest (e ∷ [])) ∙ ap (λ (us : List Token). us ++ (e ∷ [])) (sym b.tokens))
          ∙ set_complete (suc d) b.tree e [] b.deep k,
    )

-- at a 9: with the token there they begin none, whatever its depth
pub never_set : {d n p : ℕ} {ts : List Token} (r : Refusal false (selection_set d ∷ []) 0 ts n p) → (n ≡ 7 → ⊥)
    → (u : SelectionSet) (e : Token) (vs ws : List Token) → e.kind ≡ eof → set_tokens u ++ (e ∷ vs) ≡ r.before ++ (r.here ∷ ws) → ⊥
never_set {d} {n} {p} r k u e vs ws h q =
    let D = max d (set_depth u) in
    let a = alone r ws in
    let s : NotSeven (read_selection_set d (r.before ++ (r.here ∷ ws))) = rw a k in
    not_accepted (read_selection_set D (r.before ++ (r.here ∷ ws))) n p (set_events u)
    (read_selection_set_raised d D (r.before ++ (r.here ∷ ws)) (omega arith) s ∙ a)
    (ap (read_selection_set D) (sym q) ∙ set_complete D u e vs (omega arith) h)

-- at any refusal: with the token there they begin none within the limit
pub never_within_set : {d n p : ℕ} {ts : List Token} (r : Refusal false (selection_set d ∷ []) 0 ts n p)
    → (u : SelectionSet) (e : Token) (vs ws : List Token) → set_depth u ≤ d → e.kind ≡ eof → set_tokens u ++ (e ∷ vs) ≡ r.before ++ (r.here ∷ ws) → ⊥
never_within_set {d} {n} {p} r u e vs ws g h q =
    not_accepted (read_selection_set d (r.before ++ (r.here ∷ ws))) n p (set_events u) (alone r ws) (ap (read_selection_set d) (sym q) ∙ set_complete d u e vs g h)

-- ---- 8

-- an 8 stands at a `$`, in a constant; and an Int in its place would go on to trees of what is due, with one level more at most
pub record Dollar (c : Bool) (K : List Sym) (t : Token) : Type 0 where
  pub constant : c ≡ true
  pub sign : t.kind ≡ dollar
  pub instead : (s : Span) → (G : Forms c (lifts K)) × (rest : List Token) × (tokens_of G ≡ of int s ∷ rest)

data Eight (c : Bool) (K : List Sym) (t : Token) : Move → Type 0 where
  goes8 : {es : List Item} {K' : List Sym} → Eight c K t (go es K')
  halts8 : {es : List Item} → Eight c K t (halt es)
  seven8 : Eight c K t (stop 7)
  nine8 : Eight c K t (stop 9)
  dollar8 : Dollar c K t → Eight c K t (stop 8)

pick8 : {c : Bool} {K : List Sym} {t : Token} (b : Bool) (m n : Move) → Eight c K t m → Eight c K t n → Eight c K t (pick b m n)
pick8 true m n p q = p
pick8 false m n p q = q

also8 : {c : Bool} {K : List Sym} {t : Token} (es : List Item) (m : Move) → Eight c K t m → Eight c K t (also es m)
also8 es (go fs K') p = goes8
also8 es (stop n) p = p
also8 es (halt fs) p = halts8

-- what is due and may be missing
up8 : {c : Bool} {K L : List Sym} {t : Token} {m : Move} → ((G : Forms c (lifts K)) → (H : Forms c (lifts L)) × (tokens_of H ≡ tokens_of G)) → Eight c K t m → Eight c L t m
up8 f goes8 = goes8
up8 f halts8 = halts8
up8 f seven8 = seven8
up8 f nine8 = nine8
up8 f (dollar8 d) = dollar8 (record { constant = d.constant; sign = d.sign; instead = λ s. let w = d.instead s in let v = f w.0 in (v.0, w.1, v.1 ∙ w.2) })

dollar_due : (c : Bool) (r : ℕ) (K K' : List Sym) (t : Token) (es : List Item) → Eight c (value r ∷ K) t (pick (eqb t.kind dollar) (pick c (stop 8) (go es K')) (stop 9))
dollar_due true r K K' t es = by_sign (eqb t.kind dollar) refl
  where
    by_sign : (b : Bool) → eqb t.kind dollar ≡ b → Eight true (value r ∷ K) t (pick b (stop 8) (stop 9))
    by_sign true e =
        dollar8 (record { constant = refl; sign = eqb-true t.kind dollar e; instead = λ s. (form (a_value {r = suc r} (int_value s) (omega arith)) (least true K), tokens_of (least true K), refl) })
    by_sign false e = nine8
dollar_due false r K K' t es = pick8 (eqb t.kind dollar) (go es K') (stop 9) goes8 nine8

value8 : (c : Bool) (r : ℕ) (K : List Sym) (t : Token) → Eight c (value r ∷ K) t (at_value c r K t)
unfolding at_value
value8 c r K t = search (pick8, goes8, dollar_due c r K (name ∷ close 11 t.start ∷ K) t (opens 11 t.start ∷ token_event t ∷ [])) depth 14

value_deeper8 : {c : Bool} {r : ℕ} {M : List Sym} (G : Forms c (value r ∷ M)) → (H : Forms c (deeper (suc r) ∷ M)) × (tokens_of H ≡ tokens_of G)
value_deeper8 {r = r} (form (a_value v h) G) = (form (a_deeper {r = suc r} v (omega arith)) G, refl)

deeper8 : (c : Bool) (r : ℕ) (K : List Sym) (t : Token) → Eight c (deeper r ∷ K) t (at_deeper c r K t)
deeper8 c zero K t = seven8
deeper8 c (suc r) K t = up8 value_deeper8 (value8 c r K t)

deeper_items8 : {c : Bool} {r s : ℕ} {M : List Sym} (G : Forms c (deeper r ∷ items r s ∷ M)) → (H : Forms c (items r s ∷ M)) × (tokens_of H ≡ tokens_of G)
deeper_items8 {r = r} (form (a_deeper v h) (form (an_items vs b i) G)) =
    (form (an_items {r = r} (an_item v vs) b (omega arith)) G, join_first (value_tokens v) (values_tokens vs) (of bracket_r b ∷ []) (tokens_of G))

items8 : (c : Bool) (r s : ℕ) (K : List Sym) (t : Token) → Eight c (items r s ∷ K) t (at_items c r s K t)
unfolding at_items
items8 c r s K t = search (pick8, goes8, nine8, up8 {K = deeper r ∷ items r s ∷ K} {L = items r s ∷ K} deeper_items8 (deeper8 c r (items r s ∷ K) t))

-- a missing part adds no token
skip8 : {c : Bool} {M : List Sym} {s : Sym} (f : Form c s) → form_tokens f ≡ [] → (G : Forms c M) → (H : Forms c (s ∷ M)) × (tokens_of H ≡ tokens_of G)
skip8 f e G = (form f G, ap (λ (us : List Token). us ++ tokens_of G) e)

set8 : {c : Bool} {K : List Sym} {t : Token} (r : ℕ) (M : List Sym) (m : Move) → Eight c K t m → Eight c K t (or_selection_set r M t m)
unfolding or_selection_set
set8 {t = t} r M m p = pick8 (eqb t.kind brace_l) (go (opens 15 t.start ∷ token_event t ∷ []) (first_selection r t.start ∷ M)) m goes8 p

arguments8 : {c : Bool} {K : List Sym} {t : Token} (r : ℕ) (M : List Sym) (m : Move) → Eight c K t m → Eight c K t (or_arguments r M t m)
unfolding or_arguments
arguments8 {t = t} r M m p = pick8 (eqb t.kind paren_l) (go (opens 18 t.start ∷ token_event t ∷ []) (first_argument r t.start ∷ M)) m goes8 p

directive8 : {c : Bool} {K : List Sym} {t : Token} (es : List Item) (r s : ℕ) (M : List Sym) (m : Move) → Eight c K t m → Eight c K t (or_directive es r s M t m)
unfolding or_directive
directive8 {t = t} es r s M m p = pick8 (eqb t.kind at) (go (es ++ (opens 21 t.start ∷ token_event t ∷ [])) (name ∷ opt_arguments r ∷ close 21 t.start ∷ directives r s ∷ M)) m goes8 p

selection8 : {c : Bool} {K : List Sym} {t : Token} (r : ℕ) (M : List Sym) → Eight c K t (or_selection r M t (stop 9))
unfolding or_selection
selection8 r M = search (pick8, goes8, nine8)

argument8 : {c : Bool} {K : List Sym} {t : Token} (r s : ℕ) (M : List Sym) → Eight c K t (or_argument r s M t (stop 9))
unfolding or_argument
argument8 r s M = search (pick8, goes8, nine8)

first8 : {c : Bool} {K : List Sym} {t : Token} (r s : ℕ) (M : List Sym) → Eight c K t (at_first_selection r s M t)
first8 zero s M = seven8
first8 (suc r) s M = selection8 r (selections r s ∷ M)

spread8 : {c : Bool} {K : List Sym} {t : Token} (r : ℕ) (d : Token) (M : List Sym) → Eight c K t (at_spread r d M t)
unfolding at_spread
spread8 {t = t} r d M =
    let s : ℕ = d.start in
    let m₁ = or_selection_set r (close 24 s ∷ M) t (stop 9) in
    let m₂ = or_directives r (selection_set r ∷ close 24 s ∷ M) t m₁ in
    let m₃ = go (opens 25 t.start ∷ token_event t ∷ []) (named_type ∷ close 25 t.start ∷ opt_directives r ∷ selection_set r ∷ close 24 s ∷ M) in
    let m₄ = go (opens 22 s ∷ token_event d ∷ opens 23 t.start ∷ (name_events t ++ (closes 23 t.start (end_of t) ∷ []))) (opt_directives r ∷ close 22 s ∷ M) in
    pick8 (is_fragment_name t.kind) m₄ (also (opens 24 s ∷ token_event d ∷ []) (pick (eqb t.kind word_on) m₃ m₂)) goes8
    (also8 (opens 24 s ∷ token_event d ∷ []) (pick (eqb t.kind word_on) m₃ m₂)
    (pick8 (eqb t.kind word_on) m₃ m₂ goes8 (directive8 (opens 20 t.start ∷ []) r t.start (selection_set r ∷ close 24 s ∷ M) m₁ (set8 r (close 24 s ∷ M) (stop 9) nine8))))

eight : (c : Bool) (l : ℕ) (K : List Sym) (t : Token) → Eight c K t (step c l K t)
unfolding step at_fields at_name at_colon at_named_type at_selections at_arguments
eight c l [] t = search (pick8, halts8, nine8)
eight c l (value r ∷ K) t = value8 c r K t
eight c l (deeper r ∷ K) t = deeper8 c r K t
eight c l (items r s ∷ K) t = items8 c r s K t
eight c l (fields r s ∷ K) t = search (pick8, goes8, nine8)
eight c l (name ∷ K) t = search (pick8, goes8, nine8)
eight c l (colon_due ∷ K) t = search (pick8, goes8, nine8)
eight c l (close n s ∷ K) t = also8 (closes n s l ∷ []) (step c l K t) (up8 (skip8 a_close refl) (eight c l K t))
eight c l (selection_set r ∷ K) t = set8 r K (stop 9) nine8
eight c l (opt_selection_set r ∷ K) t = set8 r K (step c l K t) (up8 (skip8 (an_opt_set {r = suc r} no_selection_set (omega arith)) refl) (eight c l K t))
eight c l (first_selection r s ∷ K) t = first8 r s K
eight c l (selections r s ∷ K) t = search (pick8, goes8, selection8 {c = c} {K = selections r s ∷ K} {t = t} r (selections r s ∷ K))
eight c l (named r n ∷ K) t =
    let s : ℕ = n.start in
    let m₁ = also (closes 16 s l ∷ []) (step c l K t) in
    let m₂ = or_selection_set r (close 16 s ∷ K) t m₁ in
    let m₃ = or_directives r (opt_selection_set r ∷ close 16 s ∷ K) t m₂ in
    let m₄ = or_arguments r (opt_directives r ∷ opt_selection_set r ∷ close 16 s ∷ K) t m₃ in
    pick8 (eqb t.kind colon) (go (opens 16 s ∷ opens 17 s ∷ (name_events n ++ (token_event t ∷ closes 17 s (end_of t) ∷ []))) (name ∷ after_name r s K)) (also (opens 16 s ∷ name_events n) m₄) goes8
    (also8 (opens 16 s ∷ name_events n) m₄
    (arguments8 r (opt_directives r ∷ opt_selection_set r ∷ close 16 s ∷ K) m₃
    (directive8 (opens 20 t.start ∷ []) r t.start (opt_selection_set r ∷ close 16 s ∷ K) m₂
    (set8 r (close 16 s ∷ K) m₁
    (also8 (closes 16 s l ∷ []) (step c l K t)
    (up8 (skip8 (a_plain {r = suc r} {n = n} no_arguments no_directives no_selection_set (omega arith) (omega arith) (omega arith)) refl) (eight c l K t)))))))
eight c l (spread r d ∷ K) t = spread8 r d K
eight c l (opt_arguments r ∷ K) t = arguments8 r K (step c l K t) (up8 (skip8 (an_opt_arguments {r = suc r} no_arguments (omega arith)) refl) (eight c l K t))
eight c l (first_argument r s ∷ K) t = argument8 r s K
eight c l (arguments r s ∷ K) t = search (pick8, goes8, argument8 {c = c} {K = arguments r s ∷ K} {t = t} r s K)
eight c l (opt_directives r ∷ K) t =
    directive8 (opens 20 t.start ∷ []) r t.start K (step c l K t) (up8 (skip8 (an_opt_directives {r = suc r} no_directives (omega arith)) refl) (eight c l K t))
eight c l (directives r s ∷ K) t =
    directive8 [] r s K (also (closes 20 s l ∷ []) (step c l K t)) (also8 (closes 20 s l ∷ []) (step c l K t) (up8 (skip8 (a_directives {r = suc r} {s = s} no_more (omega arith)) refl) (eight c l K t)))
eight c l (named_type ∷ K) t = search (pick8, goes8, nine8)

-- where a step is an 8
dollar_of : {c : Bool} {K : List Sym} {t : Token} {m : Move} → Eight c K t m → m ≡ stop 8 → Dollar c K t
dollar_of goes8 e = absurd (let z : ◌≡◌ {A = ℕ} 0 1 = cc in omega arith)
dollar_of halts8 e = absurd (let z : ◌≡◌ {A = ℕ} 0 1 = cc in omega arith)
dollar_of seven8 e = absurd (let z : ◌≡◌ {A = ℕ} 7 8 = cc in omega arith)
dollar_of nine8 e = absurd (let z : ◌≡◌ {A = ℕ} 9 8 = cc in omega arith)
dollar_of (dollar8 d) e = d

-- at an 8 stands a `$` in a constant, and with an Int in its place the tokens before it begin a constant, with one level more at most
pub eight_value : {c : Bool} {d p : ℕ} {ts : List Token} (r : Refusal c (value d ∷ []) 0 ts 8 p) (s : Span)
    → (c ≡ true) × (r.here.kind ≡ dollar) × BeginsValue c (suc d) (r.before ++ (of int s ∷ []))
eight_value {c} {d} r s =
    let x = dollar_of (eight c r.end r.due r.here) r.stops in
    let y = x.instead s in
    let w = r.begins y.0 in (
      x.constant,
      x.sign,
      begins_value c (suc d) (r.before ++ (of int s ∷ [])) y.1 w.0 (w.1 ∙ ap (λ (us : List Token). r.before ++ us) y.2 ∙ sym (append_assoc r.before (of int s ∷ []) y.1)),
    )

-- ---- the numbers

-- a step refuses with 7, 8 or 9 alone
pub refusal_number : {c : Bool} {K : List Sym} {l n p : ℕ} {ts : List Token} (r : Refusal c K l ts n p) → (n ≡ 7) ⊎ ((n ≡ 8) ⊎ (n ≡ 9))
refusal_number {c} r = by_lifted (lifted c r.end r.due r.here) r.stops
  where
    by_lifted : {n : ℕ} {m m' : Move} → Lifted m m' → m ≡ stop n → (n ≡ 7) ⊎ ((n ≡ 8) ⊎ (n ≡ 9))
    by_lifted (goes es K) e = absurd (let z : ◌≡◌ {A = ℕ} 0 1 = cc in omega arith)
    by_lifted (halts es) e = absurd (let z : ◌≡◌ {A = ℕ} 0 1 = cc in omega arith)
    by_lifted {n} (stays k h) e = let q : k ≡ n = cc in inr (rw q at h)
    by_lifted {n} (past m h) e = let q : 7 ≡ n = cc in inl (sym q)

-- 8 is for constants alone
pub no_eight : {K : List Sym} {l p : ℕ} {ts : List Token} (r : Refusal false K l ts 8 p) → ⊥
no_eight r = let x = (dollar_of (eight false r.end r.due r.here) r.stops).constant in let z : ◌≡◌ {A = ℕ} 0 1 = cc in omega arith

-- ---- the entries

-- a refusal of a value of either constness
pub value_refusal : (c : Bool) (d : ℕ) (ts : List Token) (n p : ℕ) → EndsEof ts → run c (value d ∷ []) 0 ts ≡ refused n p → Refusal c (value d ∷ []) 0 ts n p
value_refusal c d ts n p h a = refusal c ts (value d ∷ []) 0 n p h a

-- a refusal of a selection set
pub set_refusal : (d : ℕ) (ts : List Token) (n p : ℕ) → EndsEof ts → read_selection_set d ts ≡ refused n p → Refusal false (selection_set d ∷ []) 0 ts n p
set_refusal d ts n p h a = refusal false ts (selection_set d ∷ []) 0 n p h a
