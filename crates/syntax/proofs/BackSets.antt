-- One step back in selection sets, and over the whole stack. Assumes nothing.
use Prim.Native.Nat.{ℕ, zero, suc, ◌≤◌}
use native.Mathlib.Omega.{arith}
use mathlib.Core.Path.{◌≡◌, refl, sym, ap, ◌∙◌}
use mathlib.Core.Bool.{Bool, true, false}
use mathlib.Core.List.{List, [], ◌∷◌, ◌++◌, append_assoc, append-nil}
use lib.Dec.{eqb}
use Rattle.base.specs.Text.{pick}
use Rattle.base.specs.Item.{Item}
use Rattle.syntax.specs.Token.{paren_l, paren_r, dots, colon, at, brace_l, brace_r, word_on, is_fragment_name, Token, end_of, token_event, opens, closes, name_events}
use Rattle.syntax.specs.Grammar.{Span, of, Name, name_token, FragmentWord, fragment_kind, node, value_tokens, value_events, value_depth}
use Rattle.syntax.specs.Selections as trees
use Rattle.syntax.specs.Selections.{Argument, Arguments, one_argument, more_arguments, OptArguments, no_arguments, Directive, Directives, one_directive, more_directives, OptDirectives, no_directives, OptCondition, no_condition, condition, no_alias, alias, SelectionSet, Selections, one_selection, more_selections, Selection, field, fragment_spread, inline_fragment, no_selection_set, some_selection_set, argument_tokens, arguments_tokens, opt_arguments_tokens, directive_tokens, directives_tokens, opt_directives_tokens, condition_tokens, set_tokens, selection_tokens, selections_tokens, opt_set_tokens, argument_events, arguments_events, opt_arguments_events, directive_events, directives_events, opt_directives_events, condition_events, set_events, selection_events, selections_events, opt_set_events, arguments_depth, opt_arguments_depth, directives_depth, selection_depth, selections_depth}
use Rattle.syntax.specs.Machine.{Sym, value, deeper, items, fields, name, colon_due, close, selection_set, opt_selection_set, first_selection, selections, named, spread, opt_arguments, first_argument, arguments, opt_directives, directives, named_type, Move, go, stop, also, at_name, at_colon, at_named_type, or_selection_set, or_selection, at_first_selection, at_selections, after_name, or_arguments, or_argument, at_arguments, or_directive, or_directives, at_spread, step}
use Rattle.syntax.proofs.Steps.{end_after, end_after_append, end_after_last, join_first, join_last, end_last, node_bracketed}
use Rattle.syntax.proofs.Loosen.{loosen, loosen_tokens, loosen_events, loosen_depth}
use Rattle.syntax.proofs.Forms.{Further, no_more, more, further, Form, a_value, a_name, a_colon, a_close, a_set, an_opt_set, a_first, a_selections, a_plain, an_alias, a_fragment, an_inline, an_opt_arguments, a_first_argument, an_arguments, an_opt_directives, a_directives, a_type, tail_tokens, form_tokens, form_events, Forms, none, form, tokens_of, events_of}
use Rattle.syntax.proofs.Back.{is_kind, is_fragment, Taken, Back, takes, refuses, passes, also_none, Turns, turn, turned, test, on_kind, on_name, item_join, node_join, on_value, on_deeper, on_items, on_fields}

-- ---- one more

abbrev cons_arguments : Argument → Further Arguments → Arguments
cons_arguments a no_more = one_argument a
cons_arguments a (more xs) = more_arguments a xs

cons_arguments_tokens : (a : Argument) (xs : Further Arguments) → arguments_tokens (cons_arguments a xs) ≡ argument_tokens a ++ further [] arguments_tokens xs
cons_arguments_tokens a no_more = sym (append-nil (argument_tokens a))
cons_arguments_tokens a (more xs) = refl

cons_arguments_events : (a : Argument) (xs : Further Arguments) → arguments_events (cons_arguments a xs) ≡ argument_events a ++ further [] arguments_events xs
cons_arguments_events a no_more = sym (append-nil (argument_events a))
cons_arguments_events a (more xs) = refl

cons_arguments_depth : (r : ℕ) (a : Argument) (xs : Further Arguments) → value_depth a.value ≤ r → further 0 arguments_depth xs ≤ r → arguments_depth (cons_arguments a xs) ≤ r
cons_arguments_depth r a no_more g h = g
cons_arguments_depth r a (more xs) g h = omega arith

abbrev cons_directives : Directive → Further Directives → Directives
cons_directives d no_more = one_directive d
cons_directives d (more ds) = more_directives d ds

cons_directives_tokens : (d : Directive) (ds : Further Directives) → directives_tokens (cons_directives d ds) ≡ directive_tokens d ++ further [] directives_tokens ds
cons_directives_tokens d no_more = sym (append-nil (directive_tokens d))
cons_directives_tokens d (more ds) = refl

cons_directives_events : (d : Directive) (ds : Further Directives) → directives_events (cons_directives d ds) ≡ directive_events d ++ further [] directives_events ds
cons_directives_events d no_more = sym (append-nil (directive_events d))
cons_directives_events d (more ds) = refl

cons_directives_depth : (r : ℕ) (d : Directive) (ds : Further Directives) → opt_arguments_depth d.args ≤ r → further 0 directives_depth ds ≤ r → directives_depth (cons_directives d ds) ≤ r
cons_directives_depth r d no_more g h = g
cons_directives_depth r d (more ds) g h = omega arith

abbrev cons_selections : Selection → Further Selections → Selections
cons_selections s no_more = one_selection s
cons_selections s (more ss) = more_selections s ss

cons_selections_tokens : (s : Selection) (ss : Further Selections) → selections_tokens (cons_selections s ss) ≡ selection_tokens s ++ further [] selections_tokens ss
cons_selections_tokens s no_more = sym (append-nil (selection_tokens s))
cons_selections_tokens s (more ss) = refl

cons_selections_events : (s : Selection) (ss : Further Selections) → selections_events (cons_selections s ss) ≡ selection_events s ++ further [] selections_events ss
cons_selections_events s no_more = sym (append-nil (selection_events s))
cons_selections_events s (more ss) = refl

cons_selections_depth : (r : ℕ) (s : Selection) (ss : Further Selections) → selection_depth s ≤ r → further 0 selections_depth ss ≤ r → selections_depth (cons_selections s ss) ≤ r
cons_selections_depth r s no_more g h = g
cons_selections_depth r s (more ss) g h = omega arith

-- ---- arguments

take_arguments : {c : Bool} {l r : ℕ} {P : List Sym} (a : Span) → Taken c l (opt_arguments r ∷ P) (of paren_l a) (opens 18 a.start ∷ token_event (of paren_l a) ∷ []) (first_argument r a.start ∷ P)
take_arguments a (form (a_first_argument xs b h) F) = (
  form (an_opt_arguments (trees.arguments a xs b) h) F,
  refl,
  ap (λ (es : List Item). es ++ events_of (end_after (end_of (of paren_l a)) (arguments_tokens xs ++ (of paren_r b ∷ []))) F) (node_bracketed 18 (of paren_l a) (of paren_r b) (arguments_tokens xs) (arguments_events xs)),
)

-- arguments, or none
on_opt_arguments : {c : Bool} {l : ℕ} {t : Token} (r : ℕ) (P K : List Sym) (m : Move) → Back c l t P K m → Back c l t (opt_arguments r ∷ P) K (or_arguments r (P ++ K) t m)
unfolding or_arguments
on_opt_arguments r P K m b =
    on_kind paren_l (λ u. opens 18 u.start ∷ token_event u ∷ []) (λ u. first_argument r u.start ∷ P) take_arguments
    (turned m (λ F. (form (an_opt_arguments {r = r} no_arguments (omega arith)) F, refl, refl)) b)

take_argument : {c : Bool} {l r s : ℕ} {P : List Sym} (n : Name)
    → Taken c l (first_argument r s ∷ P) (name_token n) (opens 19 n.span.start ∷ name_events (name_token n)) (colon_due ∷ value r ∷ close 19 n.span.start ∷ arguments r s ∷ P)
take_argument {l = l} {r = r} {s = s} n (form (a_colon k) (form (a_value v h) (form a_close (form (an_arguments xs b i) F)))) =
    let a : Argument = record { name = n; colon_at = k; value = loosen v } in (
      form (a_first_argument {r = r} (cons_arguments a xs) b (cons_arguments_depth r a xs (omega (arith, loosen_depth v)) i)) F,
      rw (cons_arguments_tokens a xs, loosen_tokens v)
          (ap (λ (us : List Token). name_token n ∷ of colon k ∷ us) (join_first (value_tokens v) (further [] arguments_tokens xs) (of paren_r b ∷ []) (tokens_of F))),
      rw (cons_arguments_tokens a xs, cons_arguments_events a xs, loosen_tokens v, loosen_events v)
          (ap (λ (es : List Item). opens 19 n.span.start ∷ (name_events (name_token n) ++ (token_event (of colon k) ∷ es)))
          (node_join (value_events v) (further [] arguments_events xs) (token_event (of paren_r b) ∷ closes 18 s (end_of (of paren_r b)) ∷ []) F 19 n.span.start (of colon k) (value_tokens v) (further [] arguments_tokens xs) (of paren_r b ∷ []))),
    )

-- the first argument
on_first_argument : {c : Bool} {l : ℕ} {t : Token} (r s : ℕ) (P K : List Sym) → Back c l t (first_argument r s ∷ P) K (or_argument r s (P ++ K) t (stop 9))
unfolding or_argument
on_first_argument r s P K =
    on_name (λ u. opens 19 u.start ∷ name_events u) (λ u. colon_due ∷ value r ∷ close 19 u.start ∷ arguments r s ∷ P) take_argument (refuses 9 refl)

first_arguments : {c : Bool} {l r s : ℕ} {P : List Sym} → Turns c l (arguments r s ∷ P) [] (first_argument r s ∷ P)
first_arguments (form (a_first_argument xs b h) F) = (form (an_arguments (more xs) b h) F, refl, refl)

-- further arguments or the `)`
on_arguments : {c : Bool} {l : ℕ} {t : Token} (r s : ℕ) (P K : List Sym) → Back c l t (arguments r s ∷ P) K (at_arguments r s (P ++ K) t)
unfolding at_arguments
on_arguments {t = t} r s P K =
    on_kind paren_r (λ u. token_event u ∷ closes 18 s (end_of u) ∷ []) (λ u. P) (λ b F. (form (an_arguments {r = r} {s = s} no_more b (omega arith)) F, refl, refl))
    (turned (or_argument r s (P ++ K) t (stop 9)) first_arguments (on_first_argument r s P K))

-- ---- directives

-- a directive's events, in the order of reading
pub directive_events_lem : (a : Span) (n : Name) (xs : OptArguments)
    → directive_events (record { at_at = a; name = n; args = xs })
    ≡ opens 21 a.start ∷ token_event (of at a) ∷ (name_events (name_token n) ++ (opt_arguments_events xs ++ (closes 21 a.start (end_after (end_of (name_token n)) (opt_arguments_tokens xs)) ∷ [])))
directive_events_lem a n xs = rw (← end_after_last 0 (name_token n) (opt_arguments_tokens xs))

-- a directive, and what follows it
directive_join : {c : Bool} {P : List Sym} (s l : ℕ) (a : Span) (n : Name) (xs : OptArguments) (ds : Further Directives) (F : Forms c P)
    → (directives_events (cons_directives (record { at_at = a; name = n; args = xs }) ds)
    ++ (closes 20 s (end_after l (directives_tokens (cons_directives (record { at_at = a; name = n; args = xs }) ds))) ∷ []))
    ++ events_of (end_after l (directives_tokens (cons_directives (record { at_at = a; name = n; args = xs }) ds))) F
    ≡ opens 21 a.start ∷ token_event (of at a) ∷ (name_events (name_token n) ++ (opt_arguments_events xs ++ (closes 21 a.start (end_after (end_of (name_token n)) (opt_arguments_tokens xs))
    ∷ ((further [] directives_events ds ++ (closes 20 s (end_after (end_after (end_of (name_token n)) (opt_arguments_tokens xs)) (further [] directives_tokens ds)) ∷ []))
    ++ events_of (end_after (end_after (end_of (name_token n)) (opt_arguments_tokens xs)) (further [] directives_tokens ds)) F))))
directive_join s l a n xs ds F =
    let d : Directive = record { at_at = a; name = n; args = xs } in
    let e : ℕ = end_after (end_after (end_of (name_token n)) (opt_arguments_tokens xs)) (further [] directives_tokens ds) in
    rw (cons_directives_tokens d ds, cons_directives_events d ds, end_after_append l (directive_tokens d) (further [] directives_tokens ds))
    (join_first (directive_events d) (further [] directives_events ds) (closes 20 s e ∷ []) (events_of e F)
    ∙ ap (λ (es : List Item). es ++ ((further [] directives_events ds ++ (closes 20 s e ∷ [])) ++ events_of e F)) (directive_events_lem a n xs)
    ∙ ap (λ (es : List Item). opens 21 a.start ∷ token_event (of at a) ∷ (name_events (name_token n) ++ es))
    (append_assoc (opt_arguments_events xs) (closes 21 a.start (end_after (end_of (name_token n)) (opt_arguments_tokens xs)) ∷ []) ((further [] directives_events ds ++ (closes 20 s e ∷ [])) ++ events_of e F)))

directive_tokens_lem : (a : Span) (n : Name) (xs : OptArguments) (ds : Further Directives) (us : List Token)
    → directives_tokens (cons_directives (record { at_at = a; name = n; args = xs }) ds) ++ us
    ≡ of at a ∷ name_token n ∷ (opt_arguments_tokens xs ++ (further [] directives_tokens ds ++ us))
directive_tokens_lem a n xs ds us =
    let d : Directive = record { at_at = a; name = n; args = xs } in
    rw (cons_directives_tokens d ds) (append_assoc (directive_tokens d) (further [] directives_tokens ds) us)

take_directive : {c : Bool} {l r s : ℕ} {P : List Sym} (a : Span)
    → Taken c l (directives r s ∷ P) (of at a) (opens 21 a.start ∷ token_event (of at a) ∷ []) (name ∷ opt_arguments r ∷ close 21 a.start ∷ directives r s ∷ P)
take_directive {l = l} {r = r} {s = s} a (form (a_name n) (form (an_opt_arguments xs g) (form a_close (form (a_directives ds h) F)))) =
    let d : Directive = record { at_at = a; name = n; args = xs } in (
      form (a_directives {r = r} (more (cons_directives d ds)) (cons_directives_depth r d ds g h)) F,
      directive_tokens_lem a n xs ds (tokens_of F),
      directive_join s l a n xs ds F,
    )

directives_node : (l : ℕ) (a : Span) (n : Name) (xs : OptArguments) (ds : Further Directives)
    → opt_directives_events (trees.directives (cons_directives (record { at_at = a; name = n; args = xs }) ds))
    ≡ opens 20 a.start ∷ (directives_events (cons_directives (record { at_at = a; name = n; args = xs }) ds)
    ++ (closes 20 a.start (end_after l (directives_tokens (cons_directives (record { at_at = a; name = n; args = xs }) ds))) ∷ []))
directives_node l a n xs no_more = rw (← end_after_last l (of at a) (name_token n ∷ opt_arguments_tokens xs))
directives_node l a n xs (more ds) = rw (← end_after_last l (of at a) (name_token n ∷ (opt_arguments_tokens xs ++ directives_tokens ds)))

take_directives : {c : Bool} {l r : ℕ} {P : List Sym} (a : Span)
    → Taken c l (opt_directives r ∷ P) (of at a) (opens 20 a.start ∷ opens 21 a.start ∷ token_event (of at a) ∷ []) (name ∷ opt_arguments r ∷ close 21 a.start ∷ directives r a.start ∷ P)
take_directives {l = l} {r = r} a (form (a_name n) (form (an_opt_arguments xs g) (form a_close (form (a_directives ds h) F)))) =
    let d : Directive = record { at_at = a; name = n; args = xs } in (
      form (an_opt_directives {r = r} (trees.directives (cons_directives d ds)) (cons_directives_depth r d ds g h)) F,
      directive_tokens_lem a n xs ds (tokens_of F),
      ap (λ (es : List Item). es ++ events_of (end_after l (directives_tokens (cons_directives d ds))) F) (directives_node l a n xs ds)
          ∙ ap (λ (es : List Item). opens 20 a.start ∷ es) (directive_join a.start l a n xs ds F),
    )

-- directives, or none
on_opt_directives : {c : Bool} {l : ℕ} {t : Token} (r : ℕ) (P K : List Sym) (m : Move) → Back c l t P K m → Back c l t (opt_directives r ∷ P) K (or_directives r (P ++ K) t m)
unfolding or_directive
on_opt_directives r P K m b =
    on_kind at (λ u. opens 20 u.start ∷ opens 21 u.start ∷ token_event u ∷ []) (λ u. name ∷ opt_arguments r ∷ close 21 u.start ∷ directives r u.start ∷ P) take_directives
    (turned m (λ F. (form (an_opt_directives {r = r} no_directives (omega arith)) F, refl, refl)) b)

-- further directives, or none
on_directives : {c : Bool} {l : ℕ} {t : Token} (r s : ℕ) (P K : List Sym) (m : Move) → Back c l t P K m → Back c l t (directives r s ∷ P) K (or_directive [] r s (P ++ K) t (also (closes 20 s l ∷ []) m))
unfolding or_directive
on_directives {l = l} r s P K m b =
    on_kind at (λ u. opens 21 u.start ∷ token_event u ∷ []) (λ u. name ∷ opt_arguments r ∷ close 21 u.start ∷ directives r s ∷ P) take_directive
    (turn (closes 20 s l ∷ []) (λ F. (form (a_directives {r = r} {s = s} no_more (omega arith)) F, refl, refl)) b)

-- ---- selection sets

take_set : {c : Bool} {l r : ℕ} {P : List Sym} (a : Span) → Taken c l (selection_set r ∷ P) (of brace_l a) (opens 15 a.start ∷ token_event (of brace_l a) ∷ []) (first_selection r a.start ∷ P)
take_set a (form (a_first ss b h) F) = (
  form (a_set (trees.selection_set a ss b) h) F,
  refl,
  ap (λ (es : List Item). es ++ events_of (end_after (end_of (of brace_l a)) (selections_tokens ss ++ (of brace_r b ∷ []))) F) (node_bracketed 15 (of brace_l a) (of brace_r b) (selections_tokens ss) (selections_events ss)),
)

take_opt_set : {c : Bool} {l r : ℕ} {P : List Sym} (a : Span) → Taken c l (opt_selection_set r ∷ P) (of brace_l a) (opens 15 a.start ∷ token_event (of brace_l a) ∷ []) (first_selection r a.start ∷ P)
take_opt_set a (form (a_first ss b h) F) = (
  form (an_opt_set (some_selection_set (trees.selection_set a ss b)) h) F,
  refl,
  ap (λ (es : List Item). es ++ events_of (end_after (end_of (of brace_l a)) (selections_tokens ss ++ (of brace_r b ∷ []))) F) (node_bracketed 15 (of brace_l a) (of brace_r b) (selections_tokens ss) (selections_events ss)),
)

-- a selection set
on_set : {c : Bool} {l : ℕ} {t : Token} (r : ℕ) (P K : List Sym) → Back c l t (selection_set r ∷ P) K (or_selection_set r (P ++ K) t (stop 9))
unfolding or_selection_set
on_set r P K = on_kind brace_l (λ u. opens 15 u.start ∷ token_event u ∷ []) (λ u. first_selection r u.start ∷ P) take_set (refuses 9 refl)

-- a selection set, or none
on_opt_set : {c : Bool} {l : ℕ} {t : Token} (r : ℕ) (P K : List Sym) (m : Move) → Back c l t P K m → Back c l t (opt_selection_set r ∷ P) K (or_selection_set r (P ++ K) t m)
unfolding or_selection_set
on_opt_set r P K m b =
    on_kind brace_l (λ u. opens 15 u.start ∷ token_event u ∷ []) (λ u. first_selection r u.start ∷ P) take_opt_set
    (turned m (λ F. (form (an_opt_set {r = r} no_selection_set (omega arith)) F, refl, refl)) b)

-- the selection that a first name, or a `...`, and what follows it make
abbrev field_of : {c : Bool} {r : ℕ} (n : Name) → Form c (named r (name_token n)) → Selection
field_of n (a_plain xs ds s g h i) = field no_alias n xs ds s
field_of n (an_alias k m xs ds s g h i) = field (alias n k) m xs ds s

field_tokens : {c : Bool} {r : ℕ} (n : Name) (f : Form c (named r (name_token n))) → selection_tokens (field_of n f) ≡ name_token n ∷ form_tokens f
field_tokens n (a_plain xs ds s g h i) = refl
field_tokens n (an_alias k m xs ds s g h i) = refl

-- a field's events, in the order of reading
pub field_events : {c : Bool} {r : ℕ} (n : Name) (f : Form c (named r (name_token n))) → selection_events (field_of n f) ≡ form_events (end_of (name_token n)) f
field_events n (a_plain xs ds s g h i) = rw (← end_after_last 0 (name_token n) (tail_tokens xs ds s))
field_events n (an_alias k m xs ds s g h i) = rw (← end_after_last 0 (name_token m) (tail_tokens xs ds s))

field_depth : {c : Bool} {r : ℕ} (n : Name) (f : Form c (named r (name_token n))) → selection_depth (field_of n f) ≤ r
field_depth n (a_plain xs ds s g h i) = omega arith
field_depth n (an_alias k m xs ds s g h i) = omega arith

abbrev spread_of : {c : Bool} {r : ℕ} (d : Span) → Form c (spread r (of dots d)) → Selection
spread_of d (a_fragment w n ds h) = fragment_spread d w n ds
spread_of d (an_inline k ds s g h) = inline_fragment d k ds s

spread_tokens : {c : Bool} {r : ℕ} (d : Span) (f : Form c (spread r (of dots d))) → selection_tokens (spread_of d f) ≡ of dots d ∷ form_tokens f
spread_tokens d (a_fragment w n ds h) = refl
spread_tokens d (an_inline k ds s g h) = refl

-- a fragment's events, in the order of reading
pub spread_events : {c : Bool} {r : ℕ} (d : Span) (f : Form c (spread r (of dots d))) → selection_events (spread_of d f) ≡ form_events (end_of (of dots d)) f
spread_events d (a_fragment w n ds h) = rw (← end_after_last 0 (of (fragment_kind w) n) (opt_directives_tokens ds))
spread_events d (an_inline k ds s g h) = rw (← end_after_last 0 (of dots d) (condition_tokens k ++ (opt_directives_tokens ds ++ set_tokens s)))
    (ap (λ (es : List Item). opens 24 d.start ∷ token_event (of dots d) ∷ es)
    (join_last (condition_events k) (opt_directives_events ds) (set_events s) (closes 24 d.start (end_after (end_of (of dots d)) (condition_tokens k ++ (opt_directives_tokens ds ++ set_tokens s))) ∷ [])))

spread_depth : {c : Bool} {r : ℕ} (d : Span) (f : Form c (spread r (of dots d))) → selection_depth (spread_of d f) ≤ r
spread_depth d (a_fragment w n ds h) = h
spread_depth d (an_inline k ds s g h) = omega arith

-- a selection, and what follows it
selection_tokens_lem : (x : Selection) (t : Token) (us : List Token) → selection_tokens x ≡ t ∷ us → (ss : Further Selections) (b : Span) (vs : List Token)
    → (selections_tokens (cons_selections x ss) ++ (of brace_r b ∷ [])) ++ vs ≡ t ∷ (us ++ ((further [] selections_tokens ss ++ (of brace_r b ∷ [])) ++ vs))
selection_tokens_lem x t us e ss b vs = rw (cons_selections_tokens x ss, e) (join_first (t ∷ us) (further [] selections_tokens ss) (of brace_r b ∷ []) vs)

selection_join : {c : Bool} {P : List Sym} (x : Selection) (t : Token) (us : List Token) (es : List Item) → selection_tokens x ≡ t ∷ us → selection_events x ≡ es
    → (ss : Further Selections) (b : Span) (s l : ℕ) (F : Forms c P)
    → (selections_events (cons_selections x ss) ++ (token_event (of brace_r b) ∷ closes 15 s (end_of (of brace_r b)) ∷ [])) ++ events_of (end_after l (selections_tokens (cons_selections x ss) ++ (of brace_r b ∷ []))) F
    ≡ es ++ ((further [] selections_events ss ++ (token_event (of brace_r b) ∷ closes 15 s (end_of (of brace_r b)) ∷ [])) ++ events_of (end_after (end_after (end_of t) us) (further [] selections_tokens ss ++ (of brace_r b ∷ []))) F)
selection_join x t us es e f ss b s l F =
    rw (cons_selections_tokens x ss, cons_selections_events x ss, e, f)
    (item_join es (further [] selections_events ss) (token_event (of brace_r b) ∷ closes 15 s (end_of (of brace_r b)) ∷ []) F l (t ∷ us) (further [] selections_tokens ss) (of brace_r b ∷ []))

take_named : {c : Bool} {l r s : ℕ} {P : List Sym} (n : Name) → Taken c l (first_selection (suc r) s ∷ P) (name_token n) [] (named r (name_token n) ∷ selections r s ∷ P)
take_named {l = l} {r = r} {s = s} n (form f (form (a_selections ss b h) F)) =
    let x = field_of n f in (
      form (a_first {r = suc r} (cons_selections x ss) b (omega (arith, cons_selections_depth r x ss (field_depth n f) h))) F,
      selection_tokens_lem x (name_token n) (form_tokens f) (field_tokens n f) ss b (tokens_of F),
      selection_join x (name_token n) (form_tokens f) (form_events (end_of (name_token n)) f) (field_tokens n f) (field_events n f) ss b s l F,
    )

take_spread : {c : Bool} {l r s : ℕ} {P : List Sym} (d : Span) → Taken c l (first_selection (suc r) s ∷ P) (of dots d) [] (spread r (of dots d) ∷ selections r s ∷ P)
take_spread {l = l} {r = r} {s = s} d (form f (form (a_selections ss b h) F)) =
    let x = spread_of d f in (
      form (a_first {r = suc r} (cons_selections x ss) b (omega (arith, cons_selections_depth r x ss (spread_depth d f) h))) F,
      selection_tokens_lem x (of dots d) (form_tokens f) (spread_tokens d f) ss b (tokens_of F),
      selection_join x (of dots d) (form_tokens f) (form_events (end_of (of dots d)) f) (spread_tokens d f) (spread_events d f) ss b s l F,
    )

-- a selection set's first selection
on_selection : {c : Bool} {l : ℕ} {t : Token} (r s : ℕ) (P K : List Sym) → Back c l t (first_selection (suc r) s ∷ P) K (or_selection r (selections r s ∷ (P ++ K)) t (stop 9))
unfolding or_selection
on_selection r s P K =
    on_name (λ u. []) (λ u. named r u ∷ selections r s ∷ P) take_named
    (on_kind dots (λ u. []) (λ u. spread r u ∷ selections r s ∷ P) take_spread (refuses 9 refl))

on_first_selection : {c : Bool} {l : ℕ} {t : Token} (r s : ℕ) (P K : List Sym) → Back c l t (first_selection r s ∷ P) K (at_first_selection r s (P ++ K) t)
on_first_selection zero s P K = refuses 7 refl
on_first_selection (suc r) s P K = on_selection r s P K

first_selections : {c : Bool} {l r s : ℕ} {P : List Sym} → Turns c l (selections r s ∷ P) [] (first_selection (suc r) s ∷ P)
first_selections {r = r} (form (a_first ss b h) F) = (form (a_selections {r = r} (more ss) b (omega arith)) F, refl, refl)

-- further selections or the `}`
on_selections : {c : Bool} {l : ℕ} {t : Token} (r s : ℕ) (P K : List Sym) → Back c l t (selections r s ∷ P) K (at_selections r s (P ++ K) t)
unfolding at_selections
on_selections {t = t} r s P K =
    on_kind brace_r (λ u. token_event u ∷ closes 15 s (end_of u) ∷ []) (λ u. P) (λ b F. (form (a_selections {r = r} {s = s} no_more b (omega arith)) F, refl, refl))
    (turned (or_selection r (selections r s ∷ (P ++ K)) t (stop 9)) first_selections (on_selection r s P K))

-- ---- fields and fragments

-- three parts, a closing, and what follows
tail_join : {c : Bool} {P : List Sym} (n s l : ℕ) (es fs gs : List Item) (us vs ws : List Token) (F : Forms c P)
    → ((es ++ (fs ++ gs)) ++ (closes n s (end_after l (us ++ (vs ++ ws))) ∷ [])) ++ events_of (end_after l (us ++ (vs ++ ws))) F
    ≡ es ++ (fs ++ (gs ++ (closes n s (end_after (end_after (end_after l us) vs) ws) ∷ events_of (end_after (end_after (end_after l us) vs) ws) F)))
tail_join n s l es fs gs us vs ws F =
    let e : ℕ = end_after (end_after (end_after l us) vs) ws in
    rw (end_last l us vs ws) (append_assoc (es ++ (fs ++ gs)) (closes n s e ∷ []) (events_of e F) ∙ join_last es fs gs (closes n s e ∷ events_of e F))

-- a field's end, and nothing below it
on_close : {c : Bool} {l : ℕ} {t : Token} (n s : ℕ) (P K : List Sym) (m : Move) → Back c l t P K m → Back c l t (close n s ∷ P) K (also (closes n s l ∷ []) m)
on_close {l = l} n s P K m b = turn (closes n s l ∷ []) (λ F. (form a_close F, refl, refl)) b

take_alias : {c : Bool} {l r : ℕ} {P : List Sym} (n : Token) (k : Span)
    → Taken c l (named r n ∷ P) (of colon k) (opens 16 n.start ∷ opens 17 n.start ∷ (name_events n ++ (token_event (of colon k) ∷ closes 17 n.start (end_of (of colon k)) ∷ [])))
    (name ∷ after_name r n.start P)
take_alias n k (form (a_name m) (form (an_opt_arguments xs g) (form (an_opt_directives ds h) (form (an_opt_set s i) (form a_close F))))) = (
  form (an_alias k m xs ds s g h i) F,
  ap (λ (us : List Token). of colon k ∷ name_token m ∷ us) (join_last (opt_arguments_tokens xs) (opt_directives_tokens ds) (opt_set_tokens s) (tokens_of F)),
  ap (λ (es : List Item). opens 16 n.start ∷ opens 17 n.start ∷ (name_events n ++ (token_event (of colon k) ∷ closes 17 n.start (end_of (of colon k)) ∷ (name_events (name_token m) ++ es))))
      (tail_join 16 n.start (end_of (name_token m)) (opt_arguments_events xs) (opt_directives_events ds) (opt_set_events s) (opt_arguments_tokens xs) (opt_directives_tokens ds) (opt_set_tokens s) F),
)

turn_plain : {c : Bool} {l r : ℕ} {P : List Sym} (n : Token) → Turns c l (named r n ∷ P) (opens 16 n.start ∷ name_events n) (after_name r n.start P)
turn_plain {l = l} n (form (an_opt_arguments xs g) (form (an_opt_directives ds h) (form (an_opt_set s i) (form a_close F)))) = (
  form (a_plain xs ds s g h i) F,
  join_last (opt_arguments_tokens xs) (opt_directives_tokens ds) (opt_set_tokens s) (tokens_of F),
  ap (λ (es : List Item). opens 16 n.start ∷ (name_events n ++ es))
      (tail_join 16 n.start l (opt_arguments_events xs) (opt_directives_events ds) (opt_set_events s) (opt_arguments_tokens xs) (opt_directives_tokens ds) (opt_set_tokens s) F),
)

-- what follows the first name of a field
on_named : {c : Bool} {l : ℕ} {t : Token} (r : ℕ) (n : Token) (P K : List Sym) → Back c l t P K (step c l (P ++ K) t) → Back c l t (named r n ∷ P) K (step c l (named r n ∷ (P ++ K)) t)
unfolding step
on_named {c} {l} {t} r n P K b =
    let s : ℕ = n.start in
    let m₁ = also (closes 16 s l ∷ []) (step c l (P ++ K) t) in
    let m₂ = or_selection_set r (close 16 s ∷ (P ++ K)) t m₁ in
    let m₃ = or_directives r (opt_selection_set r ∷ close 16 s ∷ (P ++ K)) t m₂ in
    on_kind colon (λ u. opens 16 s ∷ opens 17 s ∷ (name_events n ++ (token_event u ∷ closes 17 s (end_of u) ∷ []))) (λ u. name ∷ after_name r s P) (take_alias n)
    (turn (opens 16 s ∷ name_events n) (turn_plain n)
    (on_opt_arguments r (opt_directives r ∷ opt_selection_set r ∷ close 16 s ∷ P) K m₃
    (on_opt_directives r (opt_selection_set r ∷ close 16 s ∷ P) K m₂
    (on_opt_set r (close 16 s ∷ P) K m₁
    (on_close 16 s P K (step c l (P ++ K) t) b)))))

take_fragment : {c : Bool} {l r : ℕ} {P : List Sym} (d : Token) (w : FragmentWord) (n : Span)
    → Taken c l (spread r d ∷ P) (of (fragment_kind w) n) (opens 22 d.start ∷ token_event d ∷ node 23 (of (fragment_kind w) n ∷ []) (name_events (of (fragment_kind w) n))) (opt_directives r ∷ close 22 d.start ∷ P)
take_fragment d w n (form (an_opt_directives ds h) (form a_close F)) =
    let e : ℕ = end_after (end_of (of (fragment_kind w) n)) (opt_directives_tokens ds) in (
      form (a_fragment w n ds h) F,
      refl,
      ap (λ (es : List Item). opens 22 d.start ∷ token_event d ∷ (node 23 (of (fragment_kind w) n ∷ []) (name_events (of (fragment_kind w) n)) ++ es))
          (append_assoc (opt_directives_events ds) (closes 22 d.start e ∷ []) (events_of e F)),
    )

-- an inline fragment's directives, selection set and end
fragment_join : {c : Bool} {P : List Sym} (k : OptCondition) (ds : OptDirectives) (s : SelectionSet) (q l : ℕ) (F : Forms c P)
    → (condition_events k ++ (opt_directives_events ds ++ (set_events s ++ (closes 24 q (end_after l (condition_tokens k ++ (opt_directives_tokens ds ++ set_tokens s))) ∷ []))))
    ++ events_of (end_after l (condition_tokens k ++ (opt_directives_tokens ds ++ set_tokens s))) F
    ≡ condition_events k ++ (opt_directives_events ds ++ (set_events s ++ (closes 24 q (end_after (end_after (end_after l (condition_tokens k)) (opt_directives_tokens ds)) (set_tokens s))
    ∷ events_of (end_after (end_after (end_after l (condition_tokens k)) (opt_directives_tokens ds)) (set_tokens s)) F)))
fragment_join k ds s q l F =
    let a = condition_tokens k in
    let b = opt_directives_tokens ds in
    let e : ℕ = end_after l (a ++ (b ++ set_tokens s)) in
    ap (λ (es : List Item). es ++ events_of e F) (sym (join_last (condition_events k) (opt_directives_events ds) (set_events s) (closes 24 q e ∷ [])))
    ∙ tail_join 24 q l (condition_events k) (opt_directives_events ds) (set_events s) a b (set_tokens s) F

take_condition : {c : Bool} {l r : ℕ} {P : List Sym} (d : Token) (o : Span)
    → Taken c l (spread r d ∷ P) (of word_on o) (opens 24 d.start ∷ token_event d ∷ opens 25 o.start ∷ token_event (of word_on o) ∷ [])
    (named_type ∷ close 25 o.start ∷ opt_directives r ∷ selection_set r ∷ close 24 d.start ∷ P)
take_condition {l = l} d o (form (a_type n) (form a_close (form (an_opt_directives ds g) (form (a_set s h) (form a_close F))))) = (
  form (an_inline (condition o n) ds s g h) F,
  ap (λ (us : List Token). of word_on o ∷ name_token n ∷ us) (append_assoc (opt_directives_tokens ds) (set_tokens s) (tokens_of F)),
  ap (λ (es : List Item). opens 24 d.start ∷ token_event d ∷ es) (fragment_join (condition o n) ds s d.start l F),
)

turn_inline : {c : Bool} {l r : ℕ} {P : List Sym} (d : Token) → Turns c l (spread r d ∷ P) (opens 24 d.start ∷ token_event d ∷ []) (opt_directives r ∷ selection_set r ∷ close 24 d.start ∷ P)
turn_inline {l = l} d (form (an_opt_directives ds g) (form (a_set s h) (form a_close F))) = (
  form (an_inline no_condition ds s g h) F,
  append_assoc (opt_directives_tokens ds) (set_tokens s) (tokens_of F),
  ap (λ (es : List Item). opens 24 d.start ∷ token_event d ∷ es) (fragment_join no_condition ds s d.start l F),
)

test_also : {c : Bool} {l : ℕ} {t : Token} {P K : List Sym} (m n : Move) (es : List Item) (b : Bool)
    → (b ≡ true → Back c l t P K (also es m)) → Back c l t P K (also es n) → Back c l t P K (also es (pick b m n))
test_also m n es true f g = f refl
test_also m n es false f g = g

-- what follows a `...`
on_spread : {c : Bool} {l : ℕ} {t : Token} (r : ℕ) (d : Token) (P K : List Sym) → Back c l t (spread r d ∷ P) K (at_spread r d (P ++ K) t)
unfolding at_spread
on_spread {t = t} r d P K =
    let s : ℕ = d.start in
    test (is_fragment_name t.kind)
    (λ e. takes (opens 22 s ∷ token_event d ∷ node 23 (t ∷ []) (name_events t)) (opt_directives r ∷ close 22 s ∷ P) refl (let w = is_fragment t e in rw w.2 (take_fragment d w.0 w.1)))
    (test_also
    (go (opens 25 t.start ∷ token_event t ∷ []) (named_type ∷ close 25 t.start ∷ opt_directives r ∷ selection_set r ∷ close 24 s ∷ (P ++ K)))
    (or_directives r (selection_set r ∷ close 24 s ∷ (P ++ K)) t (or_selection_set r (close 24 s ∷ (P ++ K)) t (stop 9)))
    (opens 24 s ∷ token_event d ∷ []) (eqb t.kind word_on)
    (λ e. takes (opens 24 s ∷ token_event d ∷ opens 25 t.start ∷ token_event t ∷ []) (named_type ∷ close 25 t.start ∷ opt_directives r ∷ selection_set r ∷ close 24 s ∷ P) refl
    (let w = is_kind word_on t e in rw w.1 (take_condition d w.0)))
    (turn (opens 24 s ∷ token_event d ∷ []) (turn_inline d)
    (on_opt_directives r (selection_set r ∷ close 24 s ∷ P) K (or_selection_set r (close 24 s ∷ (P ++ K)) t (stop 9)) (on_set r (close 24 s ∷ P) K))))

-- ---- the whole stack

-- one step back, whatever is due
pub back : (c : Bool) (l : ℕ) (t : Token) (P K : List Sym) → Back c l t P K (step c l (P ++ K) t)
unfolding step at_name at_colon at_named_type
back c l t [] K = passes [] (sym (also_none (step c l K t))) none refl refl
back c l t (value r ∷ P) K = on_value c r P K
back c l t (deeper r ∷ P) K = on_deeper c r P K
back c l t (items r s ∷ P) K = on_items c r s P K
back c l t (fields r s ∷ P) K = on_fields c r s P K
back c l t (name ∷ P) K = on_name name_events (λ u. P) (λ n F. (form (a_name n) F, refl, refl)) (refuses 9 refl)
back c l t (colon_due ∷ P) K = on_kind colon (λ u. token_event u ∷ []) (λ u. P) (λ k F. (form (a_colon k) F, refl, refl)) (refuses 9 refl)
back c l t (close n s ∷ P) K = on_close n s P K (step c l (P ++ K) t) (back c l t P K)
back c l t (selection_set r ∷ P) K = on_set r P K
back c l t (opt_selection_set r ∷ P) K = on_opt_set r P K (step c l (P ++ K) t) (back c l t P K)
back c l t (first_selection r s ∷ P) K = on_first_selection r s P K
back c l t (selections r s ∷ P) K = on_selections r s P K
back c l t (named r n ∷ P) K = on_named r n P K (back c l t P K)
back c l t (spread r d ∷ P) K = on_spread r d P K
back c l t (opt_arguments r ∷ P) K = on_opt_arguments r P K (step c l (P ++ K) t) (back c l t P K)
back c l t (first_argument r s ∷ P) K = on_first_argument r s P K
back c l t (arguments r s ∷ P) K = on_arguments r s P K
back c l t (opt_directives r ∷ P) K = on_opt_directives r P K (step c l (P ++ K) t) (back c l t P K)
back c l t (directives r s ∷ P) K = on_directives r s P K (step c l (P ++ K) t) (back c l t P K)
back c l t (named_type ∷ P) K =
    on_name (λ u. opens 12 u.start ∷ (name_events u ++ (closes 12 u.start (end_of u) ∷ []))) (λ u. P) (λ n F. (form (a_type n) F, refl, refl)) (refuses 9 refl)
