-- A selection set's tokens within the depth limit are read, with its events. An optional part that is missing must not be followed by a token
-- that would begin it: `Not`. Assumes nothing.
use Prim.Native.Nat.{ℕ, zero, suc, ◌≤◌}
use native.Mathlib.Omega.{arith}
use mathlib.Core.Path.{◌≡◌, refl, sym, ap, ◌∙◌}
use mathlib.Core.Bool.{false}
use mathlib.Core.List.{List, [], ◌∷◌, ◌++◌, append_assoc, append-nil}
use lib.Dec.{eqb}
use Rattle.base.specs.Item.{Item}
use Rattle.syntax.specs.Token.{eof, paren_l, paren_r, dots, colon, at, brace_l, brace_r, word_on, is_name, is_fragment_name, Token, end_of, token_event, opens, closes, name_events}
use Rattle.syntax.specs.Grammar.{Span, of, Name, name_token, FragmentWord, fragment_kind, start_of, last_end, node, Value, value_tokens, value_events, value_depth}
use Rattle.syntax.specs.Selections as trees
use Rattle.syntax.specs.Selections.{Argument, Arguments, one_argument, more_arguments, OptArguments, no_arguments, Directive, Directives, one_directive, more_directives, OptDirectives, no_directives, no_condition, condition, no_alias, alias, SelectionSet, Selections, one_selection, more_selections, Selection, field, fragment_spread, inline_fragment, OptSelectionSet, no_selection_set, some_selection_set, argument_tokens, arguments_tokens, opt_arguments_tokens, directive_tokens, directives_tokens, opt_directives_tokens, condition_tokens, set_tokens, selection_tokens, selections_tokens, opt_set_tokens, argument_events, arguments_events, opt_arguments_events, directive_events, directives_events, opt_directives_events, set_events, selection_events, selections_events, opt_set_events, arguments_depth, opt_arguments_depth, directives_depth, opt_directives_depth, set_depth, selection_depth, selections_depth, opt_set_depth}
use Rattle.syntax.specs.Machine.{Sym, value, name, colon_due, close, selection_set, opt_selection_set, first_selection, selections, named, spread, opt_arguments, first_argument, arguments, opt_directives, directives, named_type, at_colon, at_named_type, or_selection_set, or_selection, at_selections, after_name, or_arguments, or_argument, at_arguments, or_directive, at_spread, step, Read, accepted, emits, moved, run, read_selection_set}
use Rattle.syntax.proofs.Steps.{emits_emits, emits_none, Gives, and_then, same_as, events_as, moved_also, run_close, end_after, end_after_append, end_after_last, Not, Some, some_last, some_end, by_word, join_last, end_last, bracketed}
use Rattle.syntax.proofs.ValueComplete.{name_read, value_some, value_read, eof_read}
use Rattle.syntax.proofs.Forms.{a_plain, an_alias, a_fragment, an_inline, tail_tokens, tail_events}
use Rattle.syntax.proofs.BackSets.{directive_events_lem, field_events, spread_events}

-- ---- what was proved of names, values and closings

name_gives : (n : Name) (K : List Sym) (l : ℕ) (ts : List Token) → Gives (run false (name ∷ K) l (name_token n ∷ ts)) (name_events (name_token n)) (run false K (end_of (name_token n)) ts)
name_gives n K l ts = record { is = name_read false n K l ts }

close_gives : (n s l : ℕ) (K : List Sym) (ts : List Token) → Gives (run false (close n s ∷ K) l ts) (closes n s l ∷ []) (run false K l ts)
close_gives n s l K ts = record { is = run_close false n s l K ts }

value_gives : (v : Value false) (r : ℕ) (K : List Sym) (l : ℕ) (ts : List Token) → value_depth v ≤ r
    → Gives (run false (value r ∷ K) l (value_tokens v ++ ts)) (value_events v) (run false K (last_end (value_tokens v)) ts)
value_gives v r K l ts h = record { is = value_read v r K l ts h }

-- a `:`
colon_gives : (k : Span) (K : List Sym) (l : ℕ) (ts : List Token) → Gives (run false (colon_due ∷ K) l (of colon k ∷ ts)) (token_event (of colon k) ∷ []) (run false K (end_of (of colon k)) ts)
unfolding run step at_colon
colon_gives k K l ts = record { is = refl }

-- a node from its opening token a to its closing token b
bracket_gives : {x y : Read} (n : ℕ) (a b : Token) (us ts : List Token) (es : List Item) (K : List Sym) → Gives x (opens n a.start ∷ token_event a ∷ []) y
    → Gives y (es ++ (token_event b ∷ closes n a.start (end_of b) ∷ [])) (run false K (end_of b) ts)
    → Gives x (node n (a ∷ (us ++ (b ∷ []))) (token_event a ∷ (es ++ (token_event b ∷ [])))) (run false K (last_end (a ∷ (us ++ (b ∷ [])))) ts)
bracket_gives n a b us ts es K p q = record { is = p.is ∙ ap (emits (opens n a.start ∷ token_event a ∷ [])) q.is ∙ bracketed false n a b us ts es K }

-- ---- arguments

-- an argument's name
argument_name : (n : Name) (r s : ℕ) (K : List Sym) (l : ℕ) (ts : List Token) → Gives (run false (first_argument r s ∷ K) l (name_token n ∷ ts))
    (opens 19 n.span.start ∷ name_events (name_token n)) (run false (colon_due ∷ value r ∷ close 19 n.span.start ∷ arguments r s ∷ K) (end_of (name_token n)) ts)
unfolding run step or_argument is_name
argument_name n r s K l ts =
    by_word (λ (k : ℕ). Gives (run false (first_argument r s ∷ K) l (of k n.span ∷ ts))
    (opens 19 n.span.start ∷ name_events (of k n.span)) (run false (colon_due ∷ value r ∷ close 19 n.span.start ∷ arguments r s ∷ K) (end_of (of k n.span)) ts))
    (record { is = refl }) (record { is = refl }) (record { is = refl }) (record { is = refl }) (record { is = refl }) n.word

-- a further argument is read as the first is
further_argument : (n : Name) (r s : ℕ) (K : List Sym) (l : ℕ) (ts : List Token) → run false (arguments r s ∷ K) l (name_token n ∷ ts) ≡ run false (first_argument r s ∷ K) l (name_token n ∷ ts)
unfolding run step at_arguments
further_argument n r s K l ts =
    by_word (λ (k : ℕ). run false (arguments r s ∷ K) l (of k n.span ∷ ts) ≡ run false (first_argument r s ∷ K) l (of k n.span ∷ ts)) refl refl refl refl refl n.word

-- an argument
argument_read : (a : Argument) (r s : ℕ) (K : List Sym) (l : ℕ) (ts : List Token) → value_depth a.value ≤ r
    → Gives (run false (first_argument r s ∷ K) l (argument_tokens a ++ ts)) (argument_events a) (run false (arguments r s ∷ K) (last_end (value_tokens a.value)) ts)
argument_read a r s K l ts h =
    let n = a.name in
    let k = a.colon_at in
    let v = a.value in
    let q : ℕ = n.span.start in
    rw (some_last (of colon k) (value_tokens v) (value_some v))
    (and_then (argument_name n r s K l (of colon k ∷ (value_tokens v ++ ts)))
    (and_then (colon_gives k (value r ∷ close 19 q ∷ arguments r s ∷ K) (end_of (name_token n)) (value_tokens v ++ ts))
    (and_then (value_gives v r (close 19 q ∷ arguments r s ∷ K) (end_of (of colon k)) ts h)
    (close_gives 19 q (last_end (value_tokens v)) (arguments r s ∷ K) ts))))

-- the `)`
arguments_end : (r s : ℕ) (K : List Sym) (l : ℕ) (b : Span) (ts : List Token)
    → Gives (run false (arguments r s ∷ K) l (of paren_r b ∷ ts)) (token_event (of paren_r b) ∷ closes 18 s (end_of (of paren_r b)) ∷ []) (run false K (end_of (of paren_r b)) ts)
unfolding run step at_arguments
arguments_end r s K l b ts = record { is = refl }

-- the first token of some arguments is a name
arguments_further : (xs : Arguments) (r s : ℕ) (K : List Sym) (l : ℕ) (ts : List Token) → run false (arguments r s ∷ K) l (arguments_tokens xs ++ ts) ≡ run false (first_argument r s ∷ K) l (arguments_tokens xs ++ ts)
arguments_further (one_argument a) r s K l ts = further_argument a.name r s K l (of colon a.colon_at ∷ (value_tokens a.value ++ ts))
arguments_further (more_arguments a xs) r s K l ts = further_argument a.name r s K l (of colon a.colon_at ∷ ((value_tokens a.value ++ arguments_tokens xs) ++ ts))

-- some arguments and their `)`
arguments_read : (xs : Arguments) (r s : ℕ) (K : List Sym) (l : ℕ) (b : Span) (ts : List Token) → arguments_depth xs ≤ r
    → Gives (run false (first_argument r s ∷ K) l (arguments_tokens xs ++ (of paren_r b ∷ ts)))
    (arguments_events xs ++ (token_event (of paren_r b) ∷ closes 18 s (end_of (of paren_r b)) ∷ [])) (run false K (end_of (of paren_r b)) ts)
arguments_read (one_argument a) r s K l b ts h = and_then (argument_read a r s K l (of paren_r b ∷ ts) h) (arguments_end r s K (last_end (value_tokens a.value)) b ts)
arguments_read (more_arguments a xs) r s K l b ts h =
    let e : ℕ = last_end (value_tokens a.value) in
    rw (append_assoc (argument_tokens a) (arguments_tokens xs) (of paren_r b ∷ ts), append_assoc (argument_events a) (arguments_events xs) (token_event (of paren_r b) ∷ closes 18 s (end_of (of paren_r b)) ∷ []))
    (and_then (argument_read a r s K l (arguments_tokens xs ++ (of paren_r b ∷ ts)) (omega arith))
    (same_as (arguments_further xs r s K e (of paren_r b ∷ ts)) (arguments_read xs r s K e b ts (omega arith))))

-- the `(`
arguments_open : (a : Span) (r : ℕ) (K : List Sym) (l : ℕ) (ts : List Token)
    → Gives (run false (opt_arguments r ∷ K) l (of paren_l a ∷ ts)) (opens 18 a.start ∷ token_event (of paren_l a) ∷ []) (run false (first_argument r a.start ∷ K) (end_of (of paren_l a)) ts)
unfolding run step or_arguments
arguments_open a r K l ts = record { is = refl }

-- no arguments
no_arguments_lem : (r : ℕ) (K : List Sym) (l : ℕ) (ts : List Token) → Not paren_l ts → Gives (run false (opt_arguments r ∷ K) l ts) [] (run false K l ts)
unfolding run step or_arguments
no_arguments_lem r K l [] n = record { is = refl }
no_arguments_lem r K l (t ∷ ts) n = record { is = rw n (sym (emits_none (moved (step false l K t) t.start (λ K'. run false K' (end_of t) ts)))) }

-- arguments, or none
opt_arguments_read : (xs : OptArguments) (r : ℕ) (K : List Sym) (l : ℕ) (ts : List Token) → opt_arguments_depth xs ≤ r → Not paren_l ts
    → Gives (run false (opt_arguments r ∷ K) l (opt_arguments_tokens xs ++ ts)) (opt_arguments_events xs) (run false K (end_after l (opt_arguments_tokens xs)) ts)
opt_arguments_read no_arguments r K l ts h n = no_arguments_lem r K l ts n
opt_arguments_read (trees.arguments a xs b) r K l ts h n =
    rw (append_assoc (arguments_tokens xs) (of paren_r b ∷ []) ts, end_after_last l (of paren_l a) (arguments_tokens xs ++ (of paren_r b ∷ [])))
    (bracket_gives 18 (of paren_l a) (of paren_r b) (arguments_tokens xs) ts (arguments_events xs) K
    (arguments_open a r K l (arguments_tokens xs ++ (of paren_r b ∷ ts)))
    (arguments_read xs r a.start K (end_of (of paren_l a)) b ts h))

-- ---- directives

-- an `@`
directive_open : (a : Span) (r s : ℕ) (K : List Sym) (l : ℕ) (ts : List Token) → Gives (run false (directives r s ∷ K) l (of at a ∷ ts))
    (opens 21 a.start ∷ token_event (of at a) ∷ []) (run false (name ∷ opt_arguments r ∷ close 21 a.start ∷ directives r s ∷ K) (end_of (of at a)) ts)
unfolding run step or_directive
directive_open a r s K l ts = record { is = refl }

-- a directive
directive_read : (d : Directive) (r s : ℕ) (K : List Sym) (l : ℕ) (ts : List Token) → opt_arguments_depth d.args ≤ r → Not paren_l ts
    → Gives (run false (directives r s ∷ K) l (directive_tokens d ++ ts)) (directive_events d) (run false (directives r s ∷ K) (end_after l (directive_tokens d)) ts)
directive_read d r s K l ts h n =
    let a = d.at_at in
    let m = d.name in
    let xs = d.args in
    rw (directive_events_lem a m xs)
    (and_then (directive_open a r s K l (name_token m ∷ (opt_arguments_tokens xs ++ ts)))
    (and_then (name_gives m (opt_arguments r ∷ close 21 a.start ∷ directives r s ∷ K) (end_of (of at a)) (opt_arguments_tokens xs ++ ts))
    (and_then (opt_arguments_read xs r (close 21 a.start ∷ directives r s ∷ K) (end_of (name_token m)) ts h n)
    (close_gives 21 a.start (end_after (end_of (name_token m)) (opt_arguments_tokens xs)) (directives r s ∷ K) ts))))

-- no further directives
directives_end : (r s : ℕ) (K : List Sym) (l : ℕ) (ts : List Token) → Not at ts → Gives (run false (directives r s ∷ K) l ts) (closes 20 s l ∷ []) (run false K l ts)
unfolding run step or_directive
directives_end r s K l [] n = record { is = refl }
directives_end r s K l (t ∷ ts) n = record { is = rw n (moved_also (closes 20 s l ∷ []) (step false l K t) t.start (λ K'. run false K' (end_of t) ts)) }

-- directives begin with an `@`
directives_first : (ds : Directives) (k : ℕ) (ts : List Token) → eqb at k ≡ false → Not k (directives_tokens ds ++ ts)
directives_first (one_directive d) k ts e = e
directives_first (more_directives d ds) k ts e = e

-- some directives
directives_read : (ds : Directives) (r s : ℕ) (K : List Sym) (l : ℕ) (ts : List Token) → directives_depth ds ≤ r → Not paren_l ts → Not at ts
    → Gives (run false (directives r s ∷ K) l (directives_tokens ds ++ ts)) (directives_events ds ++ (closes 20 s (end_after l (directives_tokens ds)) ∷ [])) (run false K (end_after l (directives_tokens ds)) ts)
directives_read (one_directive d) r s K l ts h n m = and_then (directive_read d r s K l ts h n) (directives_end r s K (end_after l (directive_tokens d)) ts m)
directives_read (more_directives d ds) r s K l ts h n m =
    let e : ℕ = end_after (end_after l (directive_tokens d)) (directives_tokens ds) in
    rw (append_assoc (directive_tokens d) (directives_tokens ds) ts, end_after_append l (directive_tokens d) (directives_tokens ds), append_assoc (directive_events d) (directives_events ds) (closes 20 s e ∷ []))
    (and_then (directive_read d r s K l (directives_tokens ds ++ ts) (omega arith) (directives_first ds paren_l ts refl))
    (directives_read ds r s K (end_after l (directive_tokens d)) ts (omega arith) n m))

-- the first `@`
first_at : (a : Span) (r : ℕ) (K : List Sym) (l : ℕ) (ts : List Token)
    → Gives (run false (opt_directives r ∷ K) l (of at a ∷ ts)) (opens 20 a.start ∷ []) (run false (directives r a.start ∷ K) l (of at a ∷ ts))
unfolding run step or_directive
first_at a r K l ts =
    record {
      is = sym (emits_emits (opens 20 a.start ∷ []) (opens 21 a.start ∷ token_event (of at a) ∷ [])
          (run false (name ∷ opt_arguments r ∷ close 21 a.start ∷ directives r a.start ∷ K) (end_of (of at a)) ts));
    }

directives_open : (ds : Directives) (r : ℕ) (K : List Sym) (l : ℕ) (ts : List Token)
    → Gives (run false (opt_directives r ∷ K) l (directives_tokens ds ++ ts)) (opens 20 (start_of (directives_tokens ds)) ∷ []) (run false (directives r (start_of (directives_tokens ds)) ∷ K) l (directives_tokens ds ++ ts))
directives_open (one_directive d) r K l ts = first_at d.at_at r K l (name_token d.name ∷ (opt_arguments_tokens d.args ++ ts))
directives_open (more_directives d ds) r K l ts = first_at d.at_at r K l (name_token d.name ∷ ((opt_arguments_tokens d.args ++ directives_tokens ds) ++ ts))

-- no directives
no_directives_lem : (r : ℕ) (K : List Sym) (l : ℕ) (ts : List Token) → Not at ts → Gives (run false (opt_directives r ∷ K) l ts) [] (run false K l ts)
unfolding run step or_directive
no_directives_lem r K l [] n = record { is = refl }
no_directives_lem r K l (t ∷ ts) n = record { is = rw n (sym (emits_none (moved (step false l K t) t.start (λ K'. run false K' (end_of t) ts)))) }

directives_some : (ds : Directives) → Some (directives_tokens ds)
directives_some (one_directive d) = (of at d.at_at, name_token d.name ∷ opt_arguments_tokens d.args, refl)
directives_some (more_directives d ds) = (of at d.at_at, name_token d.name ∷ (opt_arguments_tokens d.args ++ directives_tokens ds), refl)

-- directives, or none
opt_directives_read : (ds : OptDirectives) (r : ℕ) (K : List Sym) (l : ℕ) (ts : List Token) → opt_directives_depth ds ≤ r → Not paren_l ts → Not at ts
    → Gives (run false (opt_directives r ∷ K) l (opt_directives_tokens ds ++ ts)) (opt_directives_events ds) (run false K (end_after l (opt_directives_tokens ds)) ts)
opt_directives_read no_directives r K l ts h n m = no_directives_lem r K l ts m
opt_directives_read (trees.directives ds) r K l ts h n m =
    rw (← some_end l (directives_tokens ds) (directives_some ds))
    (and_then (directives_open ds r K l ts) (directives_read ds r (start_of (directives_tokens ds)) K l ts h n m))

-- ---- what follows

-- a selection is followed by none of `:`, `(`, `@` and `{`: where a part of it may be missing, none of these begins it
abbrev pub Follow : List Token → Type 0
Follow ts = Not colon ts × Not paren_l ts × Not at ts × Not brace_l ts

-- directives, or none, and then what is no k
directives_not : (k : ℕ) (ds : OptDirectives) (ts : List Token) → eqb at k ≡ false → Not k ts → Not k (opt_directives_tokens ds ++ ts)
directives_not k no_directives ts e n = n
directives_not k (trees.directives ds) ts e n = directives_first ds k ts e

set_not : (k : ℕ) (s : OptSelectionSet) (ts : List Token) → eqb brace_l k ≡ false → Not k ts → Not k (opt_set_tokens s ++ ts)
set_not k no_selection_set ts e n = n
set_not k (some_selection_set (trees.selection_set a ss b)) ts e n = e

arguments_not : (k : ℕ) (xs : OptArguments) (ts : List Token) → eqb paren_l k ≡ false → Not k ts → Not k (opt_arguments_tokens xs ++ ts)
arguments_not k no_arguments ts e n = n
arguments_not k (trees.arguments a xs b) ts e n = e

-- what may follow a field's name begins with no `:`
tail_not_colon : (xs : OptArguments) (ds : OptDirectives) (s : OptSelectionSet) (ts : List Token) → Not colon ts → Not colon (tail_tokens xs ds s ++ ts)
tail_not_colon xs ds s ts n =
    rw (join_last (opt_arguments_tokens xs) (opt_directives_tokens ds) (opt_set_tokens s) ts)
    (arguments_not colon xs (opt_directives_tokens ds ++ (opt_set_tokens s ++ ts)) refl (directives_not colon ds (opt_set_tokens s ++ ts) refl (set_not colon s ts refl n)))

follow_name : (n : Name) (ts : List Token) → Follow (name_token n ∷ ts)
follow_name n ts =
    by_word (λ (k : ℕ). (eqb k colon ≡ false) × (eqb k paren_l ≡ false) × (eqb k at ≡ false) × (eqb k brace_l ≡ false))
    (refl, refl, refl, refl) (refl, refl, refl, refl) (refl, refl, refl, refl) (refl, refl, refl, refl) (refl, refl, refl, refl) n.word

follow_selection : (x : Selection) (ts : List Token) → Follow (selection_tokens x ++ ts)
follow_selection (field no_alias n xs ds s) ts = follow_name n (tail_tokens xs ds s ++ ts)
follow_selection (field (alias m k) n xs ds s) ts = follow_name m (of colon k ∷ name_token n ∷ (tail_tokens xs ds s ++ ts))
follow_selection (fragment_spread d w n ds) ts = (refl, refl, refl, refl)
follow_selection (inline_fragment d k ds s) ts = (refl, refl, refl, refl)

follow_selections : (ss : Selections) (ts : List Token) → Follow (selections_tokens ss ++ ts)
follow_selections (one_selection x) ts = follow_selection x ts
follow_selections (more_selections x ss) ts = rw (append_assoc (selection_tokens x) (selections_tokens ss) ts) (follow_selection x (selections_tokens ss ++ ts))

-- ---- selections

-- the first selection is read as a further one is
first_name_lem : (n : Name) (r s : ℕ) (K : List Sym) (l : ℕ) (ts : List Token) → run false (first_selection (suc r) s ∷ K) l (name_token n ∷ ts) ≡ run false (selections r s ∷ K) l (name_token n ∷ ts)
unfolding run step at_selections
first_name_lem n r s K l ts =
    by_word (λ (k : ℕ). run false (first_selection (suc r) s ∷ K) l (of k n.span ∷ ts) ≡ run false (selections r s ∷ K) l (of k n.span ∷ ts)) refl refl refl refl refl n.word

first_dots : (d : Span) (r s : ℕ) (K : List Sym) (l : ℕ) (ts : List Token) → run false (first_selection (suc r) s ∷ K) l (of dots d ∷ ts) ≡ run false (selections r s ∷ K) l (of dots d ∷ ts)
unfolding run step at_selections
first_dots d r s K l ts = refl

first_selection_lem : (x : Selection) (r s : ℕ) (K : List Sym) (l : ℕ) (ts : List Token)
    → run false (first_selection (suc r) s ∷ K) l (selection_tokens x ++ ts) ≡ run false (selections r s ∷ K) l (selection_tokens x ++ ts)
first_selection_lem (field no_alias n xs ds q) r s K l ts = first_name_lem n r s K l (tail_tokens xs ds q ++ ts)
first_selection_lem (field (alias m k) n xs ds q) r s K l ts = first_name_lem m r s K l (of colon k ∷ name_token n ∷ (tail_tokens xs ds q ++ ts))
first_selection_lem (fragment_spread d w n ds) r s K l ts = first_dots d r s K l (of (fragment_kind w) n ∷ (opt_directives_tokens ds ++ ts))
first_selection_lem (inline_fragment d k ds q) r s K l ts = first_dots d r s K l ((condition_tokens k ++ (opt_directives_tokens ds ++ set_tokens q)) ++ ts)

first_selections : (ss : Selections) (r s : ℕ) (K : List Sym) (l : ℕ) (ts : List Token)
    → run false (first_selection (suc r) s ∷ K) l (selections_tokens ss ++ ts) ≡ run false (selections r s ∷ K) l (selections_tokens ss ++ ts)
first_selections (one_selection x) r s K l ts = first_selection_lem x r s K l ts
first_selections (more_selections x ss) r s K l ts = rw (append_assoc (selection_tokens x) (selections_tokens ss) ts) (first_selection_lem x r s K l (selections_tokens ss ++ ts))

-- a field's first name
name_due_lem : (n : Name) (r s : ℕ) (K : List Sym) (l : ℕ) (ts : List Token)
    → Gives (run false (selections r s ∷ K) l (name_token n ∷ ts)) [] (run false (named r (name_token n) ∷ selections r s ∷ K) (end_of (name_token n)) ts)
unfolding run step at_selections or_selection is_name
name_due_lem n r s K l ts =
    by_word (λ (k : ℕ). Gives (run false (selections r s ∷ K) l (of k n.span ∷ ts)) [] (run false (named r (of k n.span) ∷ selections r s ∷ K) (end_of (of k n.span)) ts))
    (record { is = refl }) (record { is = refl }) (record { is = refl }) (record { is = refl }) (record { is = refl }) n.word

-- a `...`
dots_due : (d : Span) (r s : ℕ) (K : List Sym) (l : ℕ) (ts : List Token)
    → Gives (run false (selections r s ∷ K) l (of dots d ∷ ts)) [] (run false (spread r (of dots d) ∷ selections r s ∷ K) (end_of (of dots d)) ts)
unfolding run step at_selections or_selection is_name
dots_due d r s K l ts = record { is = refl }

-- the name is the field's own
plain_name : (n : Token) (r : ℕ) (K : List Sym) (l : ℕ) (ts : List Token) → Not colon ts → Gives (run false (named r n ∷ K) l ts) (opens 16 n.start ∷ name_events n) (run false (after_name r n.start K) l ts)
unfolding run step
plain_name n r K l [] e = record { is = refl }
plain_name n r K l (t ∷ ts) e =
    record { is = rw e (moved_also (opens 16 n.start ∷ name_events n) (step false l (after_name r n.start K) t) t.start (λ K'. run false K' (end_of t) ts)) }

-- the name is an alias
alias_name : (n : Token) (k : Span) (r : ℕ) (K : List Sym) (l : ℕ) (ts : List Token) → Gives (run false (named r n ∷ K) l (of colon k ∷ ts))
    (opens 16 n.start ∷ opens 17 n.start ∷ (name_events n ++ (token_event (of colon k) ∷ closes 17 n.start (end_of (of colon k)) ∷ []))) (run false (name ∷ after_name r n.start K) (end_of (of colon k)) ts)
unfolding run step
alias_name n k r K l ts = record { is = refl }

-- what may follow a field's name, and the field's end
tail_read : (xs : OptArguments) (ds : OptDirectives) (s : OptSelectionSet) (r q : ℕ) (K : List Sym) (l : ℕ) (ts : List Token) → opt_arguments_depth xs ≤ r → opt_directives_depth ds ≤ r → Follow ts
    → ((e : ℕ) → Gives (run false (opt_selection_set r ∷ close 16 q ∷ K) e (opt_set_tokens s ++ ts)) (opt_set_events s) (run false (close 16 q ∷ K) (end_after e (opt_set_tokens s)) ts))
    → Gives (run false (after_name r q K) l (tail_tokens xs ds s ++ ts)) (tail_events xs ds s ++ (closes 16 q (end_after l (tail_tokens xs ds s)) ∷ [])) (run false K (end_after l (tail_tokens xs ds s)) ts)
tail_read xs ds s r q K l ts g h f set =
    let e₁ : ℕ = end_after l (opt_arguments_tokens xs) in
    let e₂ : ℕ = end_after e₁ (opt_directives_tokens ds) in
    let e₃ : ℕ = end_after e₂ (opt_set_tokens s) in
    let us = opt_set_tokens s ++ ts in
    rw (
      join_last (opt_arguments_tokens xs) (opt_directives_tokens ds) (opt_set_tokens s) ts,
      end_last l (opt_arguments_tokens xs) (opt_directives_tokens ds) (opt_set_tokens s),
      join_last (opt_arguments_events xs) (opt_directives_events ds) (opt_set_events s) (closes 16 q e₃ ∷ []),
    )
    (and_then (opt_arguments_read xs r (opt_directives r ∷ opt_selection_set r ∷ close 16 q ∷ K) l (opt_directives_tokens ds ++ us) g (directives_not paren_l ds us refl (set_not paren_l s ts refl f.1)))
    (and_then (opt_directives_read ds r (opt_selection_set r ∷ close 16 q ∷ K) e₁ us h (set_not paren_l s ts refl f.1) (set_not at s ts refl f.2))
    (and_then (set e₂) (close_gives 16 q e₃ K ts))))

-- a fragment spread's name
fragment_name_lem : (d : Token) (w : FragmentWord) (n : Span) (r : ℕ) (K : List Sym) (l : ℕ) (ts : List Token) → Gives (run false (spread r d ∷ K) l (of (fragment_kind w) n ∷ ts))
    (opens 22 d.start ∷ token_event d ∷ node 23 (of (fragment_kind w) n ∷ []) (name_events (of (fragment_kind w) n))) (run false (opt_directives r ∷ close 22 d.start ∷ K) (end_of (of (fragment_kind w) n)) ts)
unfolding run step at_spread is_fragment_name
fragment_name_lem d FragmentWord.other n r K l ts = record { is = refl }
fragment_name_lem d FragmentWord.is_true n r K l ts = record { is = refl }
fragment_name_lem d FragmentWord.is_false n r K l ts = record { is = refl }
fragment_name_lem d FragmentWord.is_null n r K l ts = record { is = refl }

-- a type condition's `on`
condition_on : (d : Token) (o : Span) (r : ℕ) (K : List Sym) (l : ℕ) (ts : List Token) → Gives (run false (spread r d ∷ K) l (of word_on o ∷ ts))
    (opens 24 d.start ∷ token_event d ∷ opens 25 o.start ∷ token_event (of word_on o) ∷ [])
    (run false (named_type ∷ close 25 o.start ∷ opt_directives r ∷ selection_set r ∷ close 24 d.start ∷ K) (end_of (of word_on o)) ts)
unfolding run step at_spread is_fragment_name
condition_on d o r K l ts = record { is = refl }

-- its NAMED_TYPE
type_gives : (n : Name) (K : List Sym) (l : ℕ) (ts : List Token) → Gives (run false (named_type ∷ K) l (name_token n ∷ ts)) (node 12 (name_token n ∷ []) (name_events (name_token n))) (run false K (end_of (name_token n)) ts)
unfolding run step at_named_type is_name
type_gives n K l ts =
    by_word (λ (k : ℕ). Gives (run false (named_type ∷ K) l (of k n.span ∷ ts)) (node 12 (of k n.span ∷ []) (name_events (of k n.span))) (run false K (end_of (of k n.span)) ts))
    (record { is = refl }) (record { is = refl }) (record { is = refl }) (record { is = refl }) (record { is = refl }) n.word

-- an inline fragment without a type condition
inline_at : (d t : Token) (r : ℕ) (K : List Sym) (l : ℕ) (ts : List Token) → is_fragment_name t.kind ≡ false → eqb t.kind word_on ≡ false
    → Gives (run false (spread r d ∷ K) l (t ∷ ts)) (opens 24 d.start ∷ token_event d ∷ []) (run false (opt_directives r ∷ selection_set r ∷ close 24 d.start ∷ K) l (t ∷ ts))
unfolding run step at_spread
inline_at d t r K l ts e f =
    record { is = rw (e, f) (moved_also (opens 24 d.start ∷ token_event d ∷ []) (step false l (opt_directives r ∷ selection_set r ∷ close 24 d.start ∷ K) t) t.start (λ K'. run false K' (end_of t) ts)) }

inline_due : (d : Token) (ds : OptDirectives) (s : SelectionSet) (r : ℕ) (K : List Sym) (l : ℕ) (ts : List Token)
    → Gives (run false (spread r d ∷ K) l (opt_directives_tokens ds ++ (set_tokens s ++ ts))) (opens 24 d.start ∷ token_event d ∷ [])
    (run false (opt_directives r ∷ selection_set r ∷ close 24 d.start ∷ K) l (opt_directives_tokens ds ++ (set_tokens s ++ ts)))
unfolding is_fragment_name
inline_due d no_directives (trees.selection_set a ss b) r K l ts = inline_at d (of brace_l a) r K l ((selections_tokens ss ++ (of brace_r b ∷ [])) ++ ts) refl refl
inline_due d (trees.directives (one_directive x)) s r K l ts = inline_at d (of at x.at_at) r K l (name_token x.name ∷ (opt_arguments_tokens x.args ++ (set_tokens s ++ ts))) refl refl
inline_due d (trees.directives (more_directives x ds)) s r K l ts =
    inline_at d (of at x.at_at) r K l (name_token x.name ∷ ((opt_arguments_tokens x.args ++ directives_tokens ds) ++ (set_tokens s ++ ts))) refl refl

-- ---- selection sets

-- the `{`, the `}`
set_open : (a : Span) (r : ℕ) (K : List Sym) (l : ℕ) (ts : List Token)
    → Gives (run false (selection_set r ∷ K) l (of brace_l a ∷ ts)) (opens 15 a.start ∷ token_event (of brace_l a) ∷ []) (run false (first_selection r a.start ∷ K) (end_of (of brace_l a)) ts)
unfolding run step or_selection_set
set_open a r K l ts = record { is = refl }

selections_end : (r s : ℕ) (K : List Sym) (l : ℕ) (b : Span) (ts : List Token)
    → Gives (run false (selections r s ∷ K) l (of brace_r b ∷ ts)) (token_event (of brace_r b) ∷ closes 15 s (end_of (of brace_r b)) ∷ []) (run false K (end_of (of brace_r b)) ts)
unfolding run step at_selections
selections_end r s K l b ts = record { is = refl }

-- a selection set that may be missing, but is not
some_set : (s : SelectionSet) (r : ℕ) (K : List Sym) (l : ℕ) (ts : List Token) → run false (opt_selection_set r ∷ K) l (set_tokens s ++ ts) ≡ run false (selection_set r ∷ K) l (set_tokens s ++ ts)
unfolding run step or_selection_set
some_set (trees.selection_set a ss b) r K l ts = refl

no_set_lem : (r : ℕ) (K : List Sym) (l : ℕ) (ts : List Token) → Not brace_l ts → Gives (run false (opt_selection_set r ∷ K) l ts) [] (run false K l ts)
unfolding run step or_selection_set
no_set_lem r K l [] n = record { is = refl }
no_set_lem r K l (t ∷ ts) n = record { is = rw n (sym (emits_none (moved (step false l K t) t.start (λ K'. run false K' (end_of t) ts)))) }

set_not_paren : (k : ℕ) (s : SelectionSet) (ts : List Token) → eqb brace_l k ≡ false → Not k (set_tokens s ++ ts)
set_not_paren k (trees.selection_set a ss b) ts e = e

mutual
  -- whatever is due below, a selection set's tokens give its events and leave that due
  pub set_read : (x : SelectionSet) (r : ℕ) (K : List Sym) (l : ℕ) (ts : List Token) → set_depth x ≤ r
      → Gives (run false (selection_set r ∷ K) l (set_tokens x ++ ts)) (set_events x) (run false K (end_after l (set_tokens x)) ts)
  set_read (trees.selection_set a ss b) zero K l ts h = absurd (omega arith)
  set_read (trees.selection_set a ss b) (suc r) K l ts h =
      rw (append_assoc (selections_tokens ss) (of brace_r b ∷ []) ts, end_after_last l (of brace_l a) (selections_tokens ss ++ (of brace_r b ∷ [])))
      (bracket_gives 15 (of brace_l a) (of brace_r b) (selections_tokens ss) ts (selections_events ss) K
      (set_open a (suc r) K l (selections_tokens ss ++ (of brace_r b ∷ ts)))
      (same_as (first_selections ss r a.start K (end_of (of brace_l a)) (of brace_r b ∷ ts)) (selections_read ss r a.start K (end_of (of brace_l a)) b ts (omega arith))))

  -- some selections and the `}`
  pub selections_read : (ss : Selections) (r s : ℕ) (K : List Sym) (l : ℕ) (b : Span) (ts : List Token) → selections_depth ss ≤ r
      → Gives (run false (selections r s ∷ K) l (selections_tokens ss ++ (of brace_r b ∷ ts)))
      (selections_events ss ++ (token_event (of brace_r b) ∷ closes 15 s (end_of (of brace_r b)) ∷ [])) (run false K (end_of (of brace_r b)) ts)
  selections_read (one_selection x) r s K l b ts h =
      and_then (selection_read x r s K l (of brace_r b ∷ ts) h (refl, refl, refl, refl)) (selections_end r s K (end_after l (selection_tokens x)) b ts)
  selections_read (more_selections x ss) r s K l b ts h =
      rw (
        append_assoc (selection_tokens x) (selections_tokens ss) (of brace_r b ∷ ts),
        append_assoc (selection_events x) (selections_events ss) (token_event (of brace_r b) ∷ closes 15 s (end_of (of brace_r b)) ∷ []),
      )
      (and_then (selection_read x r s K l (selections_tokens ss ++ (of brace_r b ∷ ts)) (omega arith) (follow_selections ss (of brace_r b ∷ ts)))
      (selections_read ss r s K (end_after l (selection_tokens x)) b ts (omega arith)))

  -- a selection, before what may follow one
  pub selection_read : (x : Selection) (r s : ℕ) (K : List Sym) (l : ℕ) (ts : List Token) → selection_depth x ≤ r → Follow ts
      → Gives (run false (selections r s ∷ K) l (selection_tokens x ++ ts)) (selection_events x) (run false (selections r s ∷ K) (end_after l (selection_tokens x)) ts)
  selection_read (field no_alias n xs ds q) r s K l ts h f =
      let g₁ : opt_arguments_depth xs ≤ r = omega arith in
      let g₂ : opt_directives_depth ds ≤ r = omega arith in
      let g₃ : opt_set_depth q ≤ r = omega arith in
      let p : ℕ = n.span.start in
      events_as (field_events {c = false} n (a_plain xs ds q g₁ g₂ g₃))
      (and_then (name_due_lem n r s K l (tail_tokens xs ds q ++ ts))
      (and_then (plain_name (name_token n) r (selections r s ∷ K) (end_of (name_token n)) (tail_tokens xs ds q ++ ts) (tail_not_colon xs ds q ts f.0))
      (tail_read xs ds q r p (selections r s ∷ K) (end_of (name_token n)) ts g₁ g₂ f (λ e. opt_set_read q r (close 16 p ∷ selections r s ∷ K) e ts g₃ f.3))))
  selection_read (field (alias m k) n xs ds q) r s K l ts h f =
      let g₁ : opt_arguments_depth xs ≤ r = omega arith in
      let g₂ : opt_directives_depth ds ≤ r = omega arith in
      let g₃ : opt_set_depth q ≤ r = omega arith in
      let p : ℕ = m.span.start in
      events_as (field_events {c = false} m (an_alias k n xs ds q g₁ g₂ g₃))
      (and_then (name_due_lem m r s K l (of colon k ∷ name_token n ∷ (tail_tokens xs ds q ++ ts)))
      (and_then (alias_name (name_token m) k r (selections r s ∷ K) (end_of (name_token m)) (name_token n ∷ (tail_tokens xs ds q ++ ts)))
      (and_then (name_gives n (after_name r p (selections r s ∷ K)) (end_of (of colon k)) (tail_tokens xs ds q ++ ts))
      (tail_read xs ds q r p (selections r s ∷ K) (end_of (name_token n)) ts g₁ g₂ f (λ e. opt_set_read q r (close 16 p ∷ selections r s ∷ K) e ts g₃ f.3)))))
  selection_read (fragment_spread d w n ds) r s K l ts h f =
      let e : ℕ = end_of (of (fragment_kind w) n) in
      events_as (spread_events {c = false} d (a_fragment w n ds h))
      (and_then (dots_due d r s K l (of (fragment_kind w) n ∷ (opt_directives_tokens ds ++ ts)))
      (and_then (fragment_name_lem (of dots d) w n r (selections r s ∷ K) (end_of (of dots d)) (opt_directives_tokens ds ++ ts))
      (and_then (opt_directives_read ds r (close 22 d.start ∷ selections r s ∷ K) e ts h f.1 f.2)
      (close_gives 22 d.start (end_after e (opt_directives_tokens ds)) (selections r s ∷ K) ts))))
  selection_read (inline_fragment d no_condition ds q) r s K l ts h f =
      let g₁ : opt_directives_depth ds ≤ r = omega arith in
      let g₂ : set_depth q ≤ r = omega arith in
      let us = set_tokens q ++ ts in
      let p : ℕ = d.start in
      let e₁ : ℕ = end_of (of dots d) in
      let e₂ : ℕ = end_after e₁ (opt_directives_tokens ds) in
      events_as (spread_events {c = false} d (an_inline no_condition ds q g₁ g₂))
      (rw (append_assoc (opt_directives_tokens ds) (set_tokens q) ts, end_after_append e₁ (opt_directives_tokens ds) (set_tokens q))
      (and_then (dots_due d r s K l (opt_directives_tokens ds ++ us))
      (and_then (inline_due (of dots d) ds q r (selections r s ∷ K) e₁ ts)
      (and_then (opt_directives_read ds r (selection_set r ∷ close 24 p ∷ selections r s ∷ K) e₁ us g₁ (set_not_paren paren_l q ts refl) (set_not_paren at q ts refl))
      (and_then (set_read q r (close 24 p ∷ selections r s ∷ K) e₂ ts g₂)
      (close_gives 24 p (end_after e₂ (set_tokens q)) (selections r s ∷ K) ts))))))
  selection_read (inline_fragment d (condition o n) ds q) r s K l ts h f =
      let g₁ : opt_directives_depth ds ≤ r = omega arith in
      let g₂ : set_depth q ≤ r = omega arith in
      let us = set_tokens q ++ ts in
      let p : ℕ = d.start in
      let e₁ : ℕ = end_of (name_token n) in
      let e₂ : ℕ = end_after e₁ (opt_directives_tokens ds) in
      let K₁ = opt_directives r ∷ selection_set r ∷ close 24 p ∷ selections r s ∷ K in
      events_as (spread_events {c = false} d (an_inline (condition o n) ds q g₁ g₂))
      (rw (append_assoc (opt_directives_tokens ds) (set_tokens q) ts, end_after_append e₁ (opt_directives_tokens ds) (set_tokens q))
      (and_then (dots_due d r s K l (of word_on o ∷ name_token n ∷ (opt_directives_tokens ds ++ us)))
      (and_then (condition_on (of dots d) o r (selections r s ∷ K) (end_of (of dots d)) (name_token n ∷ (opt_directives_tokens ds ++ us)))
      (and_then (type_gives n (close 25 o.start ∷ K₁) (end_of (of word_on o)) (opt_directives_tokens ds ++ us))
      (and_then (close_gives 25 o.start e₁ K₁ (opt_directives_tokens ds ++ us))
      (and_then (opt_directives_read ds r (selection_set r ∷ close 24 p ∷ selections r s ∷ K) e₁ us g₁ (set_not_paren paren_l q ts refl) (set_not_paren at q ts refl))
      (and_then (set_read q r (close 24 p ∷ selections r s ∷ K) e₂ ts g₂)
      (close_gives 24 p (end_after e₂ (set_tokens q)) (selections r s ∷ K) ts))))))))

  -- a selection set, or none
  pub opt_set_read : (x : OptSelectionSet) (r : ℕ) (K : List Sym) (l : ℕ) (ts : List Token) → opt_set_depth x ≤ r → Not brace_l ts
      → Gives (run false (opt_selection_set r ∷ K) l (opt_set_tokens x ++ ts)) (opt_set_events x) (run false K (end_after l (opt_set_tokens x)) ts)
  opt_set_read no_selection_set r K l ts h n = no_set_lem r K l ts n
  opt_set_read (some_selection_set x) r K l ts h n = same_as (some_set x r K l ts) (set_read x r K l ts h)

-- a selection set within the limit, then Eof, is accepted, with its events
pub set_complete : (d : ℕ) (x : SelectionSet) (e : Token) (ts : List Token) → set_depth x ≤ d → e.kind ≡ eof → read_selection_set d (set_tokens x ++ (e ∷ ts)) ≡ accepted (set_events x)
set_complete d x e ts h k =
    (set_read x d [] 0 (e ∷ ts) h).is ∙ ap (emits (set_events x)) (eof_read false (end_after 0 (set_tokens x)) e ts k) ∙ ap accepted (append-nil (set_events x))
