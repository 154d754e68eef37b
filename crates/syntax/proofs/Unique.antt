-- Two trees of nodes and tokens with the same tokens and the same events are the same; and a value, a type or a selection set can be had back
-- from its tree. Assumes nothing.
use Prim.Native.Nat.{ℕ}
use native.Mathlib.Omega.{arith}
use mathlib.Core.Path.{◌≡◌, refl, sym, ap, ap₂, ◌∙◌, subst}
use mathlib.Core.Bool.{Bool, true, false}
use mathlib.Core.List.{List, [], ◌∷◌, ◌++◌, append_assoc, append-nil}
use lib.Dec.{T, T_prop, ltb, eqb, ltb→lt}
use Rattle.base.specs.Text.{pick}
use Rattle.base.specs.Item.{Item}
use Rattle.syntax.specs.Token.{paren_r, bracket_r, brace_r, word_true, word_false, word_null, word_on, Token, closes}
use Rattle.syntax.specs.Grammar.{Span, of, Word, kind_of, Name, name_token, EnumWord, FragmentWord, fragment_kind, start_of, last_end, Value, variable, int_value, float_value, string_value, true_value, false_value, null_value, enum_value, list_value, object_value, Values, no_value, a_value, Fields, no_field, a_field}
use Rattle.syntax.specs.Types.{Ty, nullable, non_null, Base, named_type, list_type}
use Rattle.syntax.specs.Selections.{Argument, Arguments, one_argument, more_arguments, OptArguments, no_arguments, arguments, Directive, Directives, one_directive, more_directives, OptDirectives, no_directives, directives, no_alias, alias, OptCondition, no_condition, condition, SelectionSet, selection_set, Selections, one_selection, more_selections, Selection, field, fragment_spread, inline_fragment, OptSelectionSet, no_selection_set, some_selection_set}
use Rattle.syntax.proofs.Steps.{join}
use Rattle.syntax.proofs.Cst.{Cst, tok, nod, Csts, none, some, cat, cst_tokens, csts_tokens, cst_events, csts_events, name_cst, value_cst, values_cst, fields_cst, ty_cst, base_cst, argument_cst, arguments_cst, opt_arguments_cst, directive_cst, directives_cst, opt_directives_cst, condition_cst, set_cst, selections_cst, selection_cst, opt_set_cst}

-- ---- one tree

head_code : {e f : Item} {es fs : List Item} → e ∷ es ≡ f ∷ fs → e.code ≡ f.code
head_code {e} {f} p = let q : e ≡ f = cc in ap (λ (x : Item). x.code) q

tail_items : {e f : Item} {es fs : List Item} → e ∷ es ≡ f ∷ fs → es ≡ fs
tail_items p = cc

-- a node's parts
nod_same : {x y : Cst} {xs ys : Csts} (n m : ℕ) (p : T (ltb n 64)) (q : T (ltb m 64)) → n ≡ m → x ≡ y → xs ≡ ys → nod n p x xs ≡ nod m q y ys
nod_same {x} {y} {xs} {ys} n m p q e f g =
    ap₂ (λ (z : Cst) (zs : Csts). nod n p z zs) f g
    ∙ subst (λ (k : ℕ). (a : T (ltb k 64)) → nod n p y ys ≡ nod k a y ys) e (λ a. ap (λ (b : T (ltb n 64)). nod n b y ys) (T_prop (ltb n 64) p a)) q

-- a closing is no tree's first event
not_closing : (y : Cst) (es fs : List Item) (n s e : ℕ) → T (ltb n 64) → closes n s e ∷ es ≡ cst_events y ++ fs → ⊥
not_closing (tok t) es fs n s e a p = omega (arith, head_code p, ltb→lt n 64 a)
not_closing (nod m b x xs) es fs n s e a p = omega (arith, head_code p, ltb→lt m 64 b)

mutual
  cst_unique : (x y : Cst) (es fs : List Item) (ts us : List Token) → cst_events x ++ es ≡ cst_events y ++ fs → cst_tokens x ++ ts ≡ cst_tokens y ++ us → (x ≡ y) × (es ≡ fs) × (ts ≡ us)
  cst_unique (tok t) (tok u) es fs ts us p q = let h : t ≡ u = cc in (ap tok h, tail_items p, cc)
  cst_unique (tok t) (nod n a x xs) es fs ts us p q = absurd (omega (arith, head_code p, ltb→lt n 64 a))
  cst_unique (nod n a x xs) (tok u) es fs ts us p q = absurd (omega (arith, head_code p, ltb→lt n 64 a))
  cst_unique (nod n a x xs) (nod m b y ys) es fs ts us p q =
      let c = closes n (start_of (cst_tokens x ++ csts_tokens xs)) (last_end (cst_tokens x ++ csts_tokens xs)) in
      let d = closes m (start_of (cst_tokens y ++ csts_tokens ys)) (last_end (cst_tokens y ++ csts_tokens ys)) in
      let w = cst_unique x y (csts_events xs ++ (c ∷ es)) (csts_events ys ++ (d ∷ fs)) (csts_tokens xs ++ ts) (csts_tokens ys ++ us)
      (sym (join (cst_events x) (csts_events xs) (c ∷ []) es) ∙ tail_items p ∙ join (cst_events y) (csts_events ys) (d ∷ []) fs)
      (sym (append_assoc (cst_tokens x) (csts_tokens xs) ts) ∙ q ∙ append_assoc (cst_tokens y) (csts_tokens ys) us) in
      let v = csts_unique xs ys es fs ts us n m (start_of (cst_tokens x ++ csts_tokens xs)) (start_of (cst_tokens y ++ csts_tokens ys)) (last_end (cst_tokens x ++ csts_tokens xs)) (last_end (cst_tokens y ++ csts_tokens ys)) a b w.1 w.2 in
      (nod_same n m a b (head_code p) w.0 v.0, v.1, v.2)

  csts_unique : (xs ys : Csts) (es fs : List Item) (ts us : List Token) (n m s s' e e' : ℕ) → T (ltb n 64) → T (ltb m 64)
      → csts_events xs ++ (closes n s e ∷ es) ≡ csts_events ys ++ (closes m s' e' ∷ fs) → csts_tokens xs ++ ts ≡ csts_tokens ys ++ us → (xs ≡ ys) × (es ≡ fs) × (ts ≡ us)
  csts_unique none none es fs ts us n m s s' e e' a b p q = (refl, tail_items p, q)
  csts_unique none (some y ys) es fs ts us n m s s' e e' a b p q = absurd (not_closing y es (csts_events ys ++ (closes m s' e' ∷ fs)) n s e a (p ∙ append_assoc (cst_events y) (csts_events ys) (closes m s' e' ∷ fs)))
  csts_unique (some x xs) none es fs ts us n m s s' e e' a b p q = absurd (not_closing x fs (csts_events xs ++ (closes n s e ∷ es)) m s' e' b (sym p ∙ append_assoc (cst_events x) (csts_events xs) (closes n s e ∷ es)))
  csts_unique (some x xs) (some y ys) es fs ts us n m s s' e e' a b p q =
      let w = cst_unique x y (csts_events xs ++ (closes n s e ∷ es)) (csts_events ys ++ (closes m s' e' ∷ fs)) (csts_tokens xs ++ ts) (csts_tokens ys ++ us)
      (sym (append_assoc (cst_events x) (csts_events xs) (closes n s e ∷ es)) ∙ p ∙ append_assoc (cst_events y) (csts_events ys) (closes m s' e' ∷ fs))
      (sym (append_assoc (cst_tokens x) (csts_tokens xs) ts) ∙ q ∙ append_assoc (cst_tokens y) (csts_tokens ys) us) in
      let v = csts_unique xs ys es fs ts us n m s s' e e' a b w.1 w.2 in
      (ap₂ some w.0 v.0, v.1, v.2)

-- the same tokens and the same events: the same tree
pub one_cst : (x y : Cst) → cst_tokens x ≡ cst_tokens y → cst_events x ≡ cst_events y → x ≡ y
one_cst x y p q =
    (cst_unique x y [] [] [] [] (append-nil (cst_events x) ∙ q ∙ sym (append-nil (cst_events y))) (append-nil (cst_tokens x) ∙ p ∙ sym (append-nil (cst_tokens y)))).0

-- ---- back from the tree: parts

-- the span and the kind of the first token
abbrev span_at : Cst → Span
span_at (tok t) = record { start = t.start; size = t.size }
span_at (nod n p x xs) = span_at x

abbrev kind_at : Cst → ℕ
kind_at (tok t) = t.kind
kind_at (nod n p x xs) = kind_at x

abbrev no_span : Span
no_span = record { start = 0; size = 0 }

-- of the first child, of the last child
abbrev first_span : Csts → Span
first_span none = no_span
first_span (some x xs) = span_at x

abbrev last_span : Csts → Span
last_span none = no_span
last_span (some x none) = span_at x
last_span (some x (some y xs)) = last_span (some y xs)

abbrev word_at : ℕ → Word
word_at k = pick (eqb k word_true) Word.is_true (pick (eqb k word_false) Word.is_false (pick (eqb k word_null) Word.is_null (pick (eqb k word_on) Word.is_on Word.other)))

abbrev name_at : Cst → Name
name_at x = record { word = word_at (kind_at x); span = span_at x }

abbrev first_name : Csts → Name
first_name none = record { word = Word.other; span = no_span }
first_name (some x xs) = name_at x

abbrev code_is : ℕ → Cst → Bool
code_is k (tok t) = false
code_is k (nod n p x xs) = eqb n k

abbrev is_node : Cst → Bool
is_node (tok t) = false
is_node (nod n p x xs) = true

word_back : (w : Word) → word_at (kind_of w) ≡ w
word_back Word.other = refl
word_back Word.is_true = refl
word_back Word.is_false = refl
word_back Word.is_null = refl
word_back Word.is_on = refl

name_back : (n : Name) → name_at (name_cst (name_token n)) ≡ n
name_back n = ap (λ (w : Word). record { word = w; span = n.span }) (word_back n.word)

last_back : (xs : Csts) (t : Token) → last_span (cat xs (some (tok t) none)) ≡ record { start = t.start; size = t.size }
last_back none t = refl
last_back (some x none) t = refl
last_back (some x (some y xs)) t = last_back (some y xs) t

-- ---- values

abbrev un_variable : (c : Bool) → Span → Name → Value c
un_variable false d n = variable d n
un_variable true d n = null_value d

abbrev cons_value : {c : Bool} → Bool → Value c → Values c → Values c
cons_value true v vs = a_value v vs
cons_value false v vs = no_value

record ObjectField (c : Bool) : Type 0 where
  name : Name
  colon_at : Span
  value : Value c

abbrev cons_field : {c : Bool} → Bool → ObjectField c → Fields c → Fields c
cons_field true f fs = a_field f.name f.colon_at f.value fs
cons_field false f fs = no_field

abbrev mutual
  un_value : (c : Bool) → Cst → Value c
  un_value c (tok t) = null_value no_span
  un_value c (nod n p x xs) =
      pick (eqb n 2) (int_value (span_at x))
      (pick (eqb n 3) (float_value (span_at x))
      (pick (eqb n 4) (string_value (span_at x))
      (pick (eqb n 5) (pick (eqb (kind_at x) word_true) (true_value (span_at x)) (false_value (span_at x)))
      (pick (eqb n 6) (null_value (span_at x))
      (pick (eqb n 7) (enum_value (pick (eqb (kind_at x) word_on) EnumWord.is_on EnumWord.other) (span_at x))
      (pick (eqb n 8) (list_value (span_at x) (un_values c xs) (last_span xs))
      (pick (eqb n 9) (object_value (span_at x) (un_fields c xs) (last_span xs))
      (un_variable c (span_at x) (first_name xs)))))))))

  un_values : (c : Bool) → Csts → Values c
  un_values c none = no_value
  un_values c (some x xs) = cons_value (is_node x) (un_value c x) (un_values c xs)

  un_fields : (c : Bool) → Csts → Fields c
  un_fields c none = no_field
  un_fields c (some x xs) = cons_field (is_node x) (un_field c x) (un_fields c xs)

  un_field : (c : Bool) → Cst → ObjectField c
  un_field c (tok t) = record { name = record { word = Word.other; span = no_span }; colon_at = no_span; value = null_value no_span }
  un_field c (nod n p x xs) = record { name = name_at x; colon_at = first_span xs; value = un_second c xs }

  -- the second child, the first child
  un_second : (c : Bool) → Csts → Value c
  un_second c none = null_value no_span
  un_second c (some x xs) = un_first c xs

  un_first : (c : Bool) → Csts → Value c
  un_first c none = null_value no_span
  un_first c (some x xs) = un_value c x

value_node : {c : Bool} (v : Value c) → is_node (value_cst v) ≡ true
value_node (variable d n) = refl
value_node (int_value s) = refl
value_node (float_value s) = refl
value_node (string_value s) = refl
value_node (true_value s) = refl
value_node (false_value s) = refl
value_node (null_value s) = refl
value_node (enum_value w s) = refl
value_node (list_value l vs r) = refl
value_node (object_value l fs r) = refl

mutual
  -- a value can be had back from its tree
  pub value_back : {c : Bool} (v : Value c) → un_value c (value_cst v) ≡ v
  value_back (variable d n) = ap (variable d) (name_back n)
  value_back (int_value s) = refl
  value_back (float_value s) = refl
  value_back (string_value s) = refl
  value_back (true_value s) = refl
  value_back (false_value s) = refl
  value_back (null_value s) = refl
  value_back (enum_value EnumWord.other s) = refl
  value_back (enum_value EnumWord.is_on s) = refl
  value_back (list_value l vs r) = ap₂ (list_value l) (values_back vs (of bracket_r r)) (last_back (values_cst vs) (of bracket_r r))
  value_back (object_value l fs r) = ap₂ (object_value l) (fields_back fs (of brace_r r)) (last_back (fields_cst fs) (of brace_r r))

  values_back : {c : Bool} (vs : Values c) (t : Token) → un_values c (cat (values_cst vs) (some (tok t) none)) ≡ vs
  values_back no_value t = refl
  values_back (a_value v vs) t = rw (value_node v) (ap₂ a_value (value_back v) (values_back vs t))

  fields_back : {c : Bool} (fs : Fields c) (t : Token) → un_fields c (cat (fields_cst fs) (some (tok t) none)) ≡ fs
  fields_back no_field t = refl
  fields_back (a_field n k v fs) t = rw (name_back n) (ap₂ (a_field n k) (value_back v) (fields_back fs t))

-- ---- types

abbrev mutual
  un_ty : Cst → Ty
  un_ty (tok t) = nullable (named_type (name_at (tok t)))
  un_ty (nod n p x xs) =
      pick (eqb n 14) (non_null (un_base x) (first_span xs))
      (nullable (pick (eqb n 12) (named_type (name_at x)) (list_type (span_at x) (first_ty xs) (last_span xs))))

  un_base : Cst → Base
  un_base (tok t) = named_type (name_at (tok t))
  un_base (nod n p x xs) = pick (eqb n 12) (named_type (name_at x)) (list_type (span_at x) (first_ty xs) (last_span xs))

  first_ty : Csts → Ty
  first_ty none = nullable (named_type (first_name none))
  first_ty (some x xs) = un_ty x

mutual
  -- a type can be had back from its tree
  pub ty_back : (t : Ty) → un_ty (ty_cst t) ≡ t
  ty_back (nullable b) = base_nullable b
  ty_back (non_null b s) = ap (λ (c : Base). non_null c s) (base_back b)

  base_nullable : (b : Base) → un_ty (base_cst b) ≡ nullable b
  base_nullable (named_type n) = ap (λ (m : Name). nullable (named_type m)) (name_back n)
  base_nullable (list_type l t r) = ap (λ (u : Ty). nullable (list_type l u r)) (ty_back t)

  base_back : (b : Base) → un_base (base_cst b) ≡ b
  base_back (named_type n) = ap named_type (name_back n)
  base_back (list_type l t r) = ap (λ (u : Ty). list_type l u r) (ty_back t)

-- ---- selection sets

-- f of the first child of code k, if there is one; else z
abbrev find : {A : Type 0} → ℕ → (Cst → A) → A → Csts → A
find k f z none = z
find k f z (some x xs) = pick (code_is k x) (f x) (find k f z xs)

-- no child has the code k
abbrev Lacks : ℕ → Csts → Type 0
Lacks k none = Unit {0}
Lacks k (some x xs) = (code_is k x ≡ false) × Lacks k xs

find_skip : {A : Type 0} (k : ℕ) (f : Cst → A) (z : A) (xs ys : Csts) → Lacks k xs → find k f z (cat xs ys) ≡ find k f z ys
find_skip k f z none ys h = refl
find_skip k f z (some x xs) ys h = rw h.0 (find_skip k f z xs ys h.1)

find_lacks : {A : Type 0} (k : ℕ) (f : Cst → A) (z : A) (xs : Csts) → Lacks k xs → find k f z xs ≡ z
find_lacks k f z none h = refl
find_lacks k f z (some x xs) h = rw h.0 (find_lacks k f z xs h.1)

lacks_cat : (k : ℕ) (xs ys : Csts) → Lacks k xs → Lacks k ys → Lacks k (cat xs ys)
lacks_cat k none ys g h = h
lacks_cat k (some x xs) ys g h = (g.0, lacks_cat k xs ys g.1 h)

lacks_arguments : (k : ℕ) (xs : OptArguments) → eqb 18 k ≡ false → Lacks k (opt_arguments_cst xs)
lacks_arguments k no_arguments e = tt
lacks_arguments k (arguments l xs r) e = (e, tt)

lacks_directives : (k : ℕ) (ds : OptDirectives) → eqb 20 k ≡ false → Lacks k (opt_directives_cst ds)
lacks_directives k no_directives e = tt
lacks_directives k (directives (one_directive d)) e = (e, tt)
lacks_directives k (directives (more_directives d ds)) e = (e, tt)

lacks_condition : (k : ℕ) (c : OptCondition) → eqb 25 k ≡ false → Lacks k (condition_cst c)
lacks_condition k no_condition e = tt
lacks_condition k (condition o n) e = (e, tt)

lacks_set : (k : ℕ) (s : SelectionSet) → eqb 15 k ≡ false → Lacks k (some (set_cst s) none)
lacks_set k (selection_set l ss r) e = (e, tt)

lacks_opt_set : (k : ℕ) (s : OptSelectionSet) → eqb 15 k ≡ false → Lacks k (opt_set_cst s)
lacks_opt_set k no_selection_set e = tt
lacks_opt_set k (some_selection_set s) e = lacks_set k s e

-- is the first child a node?
abbrev head_node : Csts → Bool
head_node none = false
head_node (some x xs) = is_node x

abbrev un_argument : Cst → Argument
un_argument (tok t) = record { name = first_name none; colon_at = no_span; value = null_value no_span }
un_argument (nod n p x xs) = record { name = name_at x; colon_at = first_span xs; value = un_second false xs }

abbrev un_arguments : Csts → Arguments
un_arguments none = one_argument (un_argument (tok (of 0 no_span)))
un_arguments (some x xs) = pick (head_node xs) (more_arguments (un_argument x) (un_arguments xs)) (one_argument (un_argument x))

abbrev un_opt_arguments : Cst → OptArguments
un_opt_arguments (tok t) = no_arguments
un_opt_arguments (nod n p x xs) = arguments (span_at x) (un_arguments xs) (last_span xs)

abbrev arguments_in : Csts → OptArguments
arguments_in xs = find 18 un_opt_arguments no_arguments xs

argument_back : (a : Argument) → un_argument (argument_cst a) ≡ a
argument_back a = rw (name_back a.name, value_back a.value)

arguments_back : (xs : Arguments) (t : Token) → un_arguments (cat (arguments_cst xs) (some (tok t) none)) ≡ xs
arguments_back (one_argument a) t = ap one_argument (argument_back a)
arguments_back (more_arguments a (one_argument b)) t = ap₂ more_arguments (argument_back a) (arguments_back (one_argument b) t)
arguments_back (more_arguments a (more_arguments b xs)) t = ap₂ more_arguments (argument_back a) (arguments_back (more_arguments b xs) t)

-- arguments, or none, and then none
arguments_here : (xs : OptArguments) (ys : Csts) → Lacks 18 ys → arguments_in (cat (opt_arguments_cst xs) ys) ≡ xs
arguments_here no_arguments ys h = find_lacks 18 un_opt_arguments no_arguments ys h
arguments_here (arguments l xs r) ys h = ap₂ (arguments l) (arguments_back xs (of paren_r r)) (last_back (arguments_cst xs) (of paren_r r))

abbrev un_directive : Cst → Directive
un_directive (tok t) = record { at_at = no_span; name = first_name none; args = no_arguments }
un_directive (nod n p x xs) = record { at_at = span_at x; name = first_name xs; args = arguments_in xs }

abbrev un_directives : Csts → Directives
un_directives none = one_directive (un_directive (tok (of 0 no_span)))
un_directives (some x xs) = pick (head_node xs) (more_directives (un_directive x) (un_directives xs)) (one_directive (un_directive x))

abbrev un_opt_directives : Cst → OptDirectives
un_opt_directives (tok t) = no_directives
un_opt_directives (nod n p x xs) = directives (pick (head_node xs) (more_directives (un_directive x) (un_directives xs)) (one_directive (un_directive x)))

abbrev directives_in : Csts → OptDirectives
directives_in xs = find 20 un_opt_directives no_directives xs

append_none : (xs : Csts) → cat xs none ≡ xs
append_none none = refl
append_none (some x xs) = ap (some x) (append_none xs)

directive_back : (d : Directive) → un_directive (directive_cst d) ≡ d
directive_back d =
    let e : arguments_in (opt_arguments_cst d.args) ≡ d.args = ap arguments_in (sym (append_none (opt_arguments_cst d.args))) ∙ arguments_here d.args none tt in
    rw (name_back d.name, e)

directives_back : (ds : Directives) → un_directives (directives_cst ds) ≡ ds
directives_back (one_directive d) = ap one_directive (directive_back d)
directives_back (more_directives d (one_directive e)) = ap₂ more_directives (directive_back d) (directives_back (one_directive e))
directives_back (more_directives d (more_directives e ds)) = ap₂ more_directives (directive_back d) (directives_back (more_directives e ds))

head_directives : (ds : Directives) → head_node (directives_cst ds) ≡ true
head_directives (one_directive d) = refl
head_directives (more_directives d ds) = refl

-- directives, or none, and then none
directives_here : (ds : OptDirectives) (ys : Csts) → Lacks 20 ys → directives_in (cat (opt_directives_cst ds) ys) ≡ ds
directives_here no_directives ys h = find_lacks 20 un_opt_directives no_directives ys h
directives_here (directives (one_directive d)) ys h = ap (λ (e : Directive). directives (one_directive e)) (directive_back d)
directives_here (directives (more_directives d ds)) ys h =
    rw (head_directives ds) (ap₂ (λ (e : Directive) (es : Directives). directives (more_directives e es)) (directive_back d) (directives_back ds))

abbrev un_condition : Cst → OptCondition
un_condition (tok t) = no_condition
un_condition (nod n p x xs) = condition (span_at x) (first_name xs)

abbrev condition_in : Csts → OptCondition
condition_in xs = find 25 un_condition no_condition xs

condition_here : (k : OptCondition) (ys : Csts) → Lacks 25 ys → condition_in (cat (condition_cst k) ys) ≡ k
condition_here no_condition ys h = find_lacks 25 un_condition no_condition ys h
condition_here (condition o n) ys h = ap (condition o) (name_back n)

abbrev fragment_at : ℕ → FragmentWord
fragment_at k = pick (eqb k word_true) FragmentWord.is_true (pick (eqb k word_false) FragmentWord.is_false (pick (eqb k word_null) FragmentWord.is_null FragmentWord.other))

fragment_back : (w : FragmentWord) → fragment_at (fragment_kind w) ≡ w
fragment_back FragmentWord.other = refl
fragment_back FragmentWord.is_true = refl
fragment_back FragmentWord.is_false = refl
fragment_back FragmentWord.is_null = refl

abbrev first_kind : Csts → ℕ
first_kind none = 0
first_kind (some x xs) = kind_at x

-- an alias's `:`
abbrev colon_of : Cst → Span
colon_of (tok t) = no_span
colon_of (nod n p x xs) = first_span xs

abbrev no_set : SelectionSet
no_set = selection_set no_span (one_selection (fragment_spread no_span FragmentWord.other no_span no_directives)) no_span

abbrev set_or : OptSelectionSet → SelectionSet
set_or no_selection_set = no_set
set_or (some_selection_set s) = s

abbrev mutual
  un_set : Cst → SelectionSet
  un_set (tok t) = no_set
  un_set (nod n p x xs) = selection_set (span_at x) (un_selections xs) (last_span xs)

  un_selections : Csts → Selections
  un_selections none = one_selection (fragment_spread no_span FragmentWord.other no_span no_directives)
  un_selections (some x xs) = pick (head_node xs) (more_selections (un_selection x) (un_selections xs)) (one_selection (un_selection x))

  un_selection : Cst → Selection
  un_selection (tok t) = fragment_spread no_span FragmentWord.other no_span no_directives
  un_selection (nod n p x xs) =
      pick (eqb n 22) (fragment_spread (span_at x) (fragment_at (first_kind xs)) (first_span xs) (directives_in xs))
      (pick (eqb n 24) (inline_fragment (span_at x) (condition_in xs) (directives_in xs) (set_or (set_in xs)))
      (pick (code_is 17 x) (field (alias (name_at x) (colon_of x)) (first_name xs) (arguments_in xs) (directives_in xs) (set_in xs))
      (field no_alias (name_at x) (arguments_in xs) (directives_in xs) (set_in xs))))

  set_in : Csts → OptSelectionSet
  set_in none = no_selection_set
  set_in (some x xs) = pick (code_is 15 x) (some_selection_set (un_set x)) (set_in xs)

set_in_skip : (xs ys : Csts) → Lacks 15 xs → set_in (cat xs ys) ≡ set_in ys
set_in_skip none ys h = refl
set_in_skip (some x xs) ys h = rw h.0 (set_in_skip xs ys h.1)

selection_node : (x : Selection) → is_node (selection_cst x) ≡ true
selection_node (field no_alias n xs ds s) = refl
selection_node (field (alias m k) n xs ds s) = refl
selection_node (fragment_spread d w n ds) = refl
selection_node (inline_fragment d k ds s) = refl

head_selections : (ss : Selections) (ys : Csts) → head_node (cat (selections_cst ss) ys) ≡ true
head_selections (one_selection x) ys = selection_node x
head_selections (more_selections x ss) ys = selection_node x

set_code : (s : SelectionSet) → code_is 15 (set_cst s) ≡ true
set_code (selection_set l ss r) = refl

-- the parts that may follow a field's name
abbrev tail_cst : OptArguments → OptDirectives → OptSelectionSet → Csts
tail_cst xs ds s = cat (opt_arguments_cst xs) (cat (opt_directives_cst ds) (opt_set_cst s))

tail_arguments : (xs : OptArguments) (ds : OptDirectives) (s : OptSelectionSet) → arguments_in (tail_cst xs ds s) ≡ xs
tail_arguments xs ds s =
    arguments_here xs (cat (opt_directives_cst ds) (opt_set_cst s)) (lacks_cat 18 (opt_directives_cst ds) (opt_set_cst s) (lacks_directives 18 ds refl) (lacks_opt_set 18 s refl))

tail_directives : (xs : OptArguments) (ds : OptDirectives) (s : OptSelectionSet) → directives_in (tail_cst xs ds s) ≡ ds
tail_directives xs ds s =
    find_skip 20 un_opt_directives no_directives (opt_arguments_cst xs) (cat (opt_directives_cst ds) (opt_set_cst s)) (lacks_arguments 20 xs refl) ∙ directives_here ds (opt_set_cst s) (lacks_opt_set 20 s refl)

tail_set : (xs : OptArguments) (ds : OptDirectives) (s : OptSelectionSet) → set_in (tail_cst xs ds s) ≡ set_in (opt_set_cst s)
tail_set xs ds s =
    set_in_skip (opt_arguments_cst xs) (cat (opt_directives_cst ds) (opt_set_cst s)) (lacks_arguments 15 xs refl) ∙ set_in_skip (opt_directives_cst ds) (opt_set_cst s) (lacks_directives 15 ds refl)

-- the parts of an inline fragment
abbrev inline_cst : OptCondition → OptDirectives → SelectionSet → Csts
inline_cst k ds s = cat (condition_cst k) (cat (opt_directives_cst ds) (some (set_cst s) none))

inline_condition : (k : OptCondition) (ds : OptDirectives) (s : SelectionSet) → condition_in (inline_cst k ds s) ≡ k
inline_condition k ds s =
    condition_here k (cat (opt_directives_cst ds) (some (set_cst s) none)) (lacks_cat 25 (opt_directives_cst ds) (some (set_cst s) none) (lacks_directives 25 ds refl) (lacks_set 25 s refl))

inline_directives : (k : OptCondition) (ds : OptDirectives) (s : SelectionSet) → directives_in (inline_cst k ds s) ≡ ds
inline_directives k ds s =
    find_skip 20 un_opt_directives no_directives (condition_cst k) (cat (opt_directives_cst ds) (some (set_cst s) none)) (lacks_condition 20 k refl)
    ∙ directives_here ds (some (set_cst s) none) (lacks_set 20 s refl)

inline_set : (k : OptCondition) (ds : OptDirectives) (s : SelectionSet) → set_in (inline_cst k ds s) ≡ some_selection_set (un_set (set_cst s))
inline_set k ds s =
    set_in_skip (condition_cst k) (cat (opt_directives_cst ds) (some (set_cst s) none)) (lacks_condition 15 k refl)
    ∙ set_in_skip (opt_directives_cst ds) (some (set_cst s) none) (lacks_directives 15 ds refl)
    ∙ rw (set_code s)

mutual
  -- a selection set can be had back from its tree
  pub set_back : (s : SelectionSet) → un_set (set_cst s) ≡ s
  set_back (selection_set l ss r) = ap₂ (selection_set l) (selections_back ss (of brace_r r)) (last_back (selections_cst ss) (of brace_r r))

  selections_back : (ss : Selections) (t : Token) → un_selections (cat (selections_cst ss) (some (tok t) none)) ≡ ss
  selections_back (one_selection x) t = ap one_selection (selection_back x)
  selections_back (more_selections x ss) t = rw (head_selections ss (some (tok t) none)) (ap₂ more_selections (selection_back x) (selections_back ss t))

  selection_back : (x : Selection) → un_selection (selection_cst x) ≡ x
  selection_back (field no_alias n xs ds s) = rw (name_back n, tail_arguments xs ds s, tail_directives xs ds s, tail_set xs ds s) (ap (field no_alias n xs ds) (opt_set_back s))
  selection_back (field (alias m k) n xs ds s) =
      rw (name_back m, name_back n, tail_arguments xs ds s, tail_directives xs ds s, tail_set xs ds s) (ap (field (alias m k) n xs ds) (opt_set_back s))
  selection_back (fragment_spread d w n ds) =
      let e : directives_in (opt_directives_cst ds) ≡ ds = ap directives_in (sym (append_none (opt_directives_cst ds))) ∙ directives_here ds none tt in
      rw (fragment_back w, e)
  selection_back (inline_fragment d k ds s) =
      rw (inline_condition k ds s, inline_directives k ds s, inline_set k ds s) (ap (inline_fragment d k ds) (set_back s))

  opt_set_back : (s : OptSelectionSet) → set_in (opt_set_cst s) ≡ s
  opt_set_back no_selection_set = refl
  opt_set_back (some_selection_set s) = rw (set_code s) (ap some_selection_set (set_back s))

-- ---- the same tokens and events

-- values with the same tree are the same
pub same_value : {c : Bool} (v u : Value c) → value_cst v ≡ value_cst u → v ≡ u
same_value {c} v u e = sym (value_back v) ∙ ap (un_value c) e ∙ value_back u

-- types with the same tree are the same
pub same_ty : (t u : Ty) → ty_cst t ≡ ty_cst u → t ≡ u
same_ty t u e = sym (ty_back t) ∙ ap un_ty e ∙ ty_back u

-- selection sets with the same tree are the same
pub same_set : (s r : SelectionSet) → set_cst s ≡ set_cst r → s ≡ r
same_set s r e = sym (set_back s) ∙ ap un_set e ∙ set_back r
