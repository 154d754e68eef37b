-- Events nest: each closing matches its opening and spans its node's first token's start to its last token's end; and each token stands among
-- the events once, in order, with its own span. Assumes nothing.
use Prim.Native.Nat.{ℕ, ◌+◌, ◌-◌, ◌<◌}
use native.Mathlib.Omega.{arith}
use mathlib.Core.Path.{◌≡◌, refl, sym, ap, ap₂, ◌∙◌}
use mathlib.Core.Bool.{Bool, true, false}
use mathlib.Core.List.{List, [], ◌∷◌, ◌++◌, map, append_assoc, append-nil}
use lib.Dec.{leb, ltb→lt}
use borrow.Author.Tests.{le-leb, lt-leb}
use Rattle.base.specs.Text.{pick}
use Rattle.base.specs.Item.{Item, item}
use Rattle.syntax.specs.Token.{Token, code_of, token_event, closes}
use Rattle.syntax.specs.Grammar.{start_of, last_end, Value, value_tokens, value_events}
use Rattle.syntax.specs.Types.{Ty, ty_tokens, ty_events}
use Rattle.syntax.specs.Selections.{SelectionSet, set_tokens, set_events}
use Rattle.syntax.proofs.Steps.{end_after, end_after_append, Some, some_end}
use Rattle.syntax.proofs.Cst.{Cst, tok, nod, Csts, none, some, cst_tokens, csts_tokens, cst_events, csts_events, Is, value_cst, is_value, ty_cst, is_ty, set_cst, is_set}

-- ---- a checker of events

-- a node that is open: its code, and its opening's start
pub record Open : Type 0 where
  pub code : ℕ
  pub start : ℕ

-- has a node been opened since the last token? Then the next token begins it
pub data Due : Type 0 where
  no : Due
  first : (start : ℕ) → Due

-- may a token, or an opening, stand at s?
abbrev pub Fits : Due → ℕ → Type 0
Fits no s = Unit {0}
Fits (first p) s = s ≡ p

-- With the nodes K open, where the last token ended at l, the events are well nested to the end. Codes below 64 open, those from 64 to 127
-- close, those from 128 on are tokens
pub data Nested : List Open → Due → ℕ → List Item → Type 0 where
  -- in the end nothing is open
  ends : {l : ℕ} → Nested [] no l []
  -- an opening stands where its first token stands, which is to come
  opening : {K : List Open} {d : Due} {l : ℕ} {es : List Item} (n s : ℕ) → n < 64 → Fits d s → Nested (record { code = n; start = s } ∷ K) (first s) l es → Nested K d l (item n s 0 ∷ es)
  token : {K : List Open} {d : Due} {l : ℕ} {es : List Item} (k s size : ℕ) → Fits d s → Nested K no (s + size) es → Nested K d l (item (128 + k) s size ∷ es)
  -- a closing matches the last opening, and spans from its start to the end of the last token
  closing : {K : List Open} {l : ℕ} {es : List Item} (n s : ℕ) → n < 64 → Nested K no l es → Nested (record { code = n; start = s } ∷ K) no l (item (64 + n) s (l - s) ∷ es)

-- a tree has some token
cst_some : (x : Cst) → Some (cst_tokens x)
cst_some (tok t) = (t, [], refl)
cst_some (nod n p x xs) = let s = cst_some x in (s.0, s.1 ++ csts_tokens xs, ap (λ (ts : List Token). ts ++ csts_tokens xs) s.2)

start_append : (ts us : List Token) → Some ts → start_of (ts ++ us) ≡ start_of ts
start_append ts us s = rw s.2

some_append : (ts us : List Token) → Some ts → Some (ts ++ us)
some_append ts us s = (s.0, s.1 ++ us, ap (λ (vs : List Token). vs ++ us) s.2)

mutual
  -- the events of a tree nest, whatever is open, before what nests there
  cst_nested : (x : Cst) (K : List Open) (d : Due) (l : ℕ) (es : List Item) → Fits d (start_of (cst_tokens x)) → Nested K no (end_after l (cst_tokens x)) es → Nested K d l (cst_events x ++ es)
  cst_nested (tok t) K d l es f h = token (code_of t) t.start t.size f h
  cst_nested (nod n p x xs) K d l es f h =
      let ts = cst_tokens x in
      let us = csts_tokens xs in
      let s : ℕ = start_of (ts ++ us) in
      let e : ℕ = end_after (end_after l ts) us in
      let q : last_end (ts ++ us) ≡ e = sym (some_end l (ts ++ us) (some_append ts us (cst_some x))) ∙ end_after_append l ts us in
      let c : Nested (record { code = n; start = s } ∷ K) no e (closes n s (last_end (ts ++ us)) ∷ es) = rw q (closing n s (ltb→lt n 64 p) (rw (end_after_append l ts us) at h)) in
      rw (append_assoc (cst_events x ++ csts_events xs) (closes n s (last_end (ts ++ us)) ∷ []) es, append_assoc (cst_events x) (csts_events xs) (closes n s (last_end (ts ++ us)) ∷ es))
      (opening n s (ltb→lt n 64 p) f
      (cst_nested x (record { code = n; start = s } ∷ K) (first s) l (csts_events xs ++ (closes n s (last_end (ts ++ us)) ∷ es)) (sym (start_append ts us (cst_some x)))
      (csts_nested xs (record { code = n; start = s } ∷ K) (end_after l ts) (closes n s (last_end (ts ++ us)) ∷ es) c)))

  csts_nested : (xs : Csts) (K : List Open) (l : ℕ) (es : List Item) → Nested K no (end_after l (csts_tokens xs)) es → Nested K no l (csts_events xs ++ es)
  csts_nested none K l es h = h
  csts_nested (some x xs) K l es h =
      rw (append_assoc (cst_events x) (csts_events xs) es)
      (cst_nested x K no l (csts_events xs ++ es) tt (csts_nested xs K (end_after l (cst_tokens x)) es (rw (end_after_append l (cst_tokens x) (csts_tokens xs)) at h)))

nested : {ts : List Token} {es : List Item} (x : Cst) → Is x ts es → Nested [] no 0 es
nested x i = rw (append-nil _, i.events) at (cst_nested x [] no 0 [] tt ends)

-- the events of a value nest
pub value_nested : {c : Bool} (v : Value c) → Nested [] no 0 (value_events v)
value_nested v = nested (value_cst v) (is_value v)

-- the events of a type nest
pub ty_nested : (t : Ty) → Nested [] no 0 (ty_events t)
ty_nested t = nested (ty_cst t) (is_ty t)

-- the events of a selection set nest
pub set_nested : (s : SelectionSet) → Nested [] no 0 (set_events s)
set_nested s = nested (set_cst s) (is_set s)

-- ---- each token once, in order

-- the events that are tokens
unfoldable pub tokens_in : List Item → List Item
tokens_in [] = []
tokens_in (e ∷ es) = pick (leb 128 e.code) (e ∷ tokens_in es) (tokens_in es)

tokens_in_append : (es fs : List Item) → tokens_in (es ++ fs) ≡ tokens_in es ++ tokens_in fs
unfolding tokens_in
tokens_in_append [] fs = refl
tokens_in_append (e ∷ es) fs = by_code (leb 128 e.code) (tokens_in_append es fs)
  where
    by_code : (b : Bool) → tokens_in (es ++ fs) ≡ tokens_in es ++ tokens_in fs → pick b (e ∷ tokens_in (es ++ fs)) (tokens_in (es ++ fs)) ≡ pick b (e ∷ tokens_in es) (tokens_in es) ++ tokens_in fs
    by_code true h = ap (λ (gs : List Item). e ∷ gs) h
    by_code false h = h

map_append : (ts us : List Token) → map token_event (ts ++ us) ≡ map token_event ts ++ map token_event us
map_append [] us = refl
map_append (t ∷ ts) us = ap (λ (es : List Item). token_event t ∷ es) (map_append ts us)

mutual
  unfolding tokens_in

  cst_tokens_lem : (x : Cst) → tokens_in (cst_events x) ≡ map token_event (cst_tokens x)
  cst_tokens_lem (tok t) = rw (le-leb 128 (128 + code_of t) (omega arith))
  cst_tokens_lem (nod n p x xs) =
      let h = ltb→lt n 64 p in
      let s : ℕ = start_of (cst_tokens x ++ csts_tokens xs) in
      let e : ℕ = last_end (cst_tokens x ++ csts_tokens xs) in
      rw (lt-leb 128 n (omega arith))
      (tokens_in_append (cst_events x ++ csts_events xs) (closes n s e ∷ [])
      ∙ rw (lt-leb 128 (64 + n) (omega arith)) (append-nil (tokens_in (cst_events x ++ csts_events xs)))
      ∙ tokens_in_append (cst_events x) (csts_events xs)
      ∙ ap₂ (λ (es fs : List Item). es ++ fs) (cst_tokens_lem x) (csts_tokens_lem xs)
      ∙ sym (map_append (cst_tokens x) (csts_tokens xs)))

  csts_tokens_lem : (xs : Csts) → tokens_in (csts_events xs) ≡ map token_event (csts_tokens xs)
  csts_tokens_lem none = refl
  csts_tokens_lem (some x xs) =
      tokens_in_append (cst_events x) (csts_events xs) ∙ ap₂ (λ (es fs : List Item). es ++ fs) (cst_tokens_lem x) (csts_tokens_lem xs) ∙ sym (map_append (cst_tokens x) (csts_tokens xs))

tokens_in_lem : {ts : List Token} {es : List Item} (x : Cst) → Is x ts es → tokens_in es ≡ map token_event ts
tokens_in_lem x i = ap tokens_in (sym i.events) ∙ cst_tokens_lem x ∙ ap (map token_event) i.tokens

-- the token events of a value are its tokens', each once, in order
pub value_tokens_in : {c : Bool} (v : Value c) → tokens_in (value_events v) ≡ map token_event (value_tokens v)
value_tokens_in v = tokens_in_lem (value_cst v) (is_value v)

-- those of a type
pub ty_tokens_in : (t : Ty) → tokens_in (ty_events t) ≡ map token_event (ty_tokens t)
ty_tokens_in t = tokens_in_lem (ty_cst t) (is_ty t)

-- those of a selection set
pub set_tokens_in : (s : SelectionSet) → tokens_in (set_events s) ≡ map token_event (set_tokens s)
set_tokens_in s = tokens_in_lem (set_cst s) (is_set s)
