-- One step back: from trees of what is due after a token, trees of what was due before it. Assumes nothing.
use Prim.Native.Nat.{ℕ, zero, suc}
use native.Mathlib.Omega.{arith}
use mathlib.Core.Path.{◌≡◌, refl, sym, ap, ◌∙◌}
use mathlib.Core.Bool.{Bool, true, false}
use mathlib.Core.List.{List, [], ◌∷◌, ◌++◌, append_assoc}
use lib.Dec.{eqb}
use borrow.Author.Tests.{eqb-true, eqb-false}
use Rattle.base.specs.Text.{pick, from}
use Rattle.base.specs.Item.{Item}
use Rattle.base.proofs.Tests.{by, or_true, from_true}
use Rattle.syntax.specs.Token.{eof, dollar, colon, bracket_l, bracket_r, brace_l, brace_r, plain, string, int, float, word_true, word_false, word_null, word_on, is_name, is_enum, is_fragment_name, Token, token, end_of, token_event, opens, closes, leaf, name_events}
use Rattle.syntax.specs.Grammar.{Span, of, Word, kind_of, Name, name_token, EnumWord, enum_kind, FragmentWord, fragment_kind, last_end, variable, int_value, float_value, string_value, true_value, false_value, null_value, enum_value, list_value, object_value, no_value, a_value as an_item, no_field, a_field, value_tokens, values_tokens, fields_tokens, value_events, values_events, fields_events}
use Rattle.syntax.specs.Machine.{Sym, value, deeper, items, fields, name, colon_due, close, Move, go, stop, halt, also, at_value, at_deeper, at_items, at_fields, step}
use Rattle.syntax.proofs.Steps.{end_after, end_after_last, join_first, end_join, node_bracketed}
use Rattle.syntax.proofs.Forms.{a_value, a_deeper, an_items, a_fields, a_name, a_colon, a_close, Forms, form, tokens_of, events_of}

-- ---- what a token's kind says of it

-- a token of a kind
pub is_kind : (k : ℕ) (t : Token) → eqb t.kind k ≡ true → (s : Span) × (t ≡ of k s)
is_kind k t e = (record { start = t.start; size = t.size }, ap (λ (j : ℕ). token j t.start t.size) (eqb-true t.kind k e))

-- the word that a name's kind says
pub word_of : (k : ℕ) → is_name k ≡ true → (w : Word) × (k ≡ kind_of w)
unfolding is_name
word_of k e =
    or_true (eqb k plain) (from word_true word_on k) e (λ p. (Word.other, eqb-true k plain p))
    (λ p. let h = from_true word_true word_on k p in
    by (eqb k word_true) (λ q. (Word.is_true, eqb-true k word_true q))
    (λ a. by (eqb k word_false) (λ q. (Word.is_false, eqb-true k word_false q))
    (λ b. by (eqb k word_null) (λ q. (Word.is_null, eqb-true k word_null q))
    (λ d. (Word.is_on, omega (arith, eqb-false k word_true a, eqb-false k word_false b, eqb-false k word_null d))))))

-- a name
pub is_name_lem : (t : Token) → is_name t.kind ≡ true → (n : Name) × (t ≡ name_token n)
is_name_lem t e =
    let w = word_of t.kind e in
    (record { word = w.0; span = record { start = t.start; size = t.size } }, ap (λ (j : ℕ). token j t.start t.size) w.1)

-- a name that an enum value may be
pub is_enum_lem : (t : Token) → is_enum t.kind ≡ true → (w : EnumWord) × (s : Span) × (t ≡ of (enum_kind w) s)
unfolding is_enum
is_enum_lem t e =
    or_true (eqb t.kind plain) (eqb t.kind word_on) e
    (λ p. let s = is_kind plain t p in (EnumWord.other, s.0, s.1))
    (λ p. let s = is_kind word_on t p in (EnumWord.is_on, s.0, s.1))

-- a name that a fragment may have
pub is_fragment : (t : Token) → is_fragment_name t.kind ≡ true → (w : FragmentWord) × (s : Span) × (t ≡ of (fragment_kind w) s)
unfolding is_fragment_name
is_fragment t e =
    or_true (eqb t.kind plain) (from word_true word_null t.kind) e (λ p. let s = is_kind plain t p in (FragmentWord.other, s.0, s.1))
    (λ p. let h = from_true word_true word_null t.kind p in
    by (eqb t.kind word_true) (λ q. let s = is_kind word_true t q in (FragmentWord.is_true, s.0, s.1))
    (λ a. by (eqb t.kind word_false) (λ q. let s = is_kind word_false t q in (FragmentWord.is_false, s.0, s.1))
    (λ b. let k : t.kind ≡ word_null = omega (arith, eqb-false t.kind word_true a, eqb-false t.kind word_false b) in
    (FragmentWord.is_null, record { start = t.start; size = t.size }, ap (λ (j : ℕ). token j t.start t.size) k))))

-- ---- one step back

-- the token t, with the events es, and then trees of Q: that is trees of P
abbrev pub Taken : Bool → ℕ → List Sym → Token → List Item → List Sym → Type 0
Taken c l P t es Q = (F : Forms c Q) → (G : Forms c P) × (tokens_of G ≡ t ∷ tokens_of F) × (events_of l G ≡ es ++ events_of (end_of t) F)

-- what a move at t says, where P is due, and K below it
pub data Back (c : Bool) (l : ℕ) (t : Token) (P K : List Sym) (m : Move) : Type 0 where
  -- t belongs to P, and then Q is due
  takes : (es : List Item) (Q : List Sym) → m ≡ go es (Q ++ K) → Taken c l P t es Q → Back c l t P K m
  refuses : (n : ℕ) → m ≡ stop n → Back c l t P K m
  -- P has no token here, and t is for what lies below
  passes : (es : List Item) → m ≡ also es (step c l K t) → (G : Forms c P) → tokens_of G ≡ [] → events_of l G ≡ es → Back c l t P K m

-- no events before a move
pub also_none : (m : Move) → also [] m ≡ m
also_none (go es K) = refl
also_none (stop n) = refl
also_none (halt es) = refl

-- events before events before a move
pub also_also : (es fs : List Item) (m : Move) → also es (also fs m) ≡ also (es ++ fs) m
also_also es fs (go gs K) = ap (λ (hs : List Item). go hs K) (sym (append_assoc es fs gs))
also_also es fs (stop n) = refl
also_also es fs (halt gs) = ap halt (sym (append_assoc es fs gs))

-- trees of L make trees of P, with the events es before
abbrev pub Turns : Bool → ℕ → List Sym → List Item → List Sym → Type 0
Turns c l P es L = (F : Forms c L) → (G : Forms c P) × (tokens_of G ≡ tokens_of F) × (events_of l G ≡ es ++ events_of l F)

-- P is L, with the events es before
pub turn : {c : Bool} {l : ℕ} {t : Token} {P L K : List Sym} {m : Move} (es : List Item) → Turns c l P es L → Back c l t L K m → Back c l t P K (also es m)
turn {c = c} {l = l} {t = t} {K = K} es up (takes fs Q e b) =
    takes (es ++ fs) Q (ap (also es) e) (λ F. let w = b F in let u = up w.0 in (u.0, u.1 ∙ w.1, u.2 ∙ ap (λ (gs : List Item). es ++ gs) w.2 ∙ sym (append_assoc es fs (events_of (end_of t) F))))
turn {c = c} {l = l} {t = t} {K = K} es up (refuses n e) = refuses n (ap (also es) e)
turn {c = c} {l = l} {t = t} {K = K} es up (passes fs e G p q) =
    let u = up G in passes (es ++ fs) (ap (also es) e ∙ also_also es fs (step c l K t)) u.0 (u.1 ∙ p) (u.2 ∙ ap (λ (gs : List Item). es ++ gs) q)

-- the same with no events
pub turned : {c : Bool} {l : ℕ} {t : Token} {P L K : List Sym} (m : Move) → Turns c l P [] L → Back c l t L K m → Back c l t P K m
turned m up b = rw (also_none m) at (turn [] up b)

-- a test on the token
pub test : {c : Bool} {l : ℕ} {t : Token} {P K : List Sym} {m n : Move} (b : Bool) → (b ≡ true → Back c l t P K m) → Back c l t P K n → Back c l t P K (pick b m n)
test true f g = f refl
test false f g = g

-- a token of one kind
pub on_kind : {c : Bool} {l : ℕ} {t : Token} {P K : List Sym} {m : Move} (k : ℕ) (es : Token → List Item) (Q : Token → List Sym)
    → ((s : Span) → Taken c l P (of k s) (es (of k s)) (Q (of k s))) → Back c l t P K m → Back c l t P K (pick (eqb t.kind k) (go (es t) (Q t ++ K)) m)
on_kind {t = t} k es Q f g = test (eqb t.kind k) (λ e. takes (es t) (Q t) refl (let w = is_kind k t e in rw w.1 (f w.0))) g

-- a name
pub on_name : {c : Bool} {l : ℕ} {t : Token} {P K : List Sym} {m : Move} (es : Token → List Item) (Q : Token → List Sym)
    → ((n : Name) → Taken c l P (name_token n) (es (name_token n)) (Q (name_token n))) → Back c l t P K m → Back c l t P K (pick (is_name t.kind) (go (es t) (Q t ++ K)) m)
on_name {t = t} es Q f g = test (is_name t.kind) (λ e. takes (es t) (Q t) refl (let w = is_name_lem t e in rw w.1 (f w.0))) g

-- ---- values

take_variable : {l r : ℕ} {P : List Sym} (a : Span) → Taken false l (value r ∷ P) (of dollar a) (opens 11 a.start ∷ token_event (of dollar a) ∷ []) (name ∷ close 11 a.start ∷ P)
take_variable {r = r} a (form (a_name n) (form a_close F)) = (form (a_value {r = r} (variable a n) (omega arith)) F, refl, refl)

take_list : {c : Bool} {l r : ℕ} {P : List Sym} (a : Span) → Taken c l (value r ∷ P) (of bracket_l a) (opens 8 a.start ∷ token_event (of bracket_l a) ∷ []) (items r a.start ∷ P)
take_list a (form (an_items vs b h) F) = (
  form (a_value (list_value a vs b) h) F,
  refl,
  ap (λ (es : List Item). es ++ events_of (end_after (end_of (of bracket_l a)) (values_tokens vs ++ (of bracket_r b ∷ []))) F) (node_bracketed 8 (of bracket_l a) (of bracket_r b) (values_tokens vs) (values_events vs)),
)

take_object : {c : Bool} {l r : ℕ} {P : List Sym} (a : Span) → Taken c l (value r ∷ P) (of brace_l a) (opens 9 a.start ∷ token_event (of brace_l a) ∷ []) (fields r a.start ∷ P)
take_object a (form (a_fields fs b h) F) = (
  form (a_value (object_value a fs b) h) F,
  refl,
  ap (λ (es : List Item). es ++ events_of (end_after (end_of (of brace_l a)) (fields_tokens fs ++ (of brace_r b ∷ []))) F) (node_bracketed 9 (of brace_l a) (of brace_r b) (fields_tokens fs) (fields_events fs)),
)

on_dollar : {l : ℕ} {t : Token} (c : Bool) (r : ℕ) (P K : List Sym)
    → Back c l t (value r ∷ P) K (pick (eqb t.kind dollar) (pick c (stop 8) (go (opens 11 t.start ∷ token_event t ∷ []) (name ∷ close 11 t.start ∷ (P ++ K)))) (stop 9))
on_dollar {t = t} true r P K = test (eqb t.kind dollar) (λ e. refuses 8 refl) (refuses 9 refl)
on_dollar false r P K = on_kind dollar (λ u. opens 11 u.start ∷ token_event u ∷ []) (λ u. name ∷ close 11 u.start ∷ P) take_variable (refuses 9 refl)

-- where a value is due
pub on_value : {l : ℕ} {t : Token} (c : Bool) (r : ℕ) (P K : List Sym) → Back c l t (value r ∷ P) K (at_value c r (P ++ K) t)
unfolding at_value
on_value {t = t} c r P K =
    on_kind int (leaf 2) (λ u. P) (λ s F. (form (a_value {r = r} (int_value s) (omega arith)) F, refl, refl))
    (on_kind float (leaf 3) (λ u. P) (λ s F. (form (a_value {r = r} (float_value s) (omega arith)) F, refl, refl))
    (on_kind string (leaf 4) (λ u. P) (λ s F. (form (a_value {r = r} (string_value s) (omega arith)) F, refl, refl))
    (on_kind word_true (leaf 5) (λ u. P) (λ s F. (form (a_value {r = r} (true_value s) (omega arith)) F, refl, refl))
    (on_kind word_false (leaf 5) (λ u. P) (λ s F. (form (a_value {r = r} (false_value s) (omega arith)) F, refl, refl))
    (on_kind word_null (leaf 6) (λ u. P) (λ s F. (form (a_value {r = r} (null_value s) (omega arith)) F, refl, refl))
    (test (is_enum t.kind) (λ e. takes _ P refl (let w = is_enum_lem t e in rw w.2 (λ F. (form (a_value {r = r} (enum_value w.0 w.1) (omega arith)) F, refl, refl))))
    (on_kind bracket_l (λ u. opens 8 u.start ∷ token_event u ∷ []) (λ u. items r u.start ∷ P) take_list
    (on_kind brace_l (λ u. opens 9 u.start ∷ token_event u ∷ []) (λ u. fields r u.start ∷ P) take_object
    (on_dollar c r P K)))))))))

value_deeper : {c : Bool} {l r : ℕ} {P : List Sym} → Turns c l (deeper (suc r) ∷ P) [] (value r ∷ P)
value_deeper {r = r} (form (a_value v h) F) = (form (a_deeper {r = suc r} v (omega arith)) F, refl, refl)

-- one level deeper
pub on_deeper : {l : ℕ} {t : Token} (c : Bool) (r : ℕ) (P K : List Sym) → Back c l t (deeper r ∷ P) K (at_deeper c r (P ++ K) t)
on_deeper c zero P K = refuses 7 refl
on_deeper {t = t} c (suc r) P K = turned (at_value c r (P ++ K) t) value_deeper (on_value c r P K)

-- one of several, and what follows it
pub item_join : {c : Bool} {P : List Sym} (es fs gs : List Item) (F : Forms c P) (l : ℕ) (us vs ws : List Token)
    → ((es ++ fs) ++ gs) ++ events_of (end_after l ((us ++ vs) ++ ws)) F ≡ es ++ ((fs ++ gs) ++ events_of (end_after (end_after l us) (vs ++ ws)) F)
item_join es fs gs F l us vs ws =
    join_first es fs gs (events_of (end_after l ((us ++ vs) ++ ws)) F) ∙ ap (λ (e : ℕ). es ++ ((fs ++ gs) ++ events_of e F)) (end_join l us vs ws)

deeper_items : {c : Bool} {l r s : ℕ} {P : List Sym} → Turns c l (items r s ∷ P) [] (deeper r ∷ items r s ∷ P)
deeper_items {l = l} {r = r} {s = s} (form (a_deeper v h) (form (an_items vs b i) F)) = (
  form (an_items {r = r} (an_item v vs) b (omega arith)) F,
  join_first (value_tokens v) (values_tokens vs) (of bracket_r b ∷ []) (tokens_of F),
  item_join (value_events v) (values_events vs) (token_event (of bracket_r b) ∷ closes 8 s (end_of (of bracket_r b)) ∷ []) F l (value_tokens v) (values_tokens vs) (of bracket_r b ∷ []),
)

-- a list's further items or its `]`
pub on_items : {l : ℕ} {t : Token} (c : Bool) (r s : ℕ) (P K : List Sym) → Back c l t (items r s ∷ P) K (at_items c r s (P ++ K) t)
unfolding at_items
on_items {t = t} c r s P K =
    on_kind bracket_r (λ u. token_event u ∷ closes 8 s (end_of u) ∷ []) (λ u. P) (λ b F. (form (an_items {r = r} {s = s} no_value b (omega arith)) F, refl, refl))
    (test (eqb t.kind eof) (λ e. refuses 9 refl) (turned (at_deeper c r (items r s ∷ (P ++ K)) t) deeper_items (on_deeper c r (items r s ∷ P) K)))

-- a node that is one of several: where it closes, and what follows it
pub node_join : {c : Bool} {P : List Sym} (es fs gs : List Item) (F : Forms c P) (n s : ℕ) (t : Token) (us vs ws : List Token)
    → (((es ++ (closes n s (last_end (t ∷ us)) ∷ [])) ++ fs) ++ gs) ++ events_of (end_after (end_of t) ((us ++ vs) ++ ws)) F
    ≡ es ++ (closes n s (end_after (end_of t) us) ∷ ((fs ++ gs) ++ events_of (end_after (end_after (end_of t) us) (vs ++ ws)) F))
node_join es fs gs F n s t us vs ws =
    rw (← end_after_last 0 t us)
    (item_join (es ++ (closes n s (end_after (end_of t) us) ∷ [])) fs gs F (end_of t) us vs ws
    ∙ append_assoc es (closes n s (end_after (end_of t) us) ∷ []) ((fs ++ gs) ++ events_of (end_after (end_after (end_of t) us) (vs ++ ws)) F))

take_field : {c : Bool} {l r s : ℕ} {P : List Sym} (n : Name)
    → Taken c l (fields r s ∷ P) (name_token n) (opens 10 n.span.start ∷ name_events (name_token n)) (colon_due ∷ deeper r ∷ close 10 n.span.start ∷ fields r s ∷ P)
take_field {r = r} {s = s} n (form (a_colon k) (form (a_deeper v h) (form a_close (form (a_fields fs b i) F)))) = (
  form (a_fields {r = r} (a_field n k v fs) b (omega arith)) F,
  ap (λ (us : List Token). name_token n ∷ of colon k ∷ us) (join_first (value_tokens v) (fields_tokens fs) (of brace_r b ∷ []) (tokens_of F)),
  ap (λ (es : List Item). opens 10 n.span.start ∷ (name_events (name_token n) ++ (token_event (of colon k) ∷ es)))
      (node_join (value_events v) (fields_events fs) (token_event (of brace_r b) ∷ closes 9 s (end_of (of brace_r b)) ∷ []) F 10 n.span.start (of colon k) (value_tokens v) (fields_tokens fs) (of brace_r b ∷ [])),
)

-- an object's further fields or its `}`
pub on_fields : {l : ℕ} {t : Token} (c : Bool) (r s : ℕ) (P K : List Sym) → Back c l t (fields r s ∷ P) K (at_fields r s (P ++ K) t)
unfolding at_fields
on_fields c r s P K =
    on_kind brace_r (λ u. token_event u ∷ closes 9 s (end_of u) ∷ []) (λ u. P) (λ b F. (form (a_fields {r = r} {s = s} no_field b (omega arith)) F, refl, refl))
    (on_name (λ u. opens 10 u.start ∷ name_events u) (λ u. colon_due ∷ deeper r ∷ close 10 u.start ∷ fields r s ∷ P) take_field (refuses 9 refl))
