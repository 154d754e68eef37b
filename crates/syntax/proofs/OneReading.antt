-- One reading: two trees with the same tokens are the same tree, and so are two with the same events, up to the words of their names: an event
-- says that a Name stands there, and the text says which. Assumes nothing.
use Prim.Native.Nat.{ℕ, ◌+◌, ◌≤◌, max}
use native.Mathlib.Omega.{arith}
use mathlib.Core.Path.{◌≡◌, refl, sym, ap, ap₂, ◌∙◌}
use mathlib.Core.Bool.{Bool, true, false}
use mathlib.Core.List.{List, [], ◌∷◌, ◌++◌, map}
use lib.Dec.{eqb, leb}
use lib.ListN.{take, drop}
use borrow.Author.Tests.{lt-leb}
use Rattle.base.specs.Text.{pick}
use Rattle.base.specs.Item.{Item}
use Rattle.syntax.specs.Token.{plain, word_true, word_false, word_null, word_on, Token, token, code_of, token_event}
use Rattle.syntax.specs.Words.{same, word_of, token_of, ignored, significant}
use Rattle.syntax.specs.Grammar.{Span, EnumWord, Value, enum_value, value_tokens, value_events, value_depth}
use Rattle.syntax.specs.Types.{Ty, ty_tokens, ty_events, ty_depth}
use Rattle.syntax.specs.Selections.{SelectionSet, set_tokens, set_events, set_depth}
use Rattle.syntax.specs.Machine.{Read, accepted, value, run, read_selection_set}
use Rattle.syntax.specs.TypeReading.{read_type}
use Rattle.syntax.proofs.ValueComplete.{value_accepted}
use Rattle.syntax.proofs.TypeComplete.{type_complete}
use Rattle.syntax.proofs.SetComplete.{set_complete}
use Rattle.syntax.proofs.Cst.{Cst, Is, value_cst, is_value, ty_cst, is_ty, set_cst, is_set}
use Rattle.syntax.proofs.Nest.{tokens_in, value_tokens_in, ty_tokens_in, set_tokens_in}
use Rattle.syntax.proofs.Unique.{one_cst, same_value, same_ty, same_set}

one_is : {ts us : List Token} {es fs : List Item} (x y : Cst) → Is x ts es → Is y us fs → ts ≡ us → es ≡ fs → x ≡ y
one_is x y i j p q = one_cst x y (i.tokens ∙ p ∙ sym j.tokens) (i.events ∙ q ∙ sym j.events)

-- ---- the same tokens

abbrev eof_at : Token
eof_at = token 0 0 0

same_accepted : {es fs : List Item} (a b : Read) → a ≡ accepted es → b ≡ accepted fs → a ≡ b → es ≡ fs
same_accepted a b p q e = cc

-- two values with the same tokens are the same value
pub value_one : {c : Bool} (v u : Value c) → value_tokens v ≡ value_tokens u → v ≡ u
value_one {c} v u p =
    let d = max (value_depth v) (value_depth u) in
    same_value v u (one_is (value_cst v) (value_cst u) (is_value v) (is_value u) p
    (same_accepted (run c (value d ∷ []) 0 (value_tokens v ++ (eof_at ∷ []))) (run c (value d ∷ []) 0 (value_tokens u ++ (eof_at ∷ [])))
    (value_accepted d v eof_at [] (omega arith) refl) (value_accepted d u eof_at [] (omega arith) refl) (ap (λ (ts : List Token). run c (value d ∷ []) 0 (ts ++ (eof_at ∷ []))) p)))

-- two types with the same tokens are the same type
pub ty_one : (t u : Ty) → ty_tokens t ≡ ty_tokens u → t ≡ u
ty_one t u p =
    let d = max (ty_depth t) (ty_depth u) in
    same_ty t u (one_is (ty_cst t) (ty_cst u) (is_ty t) (is_ty u) p
    (same_accepted (read_type d (ty_tokens t ++ (eof_at ∷ []))) (read_type d (ty_tokens u ++ (eof_at ∷ [])))
    (type_complete d t eof_at [] (omega arith) refl) (type_complete d u eof_at [] (omega arith) refl) (ap (λ (ts : List Token). read_type d (ts ++ (eof_at ∷ []))) p)))

-- two selection sets with the same tokens are the same selection set
pub set_one : (s r : SelectionSet) → set_tokens s ≡ set_tokens r → s ≡ r
set_one s r p =
    let d = max (set_depth s) (set_depth r) in
    same_set s r (one_is (set_cst s) (set_cst r) (is_set s) (is_set r) p
    (same_accepted (read_selection_set d (set_tokens s ++ (eof_at ∷ []))) (read_selection_set d (set_tokens r ++ (eof_at ∷ [])))
    (set_complete d s eof_at [] (omega arith) refl) (set_complete d r eof_at [] (omega arith) refl) (ap (λ (ts : List Token). read_selection_set d (ts ++ (eof_at ∷ []))) p)))

-- ---- the same events

-- events do not say which word a Name is: `on` and another word of the same span, as enum values, have the same events
pub events_forget : (s : Span) → value_events {c = true} (enum_value EnumWord.other s) ≡ value_events {c = true} (enum_value EnumWord.is_on s)
events_forget s = refl

-- in the text, every token is spelt as its kind says
abbrev pub Spelt : List ℕ → List Token → Type 0
Spelt text [] = Unit {0}
Spelt text (t ∷ ts) = (t.kind ≡ pick (eqb (code_of t) plain) (word_of (take t.size (drop t.start text))) (code_of t)) × Spelt text ts

-- tokens of one text that give the same events are the same
spelt_same : (text : List ℕ) (ts us : List Token) → Spelt text ts → Spelt text us → map token_event ts ≡ map token_event us → ts ≡ us
spelt_same text [] [] p q e = refl
spelt_same text [] (u ∷ us) p q e = cc
spelt_same text (t ∷ ts) [] p q e = cc
spelt_same text (t ∷ ts) (u ∷ us) p q e =
    let h : token_event t ≡ token_event u = cc in
    let r : map token_event ts ≡ map token_event us = cc in
    let c : code_of t ≡ code_of u = (let z : 128 + code_of t ≡ 128 + code_of u = ap (λ (x : Item). x.code) h in omega arith) in
    let a : t.start ≡ u.start = ap (λ (x : Item). x.start) h in
    let b : t.size ≡ u.size = ap (λ (x : Item). x.size) h in
    let k : t.kind ≡ u.kind = p.0 ∙ rw (c, a, b) (sym q.0) in
    ap₂ (λ (x : Token) (xs : List Token). x ∷ xs) (ap₂ (λ (i j : ℕ). token i j t.size) k a ∙ ap (token u.kind u.start) b) (spelt_same text ts us p.1 q.1 r)

-- items that are no errors
abbrev pub NoError : List Item → Type 0
NoError [] = Unit {0}
NoError (x ∷ xs) = (x.code ≤ 21) × NoError xs

-- a Name's word is a Name's kind
word_code : (w : List ℕ) → pick (leb word_true (word_of w)) plain (word_of w) ≡ plain
unfolding word_of
word_code w =
    by_words (same w (116 ∷ 114 ∷ 117 ∷ 101 ∷ [])) (same w (102 ∷ 97 ∷ 108 ∷ 115 ∷ 101 ∷ [])) (same w (110 ∷ 117 ∷ 108 ∷ 108 ∷ [])) (same w (111 ∷ 110 ∷ []))
  where
    by_words : (a b c d : Bool) → pick (leb word_true (pick a word_true (pick b word_false (pick c word_null (pick d word_on plain))))) plain (pick a word_true (pick b word_false (pick c word_null (pick d word_on plain)))) ≡ plain
    by_words true b c d = refl
    by_words false true c d = refl
    by_words false false true d = refl
    by_words false false false true = refl
    by_words false false false false = refl

token_spelt : (text : List ℕ) (x : Item) → x.code ≤ 21
    → (token_of text x).kind ≡ pick (eqb (code_of (token_of text x)) plain) (word_of (take (token_of text x).size (drop (token_of text x).start text))) (code_of (token_of text x))
unfolding token_of
token_spelt text x h = by_plain (eqb x.code plain) refl
  where
    w : ℕ
    w = word_of (take x.size (drop x.start text))

    by_plain : (b : Bool) → eqb x.code plain ≡ b
        → pick b w x.code ≡ pick (eqb (pick (leb word_true (pick b w x.code)) plain (pick b w x.code)) plain) w (pick (leb word_true (pick b w x.code)) plain (pick b w x.code))
    by_plain true e = rw (word_code (take x.size (drop x.start text)))
    by_plain false e = rw (lt-leb word_true x.code (omega arith), e)

-- the tokens of a text without errors are spelt as their kinds say
pub significant_spelt : (text : List ℕ) (xs : List Item) → NoError xs → Spelt text (significant text xs)
unfolding significant
significant_spelt text [] h = tt
significant_spelt text (x ∷ xs) h = by_ignored (ignored x.code) (significant_spelt text xs h.1)
  where
    by_ignored : (b : Bool) → Spelt text (significant text xs) → Spelt text (pick b (significant text xs) (token_of text x ∷ significant text xs))
    by_ignored true p = p
    by_ignored false p = (token_spelt text x h.0, p)

-- the first of them are
pub spelt_first : (text : List ℕ) (ts us : List Token) → Spelt text (ts ++ us) → Spelt text ts
spelt_first text [] us h = tt
spelt_first text (t ∷ ts) us h = (h.0, spelt_first text ts us h.1)

-- two values of one text with the same events are the same value
pub value_one_events : {c : Bool} (text : List ℕ) (v u : Value c) → Spelt text (value_tokens v) → Spelt text (value_tokens u) → value_events v ≡ value_events u → v ≡ u
value_one_events text v u p q e =
    value_one v u (spelt_same text (value_tokens v) (value_tokens u) p q (sym (value_tokens_in v) ∙ ap tokens_in e ∙ value_tokens_in u))

-- two types
pub ty_one_events : (text : List ℕ) (t u : Ty) → Spelt text (ty_tokens t) → Spelt text (ty_tokens u) → ty_events t ≡ ty_events u → t ≡ u
ty_one_events text t u p q e = ty_one t u (spelt_same text (ty_tokens t) (ty_tokens u) p q (sym (ty_tokens_in t) ∙ ap tokens_in e ∙ ty_tokens_in u))

-- two selection sets
pub set_one_events : (text : List ℕ) (s r : SelectionSet) → Spelt text (set_tokens s) → Spelt text (set_tokens r) → set_events s ≡ set_events r → s ≡ r
set_one_events text s r p q e = set_one s r (spelt_same text (set_tokens s) (set_tokens r) p q (sym (set_tokens_in s) ∙ ap tokens_in e ∙ set_tokens_in r))
