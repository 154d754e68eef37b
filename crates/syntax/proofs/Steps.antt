-- The run in small steps: events before events, nodes that end, and where the last token ends. Assumes nothing.
use Prim.Native.Nat.{ℕ}
use mathlib.Core.Path.{◌≡◌, refl, sym, ap, ap₂, ◌∙◌}
use mathlib.Core.Bool.{Bool, false}
use mathlib.Core.List.{List, [], ◌∷◌, ◌++◌, append_assoc}
use lib.Dec.{eqb}
use Rattle.base.specs.Item.{Item}
use Rattle.syntax.specs.Token.{plain, word_true, word_false, word_null, word_on, Token, end_of, token_event, opens, closes}
use Rattle.syntax.specs.Grammar.{Word, kind_of, last_end, node}
use Rattle.syntax.specs.Machine.{Sym, close, Move, go, stop, halt, also, step, Read, refused, accepted, emits, moved, run}

-- events before events
pub emits_emits : (es fs : List Item) (a : Read) → emits es (emits fs a) ≡ emits (es ++ fs) a
emits_emits es fs (refused n p) = refl
emits_emits es fs (accepted gs) = ap accepted (sym (append_assoc es fs gs))

-- no events before
pub emits_none : (a : Read) → emits [] a ≡ a
emits_none (refused n p) = refl
emits_none (accepted fs) = refl

-- the reading a gives the events es, and then it is the reading b
pub record Gives (a : Read) (es : List Item) (b : Read) : Type 0 where
  pub is : a ≡ emits es b

-- one after another
pub and_then : {a b d : Read} {es fs : List Item} → Gives a es b → Gives b fs d → Gives a (es ++ fs) d
and_then {d = d} {es = es} {fs = fs} p q = record { is = p.is ∙ ap (emits es) q.is ∙ emits_emits es fs d }

-- a reading that is another one
pub same_as : {a b d : Read} {es : List Item} → a ≡ b → Gives b es d → Gives a es d
same_as p q = record { is = p ∙ q.is }

-- with the same events
pub events_as : {a b : Read} {es fs : List Item} → es ≡ fs → Gives a fs b → Gives a es b
events_as p q = rw p q

-- what is refused behind events is refused
pub emits_refused : (a : Read) (es : List Item) (n p : ℕ) → emits es a ≡ refused n p → a ≡ refused n p
emits_refused (refused m q) es n p e = e
emits_refused (accepted gs) es n p e = cc

-- what is accepted behind events is accepted, with the other events
pub emits_accepted : (a : Read) (es fs : List Item) → emits es a ≡ accepted fs → (gs : List Item) × (a ≡ accepted gs) × (fs ≡ es ++ gs)
emits_accepted (refused n p) es fs e = ([], cc, cc)
emits_accepted (accepted gs) es fs e = (gs, refl, cc)

-- events before a move
pub moved_also : (es : List Item) (m : Move) (p : ℕ) (k : List Sym → Read) → moved (also es m) p k ≡ emits es (moved m p k)
moved_also es (go fs K) p k = sym (emits_emits es fs (k K))
moved_also es (stop n) p k = refl
moved_also es (halt fs) p k = refl

-- a node that ends where the last token did
pub run_close : (c : Bool) (n s l : ℕ) (K : List Sym) (ts : List Token) → run c (close n s ∷ K) l ts ≡ emits (closes n s l ∷ []) (run c K l ts)
unfolding run step
run_close c n s l K [] = refl
run_close c n s l K (t ∷ ts) = moved_also (closes n s l ∷ []) (step c l K t) t.start (λ K'. run c K' (end_of t) ts)

-- where the last token of ts ends, if there is one; else l
abbrev pub end_after : ℕ → List Token → ℕ
end_after l [] = l
end_after l (t ∷ ts) = end_after (end_of t) ts

-- where the last of tokens after tokens ends
pub end_after_append : (l : ℕ) (ts us : List Token) → end_after l (ts ++ us) ≡ end_after (end_after l ts) us
end_after_append l [] us = refl
end_after_append l (t ∷ ts) us = end_after_append (end_of t) ts us

-- of some tokens it is the last one's end
pub end_after_last : (l : ℕ) (t : Token) (ts : List Token) → end_after l (t ∷ ts) ≡ last_end (t ∷ ts)
end_after_last l t [] = refl
end_after_last l t (u ∷ ts) = end_after_last (end_of t) u ts

-- the first token, if there is one, is not of kind k
abbrev pub Not : ℕ → List Token → Type 0
Not k [] = Unit {0}
Not k (t ∷ ts) = eqb t.kind k ≡ false

-- some tokens
abbrev pub Some : List Token → Type 0
Some ts = (t : Token) × (us : List Token) × (ts ≡ t ∷ us)

-- another token before some does not change where the last ends
pub some_last : (t : Token) (ts : List Token) → Some ts → last_end (t ∷ ts) ≡ last_end ts
some_last t ts s = rw s.2

-- the end after some tokens is the end of the last
pub some_end : (l : ℕ) (ts : List Token) → Some ts → end_after l ts ≡ last_end ts
some_end l ts s = rw s.2 (end_after_last l s.0 s.1)

-- the last token is the last
pub last_end_snoc : (ts : List Token) (t : Token) → last_end (ts ++ (t ∷ [])) ≡ end_of t
last_end_snoc [] t = refl
last_end_snoc (u ∷ []) t = refl
last_end_snoc (u ∷ v ∷ ts) t = last_end_snoc (v ∷ ts) t

-- what holds of the five kinds of a name holds of a word's
pub by_word : (P : ℕ → Type 0) → P plain → P word_true → P word_false → P word_null → P word_on → (w : Word) → P (kind_of w)
by_word P a b c d e Word.other = a
by_word P a b c d e Word.is_true = b
by_word P a b c d e Word.is_false = c
by_word P a b c d e Word.is_null = d
by_word P a b c d e Word.is_on = e

-- joins, from the right
pub join : {A : Type 0} (w x y z : List A) → ((w ++ x) ++ y) ++ z ≡ w ++ (x ++ (y ++ z))
join w x y z = append_assoc (w ++ x) y z ∙ append_assoc w x (y ++ z)

-- the same, the middle ones together
pub join_first : {A : Type 0} (w x y z : List A) → ((w ++ x) ++ y) ++ z ≡ w ++ ((x ++ y) ++ z)
join_first {A} w x y z = ap (λ (l : List A). l ++ z) (append_assoc w x y) ∙ append_assoc w (x ++ y) z

-- the same, the last ones together first
pub join_last : {A : Type 0} (w x y z : List A) → (w ++ (x ++ y)) ++ z ≡ w ++ (x ++ (y ++ z))
join_last {A} w x y z = append_assoc w (x ++ y) z ∙ ap (λ (l : List A). w ++ l) (append_assoc x y z)

-- the end after joined tokens
pub end_join : (l : ℕ) (x y z : List Token) → end_after l ((x ++ y) ++ z) ≡ end_after (end_after l x) (y ++ z)
end_join l x y z = ap (end_after l) (append_assoc x y z) ∙ end_after_append l x (y ++ z)

-- the end after three runs of tokens
pub end_last : (l : ℕ) (x y z : List Token) → end_after l (x ++ (y ++ z)) ≡ end_after (end_after (end_after l x) y) z
end_last l x y z = end_after_append l x (y ++ z) ∙ end_after_append (end_after l x) y z

-- a node from its opening token a to its closing token b
pub node_bracketed : (n : ℕ) (a b : Token) (us : List Token) (es : List Item)
    → node n (a ∷ (us ++ (b ∷ []))) (token_event a ∷ (es ++ (token_event b ∷ []))) ≡ opens n a.start ∷ token_event a ∷ (es ++ (token_event b ∷ closes n a.start (end_of b) ∷ []))
node_bracketed n a b us es =
    rw (last_end_snoc (a ∷ us) b) (ap (λ (gs : List Item). opens n a.start ∷ token_event a ∷ gs) (append_assoc es (token_event b ∷ []) (closes n a.start (end_of b) ∷ [])))

-- it is read in two parts
pub bracketed : (c : Bool) (n : ℕ) (a b : Token) (us ts : List Token) (es : List Item) (K : List Sym)
    → emits (opens n a.start ∷ token_event a ∷ []) (emits (es ++ (token_event b ∷ closes n a.start (end_of b) ∷ [])) (run c K (end_of b) ts))
    ≡ emits (node n (a ∷ (us ++ (b ∷ []))) (token_event a ∷ (es ++ (token_event b ∷ [])))) (run c K (last_end (a ∷ (us ++ (b ∷ [])))) ts)
bracketed c n a b us ts es K =
    emits_emits (opens n a.start ∷ token_event a ∷ []) (es ++ (token_event b ∷ closes n a.start (end_of b) ∷ [])) (run c K (end_of b) ts)
    ∙ ap₂ (λ (gs : List Item) (e : ℕ). emits gs (run c K e ts)) (sym (node_bracketed n a b us es)) (sym (last_end_snoc (a ∷ us) b))
