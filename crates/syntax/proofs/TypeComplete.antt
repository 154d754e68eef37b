-- A type's tokens within the depth limit are read, with the type's events. Assumes nothing.
use Prim.Native.Nat.{ℕ, zero, suc, ◌≤◌}
use native.Mathlib.Omega.{arith}
use mathlib.Core.Path.{◌≡◌, refl, sym, ap, ap₂, ◌∙◌}
use mathlib.Core.List.{List, [], ◌∷◌, ◌++◌, append_assoc}
use Rattle.base.specs.Item.{Item}
use Rattle.syntax.specs.Token.{eof, bang, bracket_l, bracket_r, is_name, Token, end_of, token_event, opens, closes, name_events}
use Rattle.syntax.specs.Grammar.{Span, of, Name, name_token, start_of, last_end, node}
use Rattle.syntax.specs.Types.{Ty, nullable, non_null, Base, named_type, list_type, ty_tokens, base_tokens, ty_events, base_events, ty_depth, base_depth}
use Rattle.syntax.specs.Machine.{accepted}
use Rattle.syntax.specs.TypeReading.{typed, with_bang, with_bracket, type_at, whole_type, read_type}
use Rattle.syntax.proofs.Steps.{last_end_snoc, Not, by_word, node_bracketed}

-- a name is read as a type
type_name : (n : Name) (r : ℕ) (ts : List Token)
    → type_at r (name_token n ∷ ts) ≡ with_bang n.span.start (base_events (named_type n)) (end_of (name_token n)) ts
unfolding type_at is_name
type_name n zero ts =
    by_word (λ (k : ℕ). type_at zero (of k n.span ∷ ts) ≡ with_bang n.span.start (node 12 (of k n.span ∷ []) (name_events (of k n.span))) (end_of (of k n.span)) ts)
    refl refl refl refl refl n.word
type_name n (suc r) ts =
    by_word (λ (k : ℕ). type_at (suc r) (of k n.span ∷ ts) ≡ with_bang n.span.start (node 12 (of k n.span ∷ []) (name_events (of k n.span))) (end_of (of k n.span)) ts)
    refl refl refl refl refl n.word

-- no `!` follows
pub no_bang : (s : ℕ) (es : List Item) (e : ℕ) (ts : List Token) → Not bang ts → with_bang s es e ts ≡ typed es e ts
unfolding with_bang
no_bang s es e [] n = refl
no_bang s es e (t ∷ ts) n = rw n

-- what follows a type does not change where it starts
pub base_start : (b : Base) (us : List Token) → start_of (base_tokens b ++ us) ≡ start_of (base_tokens b)
base_start (named_type n) us = refl
base_start (list_type l t r) us = refl

-- a `!` makes a type's events a NON_NULL_TYPE's
pub bang_events : (b : Base) (s : Span)
    → ty_events (non_null b s) ≡ opens 14 (start_of (base_tokens b)) ∷ (base_events b ++ (token_event (of bang s) ∷ closes 14 (start_of (base_tokens b)) (end_of (of bang s)) ∷ []))
bang_events b s =
    rw (base_start b (of bang s ∷ []), last_end_snoc (base_tokens b) (of bang s))
    (ap (λ (es : List Item). opens 14 (start_of (base_tokens b)) ∷ es) (append_assoc (base_events b) (token_event (of bang s) ∷ []) (closes 14 (start_of (base_tokens b)) (end_of (of bang s)) ∷ [])))

-- where a type without a `!` ends, no `!` follows
abbrev pub Stops : Ty → List Token → Type 0
Stops (nullable b) ts = Not bang ts
Stops (non_null b s) ts = Unit {0}

-- before anything but a `!` every type ends
pub stops : (t : Ty) (ts : List Token) → Not bang ts → Stops t ts
stops (nullable b) ts n = n
stops (non_null b s) ts n = tt

mutual
  unfolding type_at with_bang with_bracket is_name

  -- a type's tokens, before anything but a `!` that would belong to it
  pub type_read : (t : Ty) (r : ℕ) (ts : List Token) → ty_depth t ≤ r → Stops t ts → type_at r (ty_tokens t ++ ts) ≡ typed (ty_events t) (last_end (ty_tokens t)) ts
  type_read (nullable b) r ts h n = base_read b r ts h ∙ no_bang (start_of (base_tokens b)) (base_events b) (last_end (base_tokens b)) ts n
  type_read (non_null b s) r ts h n =
      rw (append_assoc (base_tokens b) (of bang s ∷ []) ts)
      (base_read b r (of bang s ∷ ts) h
      ∙ ap₂ (λ (es : List Item) (e : ℕ). typed es e ts) (sym (bang_events b s)) (sym (last_end_snoc (base_tokens b) (of bang s))))

  -- a type's tokens but for its `!`
  pub base_read : (b : Base) (r : ℕ) (ts : List Token) → base_depth b ≤ r
      → type_at r (base_tokens b ++ ts) ≡ with_bang (start_of (base_tokens b)) (base_events b) (last_end (base_tokens b)) ts
  base_read (named_type n) r ts h = type_name n r ts
  base_read (list_type l t e) zero ts h = absurd (omega arith)
  base_read (list_type l t e) (suc r) ts h =
      rw (append_assoc (ty_tokens t) (of bracket_r e ∷ []) ts)
      (ap (with_bracket (of bracket_l l)) (type_read t r (of bracket_r e ∷ ts) (omega arith) (stops t (of bracket_r e ∷ ts) refl))
      ∙ ap₂ (λ (es : List Item) (n : ℕ). with_bang l.start es n ts) (sym (node_bracketed 13 (of bracket_l l) (of bracket_r e) (ty_tokens t) (ty_events t)))
      (sym (last_end_snoc (of bracket_l l ∷ ty_tokens t) (of bracket_r e))))

-- a type within the limit, then Eof, is accepted, with the type's events
pub type_complete : (d : ℕ) (t : Ty) (e : Token) (ts : List Token) → ty_depth t ≤ d → e.kind ≡ eof → read_type d (ty_tokens t ++ (e ∷ ts)) ≡ accepted (ty_events t)
unfolding whole_type
type_complete d t e ts h k = ap whole_type (type_read t d (e ∷ ts) h (stops t (e ∷ ts) (rw k))) ∙ rw k
