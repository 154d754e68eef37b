-- What the reader's definition does at a token, by the token's kind. Assumes nothing.
use Prim.Native.Nat.{ℕ, ◌<◌}
use mathlib.Core.Path.{◌≡◌, refl, sym}
use mathlib.Core.Bool.{Bool, true, false}
use mathlib.Core.List.{List, [], ◌∷◌, ◌++◌}
use native.Mathlib.Omega.{arith}
use borrow.Author.Tests.{eq-eqb, ne_eqb, eqb-true}
use lib.Dec.{eqb}
use Rattle.base.specs.Text.{from}
use Rattle.base.proofs.Tests.{by, or_true, from_true, apart}
use Rattle.syntax.specs.Token.{is_name, is_enum, Token, end_of, token_event, opens, closes, leaf, name_events}
use Rattle.syntax.specs.Machine.{Sym, value, deeper, items, fields, name, colon_due, close, go, stop, at_value, at_items, at_fields, at_name, at_colon, step}
use Rattle.values.specs.Scalars.{scalar_node}

-- the kinds of a Name
pub name_kind : (k : ℕ) → is_name k ≡ true → (k < 26) × (k ≡ 0 → ⊥)
unfolding is_name
name_kind k e =
    or_true (eqb k 18) (from 22 25 k) e
    (λ h. let z = eqb-true k 18 h in (omega arith, λ w. omega arith))
    (λ h. let z = from_true 22 25 k h in (omega arith, λ w. omega arith))

pub enum_kind_lem : (k : ℕ) → is_enum k ≡ true → (k < 26) × (k ≡ 0 → ⊥)
unfolding is_enum
enum_kind_lem k e =
    or_true (eqb k 18) (eqb k 25) e
    (λ h. let z = eqb-true k 18 h in (omega arith, λ w. omega arith))
    (λ h. let z = eqb-true k 25 h in (omega arith, λ w. omega arith))

module _ (c : Bool) (l : ℕ) (t : Token) (K : List Sym) where
  pub at_name_lem : is_name t.kind ≡ true → step c l (name ∷ K) t ≡ go (name_events t) K
  unfolding step at_name
  at_name_lem e = rw e

  pub no_name : is_name t.kind ≡ false → step c l (name ∷ K) t ≡ stop 9
  unfolding step at_name
  no_name e = rw e

  pub at_colon_lem : t.kind ≡ 10 → step c l (colon_due ∷ K) t ≡ go (token_event t ∷ []) K
  unfolding step at_colon
  at_colon_lem e = rw (eq-eqb t.kind 10 e)

  pub no_colon : (t.kind ≡ 10 → ⊥) → step c l (colon_due ∷ K) t ≡ stop 9
  unfolding step at_colon
  no_colon e = rw (ne_eqb t.kind 10 e)

-- a value of one token
scalar_by : (c : Bool) (r : ℕ) (K : List Sym) (t : Token) (n : ℕ) → scalar_node t.kind ≡ n → (n ≡ 0 → ⊥) → at_value c r K t ≡ go (leaf n t) K
unfolding scalar_node at_value
scalar_by c r K t n e z =
    by (eqb t.kind 20) (λ a. let m = rw a at e in rw (a, ← m))
    (λ a. by (eqb t.kind 21) (λ b. let m = rw (a, b) at e in rw (a, b, ← m))
    (λ b. by (eqb t.kind 19) (λ d. let m = rw (a, b, d) at e in rw (a, b, d, ← m))
    (λ d. by (eqb t.kind 22) (λ f. let m = rw (a, b, d, f) at e in rw (a, b, d, f, ← m))
    (λ f. by (eqb t.kind 23) (λ g. let m = rw (a, b, d, f, g) at e in rw (a, b, d, f, g, ← m))
    (λ g. by (eqb t.kind 24) (λ h. let m = rw (a, b, d, f, g, h) at e in rw (a, b, d, f, g, h, ← m))
    (λ h. let m = rw (a, b, d, f, g, h) at e in absurd (z (sym m))))))))

pub scalar_kind : (k n : ℕ) → scalar_node k ≡ n → (n ≡ 0 → ⊥) → (k < 26) × (k ≡ 0 → ⊥) × (n < 64)
unfolding scalar_node
scalar_kind k n e z =
    by (eqb k 20) (λ a. let m = rw a at e in let v = eqb-true k 20 a in (omega arith, λ w. omega arith, omega arith))
    (λ a. by (eqb k 21) (λ b. let m = rw (a, b) at e in let v = eqb-true k 21 b in (omega arith, λ w. omega arith, omega arith))
    (λ b. by (eqb k 19) (λ d. let m = rw (a, b, d) at e in let v = eqb-true k 19 d in (omega arith, λ w. omega arith, omega arith))
    (λ d. by (eqb k 22) (λ f. let m = rw (a, b, d, f) at e in let v = eqb-true k 22 f in (omega arith, λ w. omega arith, omega arith))
    (λ f. by (eqb k 23) (λ g. let m = rw (a, b, d, f, g) at e in let v = eqb-true k 23 g in (omega arith, λ w. omega arith, omega arith))
    (λ g. by (eqb k 24) (λ h. let m = rw (a, b, d, f, g, h) at e in let v = eqb-true k 24 h in (omega arith, λ w. omega arith, omega arith))
    (λ h. let m = rw (a, b, d, f, g, h) at e in absurd (z (sym m))))))))

-- no value of one token
not_scalar : (k : ℕ) → scalar_node k ≡ 0 → (eqb k 20 ≡ false) × (eqb k 21 ≡ false) × (eqb k 19 ≡ false) × (eqb k 22 ≡ false) × (eqb k 23 ≡ false) × (eqb k 24 ≡ false)
unfolding scalar_node
not_scalar k e =
    by (eqb k 20) (λ a. let m = rw a at e in absurd (omega arith))
    (λ a. by (eqb k 21) (λ b. let m = rw (a, b) at e in absurd (omega arith))
    (λ b. by (eqb k 19) (λ d. let m = rw (a, b, d) at e in absurd (omega arith))
    (λ d. by (eqb k 22) (λ f. let m = rw (a, b, d, f) at e in absurd (omega arith))
    (λ f. by (eqb k 23) (λ g. let m = rw (a, b, d, f, g) at e in absurd (omega arith))
    (λ g. by (eqb k 24) (λ h. let m = rw (a, b, d, f, g, h) at e in absurd (omega arith))
    (λ h. (a, b, d, f, g, h)))))))

module _ (c : Bool) (l r : ℕ) (t : Token) (K : List Sym) where
  pub at_scalar : (n : ℕ) → scalar_node t.kind ≡ n → (n ≡ 0 → ⊥) → step c l (value r ∷ K) t ≡ go (leaf n t) K
  unfolding step
  at_scalar n e z = scalar_by c r K t n e z

  module _ (s : scalar_node t.kind ≡ 0) where
    pub at_enum : is_enum t.kind ≡ true
        → step c l (value r ∷ K) t ≡ go (opens 7 t.start ∷ (name_events t ++ (closes 7 t.start (end_of t) ∷ []))) K
    unfolding step at_value
    at_enum e = let n = not_scalar t.kind s in rw (n.0, n.1, n.2, n.3, n.4, n.5, e)

    pub no_value_lem : is_enum t.kind ≡ false → (t.kind ≡ 13 → ⊥) → (t.kind ≡ 15 → ⊥) → (t.kind ≡ 5 → ⊥) → step c l (value r ∷ K) t ≡ stop 9
    unfolding step at_value
    no_value_lem e b o d =
        let n = not_scalar t.kind s in
        rw (n.0, n.1, n.2, n.3, n.4, n.5, e, ne_eqb t.kind 13 b, ne_eqb t.kind 15 o, ne_eqb t.kind 5 d)

  pub at_bracket : t.kind ≡ 13 → step c l (value r ∷ K) t ≡ go (opens 8 t.start ∷ token_event t ∷ []) (items r t.start ∷ K)
  unfolding step at_value is_enum
  at_bracket e = rw e

  pub at_brace : t.kind ≡ 15 → step c l (value r ∷ K) t ≡ go (opens 9 t.start ∷ token_event t ∷ []) (fields r t.start ∷ K)
  unfolding step at_value is_enum
  at_brace e = rw e

  -- in a list
  pub list_ends : (s : ℕ) → t.kind ≡ 14 → step c l (items r s ∷ K) t ≡ go (token_event t ∷ closes 8 s (end_of t) ∷ []) K
  unfolding step at_items
  list_ends s e = rw e

  pub list_cut : (s : ℕ) → t.kind ≡ 0 → step c l (items r s ∷ K) t ≡ stop 9
  unfolding step at_items
  list_cut s e = rw e

  pub list_deep : (s : ℕ) → (t.kind ≡ 14 → ⊥) → (t.kind ≡ 0 → ⊥) → r ≡ 0 → step c l (items r s ∷ K) t ≡ stop 7
  unfolding step at_items
  list_deep s b e z = rw (ne_eqb t.kind 14 b, ne_eqb t.kind 0 e, z)

  -- in an object
  pub object_ends : (s : ℕ) → t.kind ≡ 17 → step c l (fields r s ∷ K) t ≡ go (token_event t ∷ closes 9 s (end_of t) ∷ []) K
  unfolding step at_fields
  object_ends s e = rw e

  pub object_name : (s : ℕ) → is_name t.kind ≡ true
      → step c l (fields r s ∷ K) t ≡ go (opens 10 t.start ∷ name_events t) (colon_due ∷ deeper r ∷ close 10 t.start ∷ fields r s ∷ K)
  unfolding step at_fields is_name
  object_name s e = by (eqb t.kind 17) (λ z. let k = eqb-true t.kind 17 z in apart (is_name 17) (rw k at e) refl) (λ z. rw (z, e))

  pub object_none : (s : ℕ) → (t.kind ≡ 17 → ⊥) → is_name t.kind ≡ false → step c l (fields r s ∷ K) t ≡ stop 9
  unfolding step at_fields
  object_none s b e = rw (ne_eqb t.kind 17 b, e)

  pub too_deep_lem : r ≡ 0 → step c l (deeper r ∷ K) t ≡ stop 7
  unfolding step
  too_deep_lem z = rw z

-- an item of a list, and what follows a field's `:`, are values with one level less
pub list_item : (c : Bool) (l r s : ℕ) (t : Token) (K : List Sym) → (t.kind ≡ 14 → ⊥) → (t.kind ≡ 0 → ⊥)
    → step c l (items (Prim.Native.Nat.suc r) s ∷ K) t ≡ step c l (value r ∷ items (Prim.Native.Nat.suc r) s ∷ K) t
unfolding step at_items
list_item c l r s t K b e = rw (ne_eqb t.kind 14 b, ne_eqb t.kind 0 e)

pub one_deeper : (c : Bool) (l r : ℕ) (t : Token) (K : List Sym) → step c l (deeper (Prim.Native.Nat.suc r) ∷ K) t ≡ step c l (value r ∷ K) t
unfolding step
one_deeper c l r t K = refl

-- a variable, where one may stand; and in a constant
pub at_variable : (l r : ℕ) (t : Token) (K : List Sym) → t.kind ≡ 5
    → step false l (value r ∷ K) t ≡ go (opens 11 t.start ∷ token_event t ∷ []) (name ∷ close 11 t.start ∷ K)
unfolding step at_value is_enum
at_variable l r t K e = rw e

pub in_constant : (l r : ℕ) (t : Token) (K : List Sym) → t.kind ≡ 5 → step true l (value r ∷ K) t ≡ stop 8
unfolding step at_value is_enum
in_constant l r t K e = rw e
