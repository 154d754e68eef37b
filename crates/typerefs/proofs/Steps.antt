-- What the reader's definition does where a named type is due. Assumes nothing.
use Prim.Native.Nat.{ℕ}
use mathlib.Core.Path.{◌≡◌}
use mathlib.Core.Bool.{Bool, true, false}
use mathlib.Core.List.{List, [], ◌∷◌, ◌++◌}
use Rattle.syntax.specs.Token.{is_name, Token, end_of, opens, closes, name_events}
use Rattle.syntax.specs.Machine.{Sym, named_type, go, stop, step, at_named_type}

module _ (c : Bool) (l : ℕ) (t : Token) (K : List Sym) where
  pub at_named_type_lem : is_name t.kind ≡ true
      → step c l (named_type ∷ K) t ≡ go (opens 12 t.start ∷ (name_events t ++ (closes 12 t.start (end_of t) ∷ []))) K
  unfolding step at_named_type
  at_named_type_lem e = rw e

  pub no_named_type : is_name t.kind ≡ false → step c l (named_type ∷ K) t ≡ stop 9
  unfolding step at_named_type
  no_named_type e = rw e
