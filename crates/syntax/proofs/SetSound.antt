-- What is read where a selection set is due is a selection set within the depth limit, with its events. Assumes nothing.
use Prim.Native.Nat.{ℕ, ◌≤◌}
use mathlib.Core.Path.{◌≡◌, refl, ap, ◌∙◌}
use mathlib.Core.Bool.{Bool, false}
use mathlib.Core.List.{List, [], ◌∷◌, ◌++◌, append-nil}
use Rattle.base.specs.Item.{Item}
use Rattle.syntax.specs.Token.{eof, brace_l, brace_r, Token}
use Rattle.syntax.specs.Grammar.{of, last_end}
use Rattle.syntax.specs.Selections as trees
use Rattle.syntax.specs.Selections.{SelectionSet, set_tokens, selections_tokens, set_events, set_depth}
use Rattle.syntax.specs.Machine.{Sym, selection_set, accepted, run, read_selection_set}
use Rattle.syntax.proofs.Steps.{end_after, Some, some_end}
use Rattle.syntax.proofs.Forms.{a_set, Forms, none, form, tokens_of, events_of}
use Rattle.syntax.proofs.Sound.{Reads, sound, eof_sound, NoEof, split_eof}

-- a selection set has some token
pub set_some : (s : SelectionSet) → Some (set_tokens s)
set_some (trees.selection_set a ss b) = (of brace_l a, selections_tokens ss ++ (of brace_r b ∷ []), refl)

-- ts begins with a selection set's tokens, and es with its events; then K reads the rest and gives the others
pub record ReadsSet (c : Bool) (r : ℕ) (K : List Sym) (ts : List Token) (es : List Item) : Type 0 where
  pub tree : SelectionSet
  pub deep : set_depth tree ≤ r
  pub rest : List Token
  pub others : List Item
  pub tokens : ts ≡ set_tokens tree ++ rest
  pub events : es ≡ set_events tree ++ others
  pub goes : run c K (last_end (set_tokens tree)) rest ≡ accepted others

-- what is accepted where a selection set is due begins with a selection set within the depth that is left
pub set_sound : (c : Bool) (r : ℕ) (K : List Sym) (l : ℕ) (ts : List Token) (es : List Item) → run c (selection_set r ∷ K) l ts ≡ accepted es → ReadsSet c r K ts es
set_sound c r K l ts es e = of s.forms s.tokens s.events s.goes
  where
    s : Reads c (selection_set r ∷ []) K l ts es
    s = sound c ts (selection_set r ∷ []) K l es e

    of : (F : Forms c (selection_set r ∷ [])) → ts ≡ tokens_of F ++ s.rest → es ≡ events_of l F ++ s.others → run c K (end_after l (tokens_of F)) s.rest ≡ accepted s.others → ReadsSet c r K ts es
    of (form (a_set x h) none) a b g =
        record {
          tree = x;
          deep = h;
          rest = s.rest;
          others = s.others;
          tokens = rw append-nil at a;
          events = rw append-nil at b;
          goes = rw (append-nil, some_end l (set_tokens x) (set_some x)) at g;
        }

-- a whole text: a selection set's tokens, then Eof, and the selection set's events
pub record WholeSet (d : ℕ) (ts : List Token) (es : List Item) : Type 0 where
  pub tree : SelectionSet
  pub deep : set_depth tree ≤ d
  pub end : Token
  pub rest : List Token
  pub ended : end.kind ≡ eof
  pub tokens : ts ≡ set_tokens tree ++ (end ∷ rest)
  pub events : es ≡ set_events tree

-- what is accepted as a selection set is a selection set
pub read_selection_set_sound : (d : ℕ) (ts : List Token) (es : List Item) → read_selection_set d ts ≡ accepted es → WholeSet d ts es
read_selection_set_sound d ts es a =
    let s = set_sound false d [] 0 ts es a in
    let e = eof_sound false (last_end (set_tokens s.tree)) s.rest s.others s.goes in
    record {
      tree = s.tree;
      deep = s.deep;
      end = e.0;
      rest = e.1;
      ended = e.3;
      tokens = s.tokens ∙ ap (λ (us : List Token). set_tokens s.tree ++ us) e.2;
      events = s.events ∙ ap (λ (fs : List Item). set_events s.tree ++ fs) e.4 ∙ append-nil (set_events s.tree);
    }

-- a text whose last token, and no other, is Eof: accepted as a selection set, its other tokens are just a selection set's
pub set_exact : (d : ℕ) (us : List Token) (e : Token) (es : List Item) → NoEof us → read_selection_set d (us ++ (e ∷ [])) ≡ accepted es
    → (s : SelectionSet) × (set_depth s ≤ d) × (us ≡ set_tokens s) × (es ≡ set_events s)
set_exact d us e es n a =
    let w = read_selection_set_sound d (us ++ (e ∷ [])) es a in
    (w.tree, w.deep, split_eof us (set_tokens w.tree) w.rest e w.end n w.ended w.tokens, w.events)
