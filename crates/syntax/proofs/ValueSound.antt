-- What is read where a value is due is a value within the depth limit, with its events. Assumes nothing.
use Prim.Native.Nat.{ℕ, ◌≤◌}
use mathlib.Core.Path.{◌≡◌, ap, ◌∙◌}
use mathlib.Core.Bool.{Bool, true, false}
use mathlib.Core.List.{List, [], ◌∷◌, ◌++◌, append-nil}
use Rattle.base.specs.Item.{Item}
use Rattle.syntax.specs.Token.{eof, Token}
use Rattle.syntax.specs.Grammar.{last_end, Value, value_tokens, value_events, value_depth}
use Rattle.syntax.specs.Machine.{Sym, value, accepted, run, read_value, read_constant}
use Rattle.syntax.proofs.Steps.{end_after, some_end}
use Rattle.syntax.proofs.ValueComplete.{value_some}
use Rattle.syntax.proofs.Forms.{a_value, Forms, none, form, tokens_of, events_of}
use Rattle.syntax.proofs.Sound.{Reads, sound, eof_sound, NoEof, split_eof}

-- ts begins with a value's tokens, and es with its events; then K reads the rest and gives the others
pub record ReadsValue (c : Bool) (r : ℕ) (K : List Sym) (ts : List Token) (es : List Item) : Type 0 where
  pub tree : Value c
  pub deep : value_depth tree ≤ r
  pub rest : List Token
  pub others : List Item
  pub tokens : ts ≡ value_tokens tree ++ rest
  pub events : es ≡ value_events tree ++ others
  pub goes : run c K (last_end (value_tokens tree)) rest ≡ accepted others

-- what is accepted where a value is due begins with a value within the depth that is left
pub value_sound : (c : Bool) (r : ℕ) (K : List Sym) (l : ℕ) (ts : List Token) (es : List Item) → run c (value r ∷ K) l ts ≡ accepted es → ReadsValue c r K ts es
value_sound c r K l ts es e = of s.forms s.tokens s.events s.goes
  where
    s : Reads c (value r ∷ []) K l ts es
    s = sound c ts (value r ∷ []) K l es e

    of : (F : Forms c (value r ∷ [])) → ts ≡ tokens_of F ++ s.rest → es ≡ events_of l F ++ s.others → run c K (end_after l (tokens_of F)) s.rest ≡ accepted s.others → ReadsValue c r K ts es
    of (form (a_value v h) none) a b g =
        record {
          tree = v;
          deep = h;
          rest = s.rest;
          others = s.others;
          tokens = rw append-nil at a;
          events = rw append-nil at b;
          goes = rw (append-nil, some_end l (value_tokens v) (value_some v)) at g;
        }

-- a whole text: a value's tokens, then Eof, and the value's events
pub record WholeValue (c : Bool) (d : ℕ) (ts : List Token) (es : List Item) : Type 0 where
  pub tree : Value c
  pub deep : value_depth tree ≤ d
  pub end : Token
  pub rest : List Token
  pub ended : end.kind ≡ eof
  pub tokens : ts ≡ value_tokens tree ++ (end ∷ rest)
  pub events : es ≡ value_events tree

-- a value of either constness that fills the text
pub whole_value : (c : Bool) (d : ℕ) (ts : List Token) (es : List Item) → run c (value d ∷ []) 0 ts ≡ accepted es → WholeValue c d ts es
whole_value c d ts es a =
    let s = value_sound c d [] 0 ts es a in
    let e = eof_sound c (last_end (value_tokens s.tree)) s.rest s.others s.goes in
    record {
      tree = s.tree;
      deep = s.deep;
      end = e.0;
      rest = e.1;
      ended = e.3;
      tokens = s.tokens ∙ ap (λ (us : List Token). value_tokens s.tree ++ us) e.2;
      events = s.events ∙ ap (λ (fs : List Item). value_events s.tree ++ fs) e.4 ∙ append-nil (value_events s.tree);
    }

-- what is accepted as a value is a value
pub read_value_sound : (d : ℕ) (ts : List Token) (es : List Item) → read_value d ts ≡ accepted es → WholeValue false d ts es
read_value_sound d ts es a = whole_value false d ts es a

-- what is accepted as a constant is a constant
pub read_constant_sound : (d : ℕ) (ts : List Token) (es : List Item) → read_constant d ts ≡ accepted es → WholeValue true d ts es
read_constant_sound d ts es a = whole_value true d ts es a

-- a text whose last token, and no other, is Eof: accepted as a value, its other tokens are just a value's
pub value_exact : (c : Bool) (d : ℕ) (us : List Token) (e : Token) (es : List Item) → NoEof us → run c (value d ∷ []) 0 (us ++ (e ∷ [])) ≡ accepted es
    → (v : Value c) × (value_depth v ≤ d) × (us ≡ value_tokens v) × (es ≡ value_events v)
value_exact c d us e es n a =
    let w = whole_value c d (us ++ (e ∷ [])) es a in
    (w.tree, w.deep, split_eof us (value_tokens w.tree) w.rest e w.end n w.ended w.tokens, w.events)
