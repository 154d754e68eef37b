-- A text has at most one token for each byte, and Eof, so that the events of an accepted reading can be counted. Assumes nothing.
use Prim.Native.Nat.{ℕ, zero, suc, pred, ◌^◌, ◌≤◌, ◌<◌}
use mathlib.Core.Path.{◌≡◌}
use mathlib.Core.Bool.{Bool, true, false}
use mathlib.Core.List.{List, [], ◌∷◌, ◌++◌}
use native.Mathlib.Omega.{arith}
use lib.ListN.{length, length-append}
use Rattle.base.specs.Text.{pick}
use Rattle.base.specs.Item.{Item}
use Rattle.tiles.specs.Tiles.{tiles}
use Rattle.rules.specs.Items.{item_at, items}
use Rattle.rules.proofs.Tiling.{eof_position}
use Rattle.syntax.specs.Token.{Token}
use Rattle.syntax.specs.Words.{token_of, ignored, significant, tokens}
use Rattle.syntax.specs.Machine.{accepted}
use Rattle.syntax.specs.Grammar.{value_tokens, value_events}
use Rattle.syntax.specs.Types.{ty_tokens, ty_events}
use Rattle.syntax.specs.Selections.{set_tokens, set_events}
use Rattle.syntax.proofs.Counts.{Few, value_few, ty_few, set_few, few_fits}
use Rattle.syntax.proofs.ValueSound.{read_value_sound, read_constant_sound}
use Rattle.syntax.proofs.TypeSound.{read_type_sound}
use Rattle.syntax.proofs.SetSound.{read_selection_set_sound}
use Rattle.grammar.specs.declared.Entry.{Entry}
use Rattle.grammar.specs.declared.Entry.TheVariants.{Value, Constant, Ty, SelectionSet}
use Rattle.grammar.specs.Answers.{read_of}

-- at most one item for each byte
tiles_few : (skip at : ℕ) (t : List ℕ) → length (tiles item_at skip at t) ≤ length t
unfolding tiles
tiles_few skip at [] = omega arith
tiles_few zero at (b ∷ bs) = let h = tiles_few (pred (item_at (b ∷ bs)).size) (suc at) bs in omega arith
tiles_few (suc k) at (b ∷ bs) = let h = tiles_few k (suc at) bs in omega arith

-- and at most one token for each item
significant_few : (t : List ℕ) (xs : List Item) → length (significant t xs) ≤ length xs
unfolding significant
significant_few t [] = omega arith
significant_few t (x ∷ xs) = by_ignored (ignored x.code) (significant_few t xs)
  where
    by_ignored : (b : Bool) → length (significant t xs) ≤ length xs
        → length (pick b (significant t xs) (token_of t x ∷ significant t xs)) ≤ suc (length xs)
    by_ignored true h = omega arith
    by_ignored false h = omega arith

tokens_few : (t : List ℕ) → length (tokens t) ≤ suc (length t)
tokens_few t =
    let a = significant_few t (items t) in
    let b = eof_position t in
    let c = tiles_few 0 0 t in
    omega arith

-- at most five events for each of the tokens
few_more : (es : List Item) (ts us vs : List Token) → Few es ts → vs ≡ ts ++ us → Few es vs
few_more es ts us vs h e = rw e (omega (arith, h, length-append ts us))

read_few : (e : Entry) (d : ℕ) (ts : List Token) (es : List Item) → read_of e d ts ≡ accepted es → Few es ts
unfolding read_of
read_few Value d ts es r = let w = read_value_sound d ts es r in rw w.events (few_more (value_events w.tree) (value_tokens w.tree) (w.end ∷ w.rest) ts (value_few w.tree) w.tokens)
read_few Constant d ts es r = let w = read_constant_sound d ts es r in rw w.events (few_more (value_events w.tree) (value_tokens w.tree) (w.end ∷ w.rest) ts (value_few w.tree) w.tokens)
read_few Ty d ts es r = let w = read_type_sound d ts es r in rw w.events (few_more (ty_events w.tree) (ty_tokens w.tree) (w.end ∷ w.rest) ts (ty_few w.tree) w.tokens)
read_few SelectionSet d ts es r = let w = read_selection_set_sound d ts es r in rw w.events (few_more (set_events w.tree) (set_tokens w.tree) (w.end ∷ w.rest) ts (set_few w.tree) w.tokens)

-- the events of an accepted text number below 2 ^ 28
pub read_fits : (e : Entry) (d : ℕ) (t : List ℕ) (es : List Item) → length t ≤ 16777216 → read_of e d (tokens t) ≡ accepted es → length es < 2 ^ 28
read_fits e d t es h r = few_fits es (tokens t) (read_few e d (tokens t) es r) (let k = tokens_few t in omega arith)
