-- Items by their numbers: each lies in the text, only the last is Eof, and the first token from an item on. Assumes nothing.
use Prim.Native.Nat.{ℕ, zero, suc, ◌+◌, ◌≤◌, ◌<◌}
use mathlib.Core.Path.{◌≡◌, refl, sym, ap, ◌∙◌}
use mathlib.Core.Bool.{true, false}
use mathlib.Core.List.{List, [], ◌∷◌}
use native.Mathlib.Nat.{not-suc-le-zero, le_of_suc-le-suc}
use native.Mathlib.Numerals.{add-one}
use native.Mathlib.Omega.{arith}
use lib.ListN.{length, get_or, get_or-append}
use lib.Seq.{drop-cons, get_or_at}
use Rattle.base.specs.Text.{pick}
use Rattle.base.specs.Item.{Item}
use Rattle.base.proofs.Tests.{by, apart}
use Rattle.tape.specs.Entry.{entry_of}
use Rattle.tiles.specs.Tiles.{tiles, eof}
use Rattle.tiles.specs.Cover.{Covers}
use Rattle.rules.specs.Items.{item_at, items}
use Rattle.tiles.proofs.Every.{Every}
use Rattle.rules.proofs.Codes.{Code}
use Rattle.rules.proofs.Tiling.{tiling, all_codes, eof_last, eof_position}
use Rattle.syntax.specs.Words.{ignored, significant}
use Rattle.syntax.specs.Words as words
use Rattle.parser.specs.declared.token.Peeked.{Peeked}
use Rattle.parser.specs.Kinds.{number_of}
use Rattle.parser.specs.View.{Holds, rest, kind_of, IsCode, of_token, of_error, Front}

-- items that cover the bytes up to e end by e
covers_up : (a e : ℕ) (xs : List Item) → Covers a xs e → a ≤ e
covers_up a e [] h = omega arith
covers_up a e (x ∷ xs) h = let k = covers_up (a + x.size) e xs h.2 in omega arith

covers_in : (a e : ℕ) (xs : List Item) (d : Item) (i : ℕ) → Covers a xs e → i < length xs → (get_or xs i d).start + (get_or xs i d).size ≤ e
covers_in a e [] d i h l = absurd (not-suc-le-zero l)
covers_in a e (x ∷ xs) d zero h l = let k = covers_up (a + x.size) e xs h.2 in omega (arith, h.0)
covers_in a e (x ∷ xs) d (suc i) h l = covers_in (a + x.size) e xs d i h.2 (le_of_suc-le-suc l)

-- which item it is: one before Eof, or Eof
data Nth (t : List ℕ) (i : ℕ) : Item → Type 0 where
  before : i < length (tiles item_at 0 0 t) → Nth t i (get_or (tiles item_at 0 0 t) i (eof 0))
  last : i ≡ length (tiles item_at 0 0 t) → Nth t i (eof (length t))

nth : (t : List ℕ) (i : ℕ) → i < length (items t) → Nth t i (get_or (items t) i (eof 0))
nth t i h =
    let k = eof_position t in
    rw (eof_last t) (by (lib.Dec.ltb i (length (tiles item_at 0 0 t)))
    (λ e. let l = borrow.Author.Tests.ltb-true i _ e in rw (get_or-append (tiles item_at 0 0 t) (eof (length t) ∷ []) (eof 0) i l) (before l))
    (λ e.
    let l = borrow.Author.Tests.ltb-false i _ e in
    let z : length (tiles item_at 0 0 t) ≡ i = omega arith in
    rw (get_or_at (tiles item_at 0 0 t) (eof (length t)) [] (eof 0) i z) (last (sym z))))

-- each item lies in the text
pub item_inside : (t : List ℕ) (i : ℕ) → i < length (items t) → (get_or (items t) i (eof 0)).start + (get_or (items t) i (eof 0)).size ≤ length t
item_inside t i h = go (nth t i h)
  where
    go : {x : Item} → Nth t i x → x.start + x.size ≤ length t
    go (before l) = covers_in 0 (length t) (tiles item_at 0 0 t) (eof 0) i (tiling t) l
    go (last e) = omega arith

-- each item has a code of document 01
pub item_is_code : (t : List ℕ) (i : ℕ) → i < length (items t) → IsCode (get_or (items t) i (eof 0)).code
item_is_code t i h = go (nth t i h)
  where
    is : {k : ℕ} → Code k → IsCode k
    is (Code.token l u) = of_token (omega arith)
    is (Code.error l u) = of_error (omega arith) (omega arith)

    every : (xs : List Item) (i : ℕ) → Every (λ x. Code x.code) xs → i < length xs → IsCode (get_or xs i (eof 0)).code
    every [] i h l = absurd (not-suc-le-zero l)
    every (x ∷ xs) zero h l = is h.0
    every (x ∷ xs) (suc i) h l = every xs i h.1 (le_of_suc-le-suc l)

    go : {x : Item} → Nth t i x → IsCode x.code
    go (before l) = every _ i (all_codes t) l
    go (last e) = of_token (omega arith)

-- an item that is not Eof is not the last
pub not_last : (t : List ℕ) (i : ℕ) → i < length (items t) → ((get_or (items t) i (eof 0)).code ≡ 0 → ⊥) → i + 1 < length (items t)
not_last t i h n = go (nth t i h) n
  where
    go : {x : Item} → Nth t i x → (x.code ≡ 0 → ⊥) → i + 1 < length (items t)
    go (before l) n = let k = eof_position t in omega arith
    go (last e) n = absurd (n refl)

-- the tokens from item number i on: item number i is passed over, or is the first
rest_here : (t : List ℕ) (i : ℕ) → i < length (items t)
    → rest t i ≡ pick (ignored (get_or (items t) i (eof 0)).code) (rest t (i + 1)) (words.token_of t (get_or (items t) i (eof 0)) ∷ rest t (i + 1))
unfolding rest significant
rest_here t i h = rw (drop-cons (items t) i (eof 0) h, add-one)

module _ (t tape : List ℕ) (H : Holds t tape) (i : ℕ) (h : i < length (items t)) (e : Item) (f : e ≡ entry_of tape i) where
  is_item : e ≡ get_or (items t) i (eof 0)
  is_item = f ∙ H.entries i h

  pub entry_inside : e.start + e.size ≤ length t
  entry_inside = rw is_item (item_inside t i h)

  pub is_code : IsCode e.code
  is_code = rw is_item (item_is_code t i h)

  pub passed : ignored e.code ≡ true → (rest t i ≡ rest t (i + 1)) × (i + 1 < length (items t))
  unfolding ignored
  passed g =
      let g' : ignored (get_or (items t) i (eof 0)).code ≡ true = rw is_item at g in
      (rest_here t i h ∙ rw g', not_last t i h (λ z. apart (ignored 0) (rw z at g') refl))

  -- the token at i
  pub found : ignored e.code ≡ false → (at : ℕ) → at ≤ i → rest t at ≡ rest t i → (p : Peeked) → number_of p.kind ≡ kind_of t e.code e.start e.size → p.start ≡ e.start → p.size ≡ e.size → p.next ≡ i + 1 → Front t at p
  unfolding words.token_of
  found g at l s p k a b n =
      let g' : ignored (get_or (items t) i (eof 0)).code ≡ false = rw is_item at g in
      record {
        first = s ∙ rest_here t i h ∙ rw (g', ← is_item, k, a, b, n);
        ahead = omega arith;
        inside = λ m. rw n (not_last t i h (λ z.
            let c : e.code ≡ 0 = ap (λ (x : Item). x.code) is_item ∙ z in
            m (k ∙ rw c)));
        fits = rw (a, b) entry_inside;
      }
