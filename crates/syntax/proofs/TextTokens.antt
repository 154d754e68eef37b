-- The tokens of a text: Eof is the last of them, stands at the text's end, and no other is Eof. Assumes nothing.
use Prim.Native.Nat.{ℕ, zero, suc, pred, ◌+◌, ◌≤◌}
use native.Mathlib.Omega.{arith}
use mathlib.Core.Path.{◌≡◌, refl, ap}
use mathlib.Core.Bool.{Bool, true, false}
use mathlib.Core.List.{List, [], ◌∷◌, ◌++◌}
use lib.Dec.{eqb}
use lib.ListN.{length, take, drop}
use borrow.Author.Tests.{ne_eqb}
use Rattle.base.specs.Text.{pick}
use Rattle.base.specs.Item.{Item}
use Rattle.tiles.specs.Tiles.{tiles, eof as eof_item}
use Rattle.tiles.proofs.Every.{Every}
use Rattle.rules.specs.Items.{item_at}
use Rattle.rules.proofs.Codes.{code_at}
use Rattle.syntax.specs.Token.{eof, plain, word_true, word_false, word_null, word_on, Token, token}
use Rattle.syntax.specs.Words.{same, word_of, token_of, ignored, significant, tokens}
use Rattle.syntax.proofs.Sound.{NoEof}
use Rattle.syntax.proofs.Refusals.{EndsEof}

-- no item before Eof has Eof's code
codes : (skip at : ℕ) (t : List ℕ) → Every (λ x. 1 ≤ x.code) (tiles item_at skip at t)
unfolding tiles
codes skip at [] = tt
codes zero at (b ∷ bs) = ((code_at (b ∷ bs) (omega arith)).0, codes (pred (item_at (b ∷ bs)).size) (suc at) bs)
codes (suc k) at (b ∷ bs) = codes k (suc at) bs

-- a word's kind is not Eof's
word_kind : (w : List ℕ) → 1 ≤ word_of w
unfolding word_of
word_kind w =
    by_words (same w (116 ∷ 114 ∷ 117 ∷ 101 ∷ [])) (same w (102 ∷ 97 ∷ 108 ∷ 115 ∷ 101 ∷ [])) (same w (110 ∷ 117 ∷ 108 ∷ 108 ∷ [])) (same w (111 ∷ 110 ∷ []))
  where
    by_words : (a b c d : Bool) → 1 ≤ pick a word_true (pick b word_false (pick c word_null (pick d word_on plain)))
    by_words true b c d = omega arith
    by_words false true c d = omega arith
    by_words false false true d = omega arith
    by_words false false false true = omega arith
    by_words false false false false = omega arith

token_kind : (t : List ℕ) (x : Item) → 1 ≤ x.code → 1 ≤ (token_of t x).kind
unfolding token_of
token_kind t x h = by_plain (eqb x.code plain)
  where
    by_plain : (b : Bool) → 1 ≤ pick b (word_of (take x.size (drop x.start t))) x.code
    by_plain true = word_kind (take x.size (drop x.start t))
    by_plain false = h

no_eof : (t : List ℕ) (xs : List Item) → Every (λ x. 1 ≤ x.code) xs → NoEof (significant t xs)
unfolding significant
no_eof t [] h = tt
no_eof t (x ∷ xs) h = by_ignored (ignored x.code) (no_eof t xs h.1)
  where
    by_ignored : (b : Bool) → NoEof (significant t xs) → NoEof (pick b (significant t xs) (token_of t x ∷ significant t xs))
    by_ignored true n = n
    by_ignored false n = let k = token_kind t x h.0 in (ne_eqb (token_of t x).kind eof (λ e. omega arith), n)

pub significant_append : (t : List ℕ) (xs ys : List Item) → significant t (xs ++ ys) ≡ significant t xs ++ significant t ys
unfolding significant
significant_append t [] ys = refl
significant_append t (x ∷ xs) ys = by_ignored (ignored x.code) (significant_append t xs ys)
  where
    by_ignored : (b : Bool) → significant t (xs ++ ys) ≡ significant t xs ++ significant t ys
        → pick b (significant t (xs ++ ys)) (token_of t x ∷ significant t (xs ++ ys)) ≡ pick b (significant t xs) (token_of t x ∷ significant t xs) ++ significant t ys
    by_ignored true e = e
    by_ignored false e = ap (λ (ts : List Token). token_of t x ∷ ts) e

ends_eof : (us : List Token) (e : Token) → e.kind ≡ eof → EndsEof (us ++ (e ∷ []))
ends_eof [] e h = h
ends_eof (u ∷ []) e h = h
ends_eof (u ∷ v ∷ us) e h = ends_eof (v ∷ us) e h

-- the tokens of a text: some that are not Eof, and Eof at its end
pub record TextTokens (t : List ℕ) : Type 0 where
  pub others : List Token
  pub end : Token
  pub split : tokens t ≡ others ++ (end ∷ [])
  pub no : NoEof others
  pub ended : end.kind ≡ eof
  pub place : end.start ≡ length t
  pub is : end ≡ token eof (length t) 0

pub text_tokens : (t : List ℕ) → TextTokens t
unfolding significant token_of ignored
text_tokens t =
    record {
      others = significant t (tiles item_at 0 0 t);
      end = token_of t (eof_item (0 + length t));
      split = significant_append t (tiles item_at 0 0 t) (eof_item (0 + length t) ∷ []);
      no = no_eof t (tiles item_at 0 0 t) (codes 0 0 t);
      ended = refl;
      place = omega arith;
      is = ap (λ (n : ℕ). token eof n 0) (omega arith);
    }

-- the last token of a text is Eof
pub text_ends : (t : List ℕ) → EndsEof (tokens t)
text_ends t = let x = text_tokens t in rw x.split (ends_eof x.others x.end x.ended)
