-- The significant tokens of a text. Assumes nothing: these are definitions.
use Rattle.std.specs.Prelude.{ℕ, List, [], ◌∷◌, Bool, true, false, ◌&&◌, eqb, take, drop}
use Rattle.base.specs.Text.{pick, from}
use Rattle.base.specs.Item.{Item}
use Rattle.codes.specs.ItemCodes as codes
use Rattle.rules.specs.Items.{items}
use Rattle.syntax.specs.Token.{plain, word_true, word_false, word_null, word_on, Token, token}

-- the same bytes
unfoldable pub same : List ℕ → List ℕ → Bool
same [] [] = true
same [] (y ∷ ys) = false
same (x ∷ xs) [] = false
same (x ∷ xs) (y ∷ ys) = eqb x y && same xs ys

-- the kind of a Name, by its bytes: `true`, `false`, `null`, `on` or any other
unfoldable pub word_of : List ℕ → ℕ
word_of w =
    pick (same w (116 ∷ 114 ∷ 117 ∷ 101 ∷ [])) word_true
    (pick (same w (102 ∷ 97 ∷ 108 ∷ 115 ∷ 101 ∷ [])) word_false
    (pick (same w (110 ∷ 117 ∷ 108 ∷ 108 ∷ [])) word_null
    (pick (same w (111 ∷ 110 ∷ [])) word_on plain)))

-- the token that an item of the text t is
unfoldable pub token_of : List ℕ → Item → Token
token_of t x = token (pick (eqb x.code plain) (word_of (take x.size (drop x.start t))) x.code) x.start x.size

-- "Ignored items (codes 1 to 3)"
unfoldable pub ignored : ℕ → Bool
ignored k = from codes.whitespace codes.comma k

-- the tokens of a list of items of t that are not ignored
unfoldable pub significant : List ℕ → List Item → List Token
significant t [] = []
significant t (x ∷ xs) = pick (ignored x.code) (significant t xs) (token_of t x ∷ significant t xs)

-- the tokens of a text, Eof last
abbrev pub tokens : List ℕ → List Token
tokens t = significant t (items t)
