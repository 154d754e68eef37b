-- A text written from spelt tokens, with a space between. Assumes nothing: these are definitions.
use Rattle.std.specs.Prelude.{ℕ, ◌+◌, ◌≤◌, ◌≡◌, List, [], ◌∷◌, ◌++◌, map, length}
use Rattle.base.specs.Item.{Item}
use Rattle.utf8.specs.Utf8.{Utf8}
use Rattle.syntax.specs.Token.{eof, word_on, Token, token}
use Rattle.syntax.specs.Words.{tokens}

-- the kind of a token, and the bytes that spell it
pub record Spelling : Type 0 where
  pub kind : ℕ
  pub bytes : List ℕ

abbrev pub spelling : ℕ → List ℕ → Spelling
spelling k b = record { kind = k; bytes = b }

-- read alone, the bytes are this one token and Eof, and no error: an error's kind is 65 or more
abbrev pub Spells : Spelling → Type 0
Spells w = (tokens w.bytes ≡ token w.kind 0 (length w.bytes) ∷ token eof (length w.bytes) 0 ∷ []) × (w.kind ≤ word_on)

-- each does
abbrev pub AllSpell : List Spelling → Type 0
AllSpell [] = Unit {0}
AllSpell (w ∷ ws) = Spells w × AllSpell ws

-- the bytes of each are UTF-8
abbrev pub AllUtf8 : List Spelling → Type 0
AllUtf8 [] = Unit {0}
AllUtf8 (w ∷ ws) = Utf8 w.bytes × AllUtf8 ws

-- the text: the bytes of each, with one space between
abbrev pub written : List Spelling → List ℕ
written [] = []
written (w ∷ []) = w.bytes
written (w ∷ v ∷ ws) = w.bytes ++ (32 ∷ written (v ∷ ws))

-- the tokens where they then stand, the first at byte number `at`: each next one after the one before and the space
abbrev pub standing : (at : ℕ) → List Spelling → List Token
standing at [] = []
standing at (w ∷ ws) = token w.kind at (length w.bytes) ∷ standing (at + length w.bytes + 1) ws

-- the tokens ts, spelt one by one, wherever they stand
abbrev pub SpellEach : List Spelling → List Token → Type 0
SpellEach [] [] = Unit {0}
SpellEach [] (t ∷ ts) = ⊥
SpellEach (w ∷ ws) [] = ⊥
SpellEach (w ∷ ws) (t ∷ ts) = Spells w × (w.kind ≡ t.kind) × SpellEach ws ts

-- events without their places
abbrev pub codes : List Item → List ℕ
codes es = map (λ (x : Item). x.code) es
