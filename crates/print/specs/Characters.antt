-- Characters as they are shown. Assumes nothing: these are definitions.
use Rattle.std.specs.Prelude.{ℕ, List, [], ◌∷◌, false, ◌||◌, leb, length, drop, get_or, Option, None, Some, Result, Ok, Err}
use Rattle.base.specs.Text.{pick, Class, from}
use Rattle.utf8.specs.Answers.{character_of}
use Rattle.codes.specs.declared.refusal.Refusal.{Refusal}
use Rattle.utf8.specs.declared.Scalar.{Scalar}
use Rattle.print.specs.declared.characters.Seen.{Seen}
use Rattle.print.specs.declared.characters.Seen.TheVariants as seen

-- a character; or the byte b, where none begins
abbrev pub seen_of : (b : ℕ) → Result Scalar Refusal → Seen
seen_of b (Ok c) = seen.Character c.value c.size
seen_of b (Err r) = seen.Byte b

-- what stands at index i; nothing past the end
unfoldable pub seen_at : List ℕ → ℕ → Option Seen
seen_at t i = pick (leb (length t) i) None (Some (seen_of (get_or t i 0) (character_of (drop i t))))

-- is the number in one of the ranges?
abbrev pub any_of : List (ℕ × ℕ) → Class
any_of [] v = false
any_of (r ∷ rs) v = from r.0 r.1 v || any_of rs v

-- control characters (C0, DEL and C1), the soft hyphen, the Arabic letter mark, spaces of no width and marks of direction, separators and embeddings,
-- invisible operators, the byte order mark, annotations, and tags
abbrev pub hidden : Class
hidden =
    any_of
    ((0x00, 0x1F)
    ∷ (0x7F, 0x9F)
    ∷ (0xAD, 0xAD)
    ∷ (0x61C, 0x61C)
    ∷ (0x200B, 0x200F)
    ∷ (0x2028, 0x202E)
    ∷ (0x2060, 0x206F)
    ∷ (0xFEFF, 0xFEFF)
    ∷ (0xFFF9, 0xFFFB)
    ∷ (0xE0000, 0xE0FFF)
    ∷ [])

-- characters that take two columns of a terminal: East Asian letters and signs, and pictures
abbrev pub broad : Class
broad =
    any_of
    ((0x1100, 0x115F)
    ∷ (0x2E80, 0xA4CF)
    ∷ (0xAC00, 0xD7A3)
    ∷ (0xF900, 0xFAFF)
    ∷ (0xFE30, 0xFE6F)
    ∷ (0xFF00, 0xFF60)
    ∷ (0x1F300, 0x1FAFF)
    ∷ (0x20000, 0x3FFFD)
    ∷ [])
