-- The premises of the laws of item reading can be met: for each a small text, computed, and what the law then says of it. Assumes nothing.
use Prim.Native.Nat.{ℕ}
use mathlib.Core.Path.{◌≡◌, refl}
use mathlib.Core.List.{List, [], ◌∷◌}
use native.Mathlib.Omega.{arith}
use lib.ListN.{length, replicate, length-replicate}
use Rattle.base.specs.Item.{item}
use Rattle.base.specs.Run.{run}
use Rattle.base.specs.Span.{span}
use Rattle.utf8.specs.Utf8.{none, one, two}
use Rattle.utf8.specs.Sequence.{three, four, sequence_by, sequence, well_formed, width, size}
use Rattle.utf8.specs.Answers.{ill_formed, checked_of}
use Rattle.tape.specs.Entry.{bytes8, entries, entry_of}
use Rattle.tiles.specs.Tiles.{tiles}
use Rattle.tiles.specs.Seam.{moved}
use Rattle.rules.specs.Classes.{digit, nonzero, letter, name_start, name_continue, line_end, exponent_mark, sign, after_number}
use Rattle.rules.specs.Rules as rules
use Rattle.rules.specs.Tokens.{blank_by, blank, whole_size, integer_size, fraction_size, exponent_size, number_by, number_token, punctuator_at, token_at}
use Rattle.rules.specs.Items.{fraction_fault, number_fault, error_at, item_at}
use Rattle.reader.specs.Answers.{answer, given_answer, given_tape, answer_of, tape_of}
use Rattle.reader.specs.Part.{part_of}
use Rattle.reader.proofs.Laws.{exactly_when, done_all, done_when, read_back, part_utf8, line_end_read}

-- `{a}`, with room for its four items and no more
abbrev braces : List ℕ
braces = 123 ∷ 97 ∷ 125 ∷ []

abbrev four_entries : List ℕ
four_entries = replicate 32 0

-- done, as computed
pub braces_done : (answer_of braces 4 four_entries).number ≡ 0
unfolding tiles item_at token_at punctuator_at run span digit letter name_start name_continue blank blank_by sequence_by sequence well_formed checked_of given_answer answer_of
braces_done = refl

-- done, by `done_when`
pub braces_done_when : (answer_of braces 4 four_entries).number ≡ 0
unfolding tiles item_at token_at punctuator_at run span digit letter name_start name_continue blank blank_by
braces_done_when = done_when braces 4 four_entries (one refl (one refl (one refl none))) (omega arith) (omega arith)

-- by `done_all`, its answer and its items
pub braces_all : ((answer_of braces 4 four_entries).place ≡ 3) × ((answer_of braces 4 four_entries).items ≡ 4)
unfolding tiles item_at token_at punctuator_at run span digit letter name_start name_continue blank blank_by
braces_all = let d = done_all braces 4 four_entries braces_done in (d.place, d.count)

-- by `read_back`, the second entry is the Name
pub braces_back : entry_of (tape_of braces 4 four_entries) 1 ≡ item 18 1 1
unfolding tiles item_at token_at punctuator_at run span digit letter name_start name_continue blank blank_by
braces_back = read_back braces 4 four_entries braces_done 1 (omega arith)

-- by `part_utf8`: `#` and a character of two bytes; the part that the Comment covers
pub comment_part : part_of (35 ∷ 195 ∷ 169 ∷ []) 0 3 ≡ 35 ∷ 195 ∷ 169 ∷ []
unfolding tiles item_at token_at run span digit letter name_start line_end blank blank_by
comment_part = (part_utf8 (35 ∷ 195 ∷ 169 ∷ []) (one refl (two refl refl none))).0.0

-- by `line_end_read`: `1.` LF, then `b`; the second entry is the Name, and so is the first of `b` read alone
pub line_done : (answer_of (49 ∷ 46 ∷ 10 ∷ 98 ∷ []) 3 (replicate 24 0)).number ≡ 0
unfolding tiles item_at token_at error_at number_by number_token number_fault fraction_fault run span blank blank_by whole_size integer_size fraction_size exponent_size
    size width digit nonzero letter name_start name_continue exponent_mark sign after_number sequence_by sequence well_formed checked_of given_answer answer_of
line_done = refl

pub line_alone : ((answer_of (98 ∷ []) 3 (replicate 24 0)).number ≡ 0)
    × (entry_of (tape_of (49 ∷ 46 ∷ 10 ∷ 98 ∷ []) 3 (replicate 24 0)) 1 ≡ moved 3 (entry_of (tape_of (98 ∷ []) 3 (replicate 24 0)) 0))
unfolding tiles item_at token_at error_at number_by number_token number_fault fraction_fault run span blank blank_by whole_size integer_size fraction_size exponent_size
    size width digit nonzero letter name_start name_continue line_end exponent_mark sign after_number
line_alone =
    let h = line_end_read (49 ∷ 46 ∷ []) 10 [] (98 ∷ []) (one refl (one refl none)) (refl, (refl, tt)) refl rules.Blanks.none refl 3 (replicate 24 0) line_done in
    (h.0, h.1 0 (omega arith))

-- each refusal's row is met. 2: a text of 16,777,217 bytes
long_text : (n : ℕ) → (t : List ℕ) × (length t ≡ n)
long_text n = (replicate n 0, length-replicate n 0)

pub refused_2 : (t : List ℕ) × ((limit : ℕ) (tape : List ℕ) → (answer_of t limit tape).number ≡ 2)
refused_2 =
    let l = long_text 16777217 in
    (l.0, λ limit tape. (exactly_when l.0 limit tape).n2.1 (rw l.1 (omega arith)))

-- 3: FF; its place
pub refused_3 : answer_of (0xFF ∷ []) 1 (replicate 8 0) ≡ answer 3 0 0 0
unfolding span three four sequence_by sequence well_formed ill_formed checked_of answer_of
refused_3 = refl

-- 4 and 5: `a`, with a limit and with room for one item; both at once is 4; a limit of 0, at the empty text too
pub refused_4_5 :
    (answer_of (97 ∷ []) 1 (replicate 16 0) ≡ answer 4 1 1 0)
    × (answer_of (97 ∷ []) 2 (replicate 15 0) ≡ answer 5 1 1 0)
    × (answer_of (97 ∷ []) 1 (replicate 8 0) ≡ answer 4 1 1 0)
    × (answer_of [] 0 (replicate 8 0) ≡ answer 4 0 0 0)
unfolding tiles item_at token_at run span digit letter name_start name_continue sequence_by sequence well_formed checked_of given_answer answer_of
refused_4_5 = (refl, refl, refl, refl)

-- at the limit one entry is written, `a`'s, and what stood past it stays
pub limit_tape : tape_of (97 ∷ []) 1 (replicate 16 0xA5)
    ≡ 0x12 ∷ 0 ∷ 0 ∷ 0 ∷ 0 ∷ 0 ∷ 0 ∷ 1 ∷ 0xA5 ∷ 0xA5 ∷ 0xA5 ∷ 0xA5 ∷ 0xA5 ∷ 0xA5 ∷ 0xA5 ∷ 0xA5 ∷ []
unfolding tiles item_at token_at run span digit letter name_start name_continue sequence_by sequence well_formed checked_of bytes8 entries given_tape tape_of
limit_tape = refl
