-- The code's machine of quoted strings and document 01's say the same: related states make related moves, so what the code finds of a string
-- is what is defined of it. Assumes nothing.
use mathlib.Core.Path.{◌≡◌, refl, sym, ap, ◌∙◌}
use mathlib.Core.Bool.{Bool, true, false, and-true, and-false}
use mathlib.Core.List.{List, [], ◌∷◌, ◌++◌, append-nil}
use Prim.Native.Nat.{ℕ, zero, suc, ◌+◌, ◌≤◌, ◌<◌, min}
use native.Mathlib.Numerals.{one-add}
use native.Mathlib.Omega.{arith}
use lib.Dec.{leb, eqb}
use lib.ListN.{length}
use borrow.Author.Tests.{leb-true, leb-false, ne_eqb, lt-ltb}
use Rattle.base.specs.Text.{pick, from}
use Rattle.base.specs.Item.{Lexeme}
use Rattle.base.proofs.Tests.{by, from_above}
use Rattle.utf8.specs.Encode.{scalar}
use Rattle.rules.specs.Classes.{line_end, escaped_character, hex_digit, with_digit, lead_surrogate, trail_surrogate}
use Rattle.rules.specs.Faults as faults
use Rattle.rules.specs.Faults.{Scan, State, opened, text, escape, unicode, digits, brace, braced, lead, lead_escape, trail, Move, to, shut, whole, whole_trail, whole_braced, after, moved, scan}
use Rattle.rules.specs.StringAt.{last}
use Rattle.rules.proofs.Capped.{cap, cap_digit, cap_scalar}
use Rattle.std.specs.Prelude.{Option, None, Some}
use Rattle.codes.specs.Errors as errors
use Rattle.codes.specs.ItemCodes as codes
use Rattle.codes.specs.declared.fault.Fault.{Fault}
use Rattle.codes.specs.declared.fault.Fault.TheVariants as fault
use Rattle.codes.specs.FaultNumbers.{number_of}
use Rattle.codes.proofs.FaultLaws.{fault_some}
use Rattle.strings.specs.declared.StringState.{StringState}
use Rattle.strings.specs.declared.StringState.TheVariants.{StringLiteral, StringLiteralBackslash, StringLiteralEscapedUnicode, StringLiteralEscapedUnicodeVariable, StringLiteralLeadSurrogate, StringLiteralLeadSurrogateBackslash}
use Rattle.strings.specs.declared.StringStep.{StringStep}
use Rattle.strings.specs.declared.StringStep.TheVariants.{Go, Close}
use Rattle.strings.specs.String.{end_of, capped, in_text, start_step, backslash_step, no_digit, whole_unicode, unicode_step, variable_step, lead_step, lead_backslash_step, string_step, later_of, done_code, begun, quoted_by, quoted_from}

-- a number that is capped lies in the same ranges below the cap
cap_from : (low high v : ℕ) → high < 0x110000 → from low high (cap v) ≡ from low high v
cap_from low high v h = by (leb v 0x10FFFF) below above
  where
    below : leb v 0x10FFFF ≡ true → from low high (cap v) ≡ from low high v
    below p = let l = leb-true v 0x10FFFF p in let e : min v 0x110000 ≡ v = omega arith in rw e

    above : leb v 0x10FFFF ≡ false → from low high (cap v) ≡ from low high v
    above p = let l = leb-false v 0x10FFFF p in from_above low high (cap v) (omega arith) ∙ sym (from_above low high v (omega arith))

-- so it is a lead surrogate exactly if the number is
cap_lead : (v : ℕ) → lead_surrogate (cap v) ≡ lead_surrogate v
unfolding lead_surrogate
cap_lead v = cap_from 0xD800 0xDBFF v (omega arith)

-- and a trail surrogate
cap_trail : (v : ℕ) → trail_surrogate (cap v) ≡ trail_surrogate v
unfolding trail_surrogate
cap_trail v = cap_from 0xDC00 0xDFFF v (omega arith)

-- one digit more of a capped number
cap_more : (w v b : ℕ) → w ≡ cap v → capped w b ≡ cap (with_digit v b)
unfolding capped
cap_more w v b e = rw e (cap_digit v b)

-- a state of the code past the opening quote, and the definition's that says the same
data Same : StringState → State → Type 0 where
  at_text : Same StringLiteral text
  at_escape : Same StringLiteralBackslash escape
  at_unicode : Same (StringLiteralEscapedUnicode 4 0 false) unicode
  -- the code counts the next digit too, and caps the number
  at_digits : {r w k v : ℕ} → r ≡ suc k → k ≤ 2 → w ≡ cap v → Same (StringLiteralEscapedUnicode r w false) (digits k v)
  at_brace : Same (StringLiteralEscapedUnicodeVariable None) brace
  at_braced : {w v : ℕ} → w ≡ cap v → Same (StringLiteralEscapedUnicodeVariable (Some w)) (braced v)
  at_lead : Same StringLiteralLeadSurrogate lead
  at_lead_escape : Same StringLiteralLeadSurrogateBackslash lead_escape
  at_trail : {r w k v : ℕ} → r ≡ suc k → w ≡ cap v → Same (StringLiteralEscapedUnicode r w true) (trail k v)

-- a fault of the code, and the definition's
data SameFault : Option Fault → List ℕ → Type 0 where
  none : SameFault None []
  one : {f : Fault} → SameFault (Some f) (number_of f ∷ [])

-- a step of the code, and the definition's move that says the same
data SameMove : StringStep → Move → Type 0 where
  goes : {f : Option Fault} {fs : List ℕ} {s : StringState} {s' : State} → SameFault f fs → Same s s' → SameMove (Go s f) (to fs s')
  closes : {f : Option Fault} {fs : List ℕ} → SameFault f fs → SameMove (Close f) (shut fs)

-- two picks by the same test
either : (q : Bool) {x y : StringStep} {m n : Move} → SameMove x m → SameMove y n → SameMove (pick q x y) (pick q m n)
either true h k = h
either false h k = k

-- where a character, an escape or the closing quote may stand
text_move : (b : ℕ) → SameMove (in_text b) (faults.in_text b)
unfolding in_text faults.in_text
text_move b = either (eqb b 34) (closes none) (either (eqb b 92) (goes none at_escape) (either (line_end b) (goes one at_text) (goes none at_text)))

-- straight after the opening quote
start_move : (b : ℕ) → SameMove (start_step b) (after opened b)
unfolding start_step after
start_move b = either (line_end b) (goes none at_text) (text_move b)

-- a hex digit is due and another character stands there
no_digit_move : (b : ℕ) → SameMove (no_digit b) (faults.no_digit b)
unfolding no_digit faults.no_digit
no_digit_move b = either (eqb b 34) (closes one) (goes one at_text)

-- a four-digit escape is whole
whole_move : (w v : ℕ) → w ≡ cap v → SameMove (whole_unicode w false) (whole v)
unfolding whole_unicode whole
whole_move w v e =
    rw (e, cap_lead, cap_trail)
    (either (lead_surrogate v) (goes none at_lead) (either (trail_surrogate v) (goes one at_text) (goes none at_text)))

-- a four-digit escape after a lead surrogate is whole
whole_trail_move : (w v : ℕ) → w ≡ cap v → SameMove (whole_unicode w true) (whole_trail v)
unfolding whole_unicode whole_trail
whole_trail_move w v e = rw (e, cap_trail) (either (trail_surrogate v) (goes none at_text) (goes one at_text))

-- a braced escape is whole
whole_braced_move : (w v : ℕ) → w ≡ cap v → SameMove (pick (scalar w) (Go StringLiteral None) (Go StringLiteral (Some fault.BadBracedEscape))) (whole_braced v)
unfolding whole_braced
whole_braced_move w v e = rw (e, cap_scalar) (either (scalar v) (goes none at_text) (goes one at_text))

-- in a four-digit escape past its first digit
digits_move : (r w k v b : ℕ) → r ≡ suc k → k ≤ 2 → w ≡ cap v → SameMove (unicode_step r w false b) (after (digits k v) b)
unfolding unicode_step after
digits_move r w zero v b p h e =
    rw (p, and-false) (either (hex_digit b) (whole_move (capped w b) (with_digit v b) (cap_more w v b e)) (no_digit_move b))
digits_move r w (suc k) v b p h e =
    rw (lt-ltb 1 r (omega arith), ne_eqb r 4 (λ z. omega arith), and-false)
    (either (hex_digit b) (goes none (at_digits (omega arith) (omega arith) (cap_more w v b e))) (no_digit_move b))

-- in a four-digit escape after a lead surrogate
trail_move : (r w k v b : ℕ) → r ≡ suc k → w ≡ cap v → SameMove (unicode_step r w true b) (after (trail k v) b)
unfolding unicode_step after
trail_move r w zero v b p e =
    rw (p, and-false (eqb b 123)) (either (hex_digit b) (whole_trail_move (capped w b) (with_digit v b) (cap_more w v b e)) (no_digit_move b))
trail_move r w (suc k) v b p e =
    rw (lt-ltb 1 r (omega arith), and-false (eqb r 4), and-false (eqb b 123))
    (either (hex_digit b) (goes none (at_trail (omega arith) (cap_more w v b e))) (no_digit_move b))

-- related states make related moves
moves : {s : StringState} {s' : State} → Same s s' → (b : ℕ) → SameMove (string_step s b) (after s' b)
unfolding string_step backslash_step unicode_step variable_step lead_step lead_backslash_step after
moves at_text b = text_move b
moves at_escape b = either (escaped_character b) (goes none at_text) (either (eqb b 117) (goes none at_unicode) (goes one at_text))
moves at_unicode b =
    rw (and-true (eqb b 123))
    (either (hex_digit b) (goes none (at_digits refl (omega arith) (cap_more 0 0 b refl))) (either (eqb b 123) (goes none at_brace) (no_digit_move b)))
moves (at_digits {r} {w} {k} {v} p h e) b = digits_move r w k v b p h e
moves at_brace b =
    either (hex_digit b) (goes none (at_braced (cap_more 0 0 b refl))) (either (eqb b 125) (goes one at_text) (no_digit_move b))
moves (at_braced {w} {v} e) b =
    either (hex_digit b) (goes none (at_braced (cap_more w v b e))) (either (eqb b 125) (whole_braced_move w v e) (no_digit_move b))
moves at_lead b = either (eqb b 92) (goes none at_lead_escape) (either (eqb b 34) (closes one) (goes one at_text))
moves at_lead_escape b = either (eqb b 117) (goes none (at_trail {k = 3} {v = 0} refl refl)) (goes one at_text)
moves (at_trail {r} {w} {k} {v} p e) b = trail_move r w k v b p e

-- a string that ends in such a state is no lone quote
not_lone : {s : StringState} {s' : State} → Same s s' → end_of s ≡ 76
not_lone at_text = refl
not_lone _ = refl

-- the register of the code, as a number: 0 is no fault
unfoldable pub register : Option Fault → ℕ
register None = errors.none
register (Some f) = number_of f

-- and the code of a string that closes, by that number
unfoldable pub code_by : ℕ → ℕ
code_by n = pick (eqb n errors.none) codes.string (codes.error n)

done_by : (err : Option Fault) → done_code err ≡ code_by (register err)
unfolding done_code code_by register
done_by None = refl
done_by (Some f) = rw (fault_some f)

-- the register of the code and the list of the definition
same_fault : {f : Option Fault} {fs : List ℕ} → SameFault f fs → (err : Option Fault) (gs : List ℕ) → last (register (later_of err f)) gs ≡ last (register err) (fs ++ gs)
unfolding later_of register
same_fault none err gs = refl
same_fault one err gs = refl

-- what the code finds is what is defined, and the text's end leaves the code `end`
pub record Agrees (err : Option Fault) (end : ℕ) (x : Lexeme) (g : Scan) : Type 0 where
  pub covers : x.size ≡ g.size
  pub coded : x.code ≡ pick g.closed (code_by (last (register err) g.faults)) end

-- after related moves, if what follows agrees
moved_agrees : (t : List ℕ) (err : Option Fault) {x : StringStep} {m : Move} → SameMove x m
    → ((err : Option Fault) (s : StringState) (s' : State) → Same s s' → Agrees err 76 (quoted_from s err t) (scan s' t))
    → Agrees err 76 (quoted_by x err (λ s err. quoted_from s err t)) (moved m (λ s. scan s t))
moved_agrees t err (goes {f} {fs} {s} {s'} e h) ih =
    let a = ih (later_of err f) s s' h in
    record {
      covers = rw one-add (ap suc a.covers);
      coded = a.coded ∙ ap (λ n. pick (scan s' t).closed (code_by n) 76) (same_fault e err (scan s' t).faults);
    }
moved_agrees t err (closes {f} e) ih = record { covers = refl; coded = done_by (later_of err f) ∙ ap code_by (rw append-nil at (same_fault e err [])) }

-- from related states
quoted_agrees : (t : List ℕ) (err : Option Fault) (s : StringState) (s' : State) → Same s s' → Agrees err 76 (quoted_from s err t) (scan s' t)
unfolding quoted_from scan
quoted_agrees [] err s s' h = record { covers = refl; coded = not_lone h }
quoted_agrees (b ∷ t) err s s' h = moved_agrees t err (moves h b) (quoted_agrees t)

-- from the opening quote, which may be the last byte
pub opened_agrees : (t : List ℕ) (err : Option Fault) → Agrees err (pick (eqb (1 + length t) 1) 75 76) (quoted_from begun err t) (scan opened t)
unfolding quoted_from scan string_step
opened_agrees [] err = record { covers = refl; coded = refl }
opened_agrees (b ∷ t) err = rw (ne_eqb (1 + suc (length t)) 1 (λ z. omega arith)) (moved_agrees t err (start_move b) (quoted_agrees t))
