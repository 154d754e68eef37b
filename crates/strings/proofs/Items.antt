-- A string as the code finds it is the item at its quote. Assumes nothing.
use Prim.Native.Nat.{ℕ, suc, ◌+◌, ◌<◌}
use mathlib.Core.Path.{◌≡◌, refl, sym, ◌∙◌}
use mathlib.Core.Bool.{Bool, true, false}
use mathlib.Core.List.{List, [], ◌∷◌}
use native.Mathlib.Nat.{not-suc-le-zero}
use native.Mathlib.Numerals.{one-add}
use native.Mathlib.Omega.{arith}
use borrow.Author.Tests.{ne_eqb}
use lib.Dec.{eqb}
use lib.ListN.{length, get_or, drop}
use Rattle.base.specs.Text.{pick}
use Rattle.base.proofs.Tests.{by}
use Rattle.std.specs.Prelude.{None}
use Rattle.rules.specs.Classes.{digit}
use Rattle.rules.specs.Faults.{opened, scan, quotes, block, quoted_scan, string_scan}
use Rattle.rules.specs.StringAt.{last, code_of, string_at}
use Rattle.rules.specs.Tokens.{string_token}
use Rattle.rules.specs.Items.{error_at, item_at}
use Rattle.rules.proofs.Tokens.{quote_first}
use Rattle.rules.proofs.BlockExact.{block_faults}
use Rattle.rules.proofs.StringSizes.{scan_fits, string_fits}
use Rattle.rules.proofs.Register.{register_code}
use Rattle.strings.specs.String.{further, begun, quoted_from, block_of}
use Rattle.strings.proofs.Simulation.{code_by, register, opened_agrees}

-- a text that begins with a quote is read as a string
quote_item : (s : List ℕ) → item_at (34 ∷ s) ≡ string_at (34 ∷ s)
unfolding item_at string_token error_at digit
quote_item s = by (eqb (string_at (34 ∷ s)).code 19) (λ e. rw (quote_first s, e)) (λ e. rw (quote_first s, e))

-- the code of a string by its last fault alone
string_code : (s : List ℕ)
    → code_of (string_scan (34 ∷ s)) ≡ pick (string_scan (34 ∷ s)).closed (code_by (last 0 (string_scan (34 ∷ s)).faults)) (pick (eqb (string_scan (34 ∷ s)).size 1) 75 76)
unfolding code_of code_by
string_code s = rw (register_code (string_scan (34 ∷ s)).faults (string_fits 34 s).known)

-- a quoted string
module _ (s : List ℕ) (e : quotes (34 ∷ s) ≡ false) where
  scanned : string_scan (34 ∷ s) ≡ quoted_scan (34 ∷ s)
  unfolding string_scan
  scanned = rw e

  -- one that is cut off has all that is left of the text
  cut_off : (c : Bool) (d m : ℕ) → (c ≡ false → m ≡ length s) → pick c d (pick (eqb (1 + length s) 1) 75 76) ≡ pick c d (pick (eqb (suc m) 1) 75 76)
  cut_off true d m h = refl
  cut_off false d m h = rw (h refl, one-add)

  quoted_item : further 1 (quoted_from begun None s) ≡ item_at (34 ∷ s)
  unfolding string_at register
  quoted_item =
      let a = opened_agrees s None in
      let code : (quoted_from begun None s).code ≡ code_of (quoted_scan (34 ∷ s)) =
      a.coded ∙ cut_off (scan opened s).closed _ (scan opened s).size (scan_fits s opened).to_the_end ∙ sym (rw scanned at (string_code s)) in
      rw (quote_item s, scanned, code, a.covers, one-add)

-- a block string
block_item : (s : List ℕ) → quotes (34 ∷ s) ≡ true → block_of (34 ∷ s) ≡ item_at (34 ∷ s)
unfolding string_scan string_at code_of block_of
block_item s e =
    rw (quote_item s, e, block_faults (drop 3 (34 ∷ s)) 0, ne_eqb (suc (suc (suc (block 0 (drop 3 (34 ∷ s))).size))) 1 (λ y. omega arith))

-- the same of any text whose first byte is a quote
pub quoted_at : (t : List ℕ) → 0 < length t → get_or t 0 0 ≡ 34 → quotes t ≡ false → further 1 (quoted_from begun None (drop 1 t)) ≡ item_at t
quoted_at [] p q e = absurd (not-suc-le-zero p)
quoted_at (b ∷ s) p q e = rw q (quoted_item s (rw q at e))

pub block_at : (t : List ℕ) → 0 < length t → get_or t 0 0 ≡ 34 → quotes t ≡ true → block_of t ≡ item_at t
block_at [] p q e = absurd (not-suc-le-zero p)
block_at (b ∷ s) p q e = rw q (block_item s (rw q at e))
