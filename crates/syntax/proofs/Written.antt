-- Spelt tokens, written with a space between, are read back as these tokens. Assumes nothing.
use Prim.Native.Nat.{ℕ, ◌+◌, ◌≤◌, ◌<◌}
use native.Mathlib.Omega.{arith}
use mathlib.Core.Path.{◌≡◌, refl, sym, ap, ap₂, ◌∙◌}
use mathlib.Core.Bool.{Bool, true, false}
use mathlib.Core.List.{List, [], ◌∷◌, ◌++◌, append-nil}
use lib.Dec.{eqb}
use lib.ListN.{length, take, drop, length-append}
use lib.Seq.{drop-append_seam, take-append_seam, take-length, drop-length, drop-drop}
use borrow.Author.Tests.{eqb-true, ne_eqb}
use Rattle.base.specs.Text.{pick}
use Rattle.base.specs.Item.{lexeme, Item, item, placed}
use Rattle.base.proofs.Tests.{by, apart}
use Rattle.utf8.specs.Utf8.{Utf8, one}
use Rattle.utf8.proofs.Split.{append_utf8}
use Rattle.tiles.specs.Tiles.{tiles, eof as eof_item}
use Rattle.tiles.specs.Cover.{Covers}
use Rattle.tiles.proofs.Tiles.{tiles_step}
use Rattle.tiles.proofs.Cover.{covers}
use Rattle.rules.specs.Classes.{digit, letter, name_start, name_continue, after_number}
use Rattle.rules.specs.Rules.{space, Rule, whitespace, comment, punctuator, spread, name, int, float, string}
use Rattle.rules.specs.Rules
use Rattle.rules.specs.Tokens.{blanks}
use Rattle.rules.specs.Items.{item_at, items}
use Rattle.rules.proofs.StringAlone.{value_same}
use Rattle.rules.proofs.Follow.{class_longest, blanks_add}
use Rattle.rules.proofs.Tokens.{blanks_token, only}
use Rattle.rules.proofs.Items.{item_sound, token_item}
use Rattle.rules.proofs.Codes.{rule_code, Code, item_code}
use Rattle.rules.proofs.Bounds.{item_pos, item_le}
use Rattle.rules.proofs.Tiling.{eof_last, token_exactly}
use Rattle.syntax.specs.Token.{eof, plain, word_true, word_false, word_null, word_on, Token, token}
use Rattle.syntax.specs.Words.{same, word_of, token_of, ignored, significant, tokens}
use Rattle.syntax.specs.Grammar.{start_of}
use Rattle.syntax.specs.Written.{Spelling, spelling, Spells, AllSpell, AllUtf8, written, standing}
use Rattle.syntax.proofs.OneReading.{NoError}
use Rattle.syntax.proofs.TextTokens.{significant_append}

-- ---- a token that fills the text is the same token before a space

no_rest : (a s : List ℕ) → length a ≡ length (a ++ s) → s ≡ []
no_rest a [] e = refl
no_rest a (b ∷ s) e = absurd (omega (arith, length-append a (b ∷ s)))

rule_before : {k n : ℕ} {t : List ℕ} (r : List ℕ) → Rule k t n → n ≡ length t → ignored k ≡ false → Rule k (t ++ (32 ∷ r)) n
unfolding ignored name_continue name_start letter digit after_number
rule_before r (whitespace a s p h) e i = apart true refl i
rule_before r (comment a s h g) e i = apart true refl i
rule_before r (punctuator h) e i = punctuator h
rule_before r spread e i = spread
rule_before r (name a s g h) e i =
    rw (no_rest a s (omega arith), append-nil a) (name a (32 ∷ r) g ((class_longest name_continue a (32 ∷ r)).1 (h.0, refl)))
rule_before r (int a s h g) e i = rw (no_rest a s e, append-nil a) (int a (32 ∷ r) h refl)
rule_before r (float a s h g) e i = rw (no_rest a s e, append-nil a) (float a (32 ∷ r) h refl)
rule_before r (string {t = t} v) e i =
    rw e (string (value_same t [] (32 ∷ r) (λ _ q. omega arith) (rw (append-nil t, ← e) v)))

-- ---- what a spelling is, by the rules

-- the first of the tokens
abbrev kind_of_first : List Token → ℕ
kind_of_first [] = 0
kind_of_first (t ∷ ts) = t.kind

abbrev size_of_first : List Token → ℕ
size_of_first [] = 0
size_of_first (t ∷ ts) = t.size

-- where every item starts after byte 0, no token stands at byte 0
late_one : (v : Bool) (t : List ℕ) (x : Item) (ts us : List Token) (k n : ℕ) → 0 < x.start → (ts ≡ token k 0 n ∷ us → ⊥)
    → pick v ts (token_of t x ∷ ts) ≡ token k 0 n ∷ us → ⊥
unfolding token_of
late_one true t x ts us k n p h e = h e
late_one false t x ts us k n p h e = let z : x.start ≡ 0 = ap start_of e in omega arith

late : (t : List ℕ) (a end k n : ℕ) (xs : List Item) (x : Item) (us : List Token) → 0 < a → Covers a xs end → 0 < x.start
    → significant t (xs ++ (x ∷ [])) ≡ token k 0 n ∷ us → ⊥
unfolding significant
late t a end k n [] x us p c q e = late_one (ignored x.code) t x [] us k n q (λ z. no_first z) e
  where
    no_first : [] ≡ token k 0 n ∷ us → ⊥
    no_first z = let y : ◌≡◌ {A = ℕ} 0 1 = cc in omega arith
late t a end k n (y ∷ xs) x us p c q e =
    late_one (ignored y.code) t y _ us k n (omega (arith, c.0)) (late t (a + y.size) end k n xs x us (omega arith) c.2 q) e

-- a text that is one token of kind k, and no error
pub record Filled (k : ℕ) (t : List ℕ) : Type 0 where
  pub some : 0 < length t
  pub code : ℕ
  pub rule : Rule code t (length t)
  pub seen : ignored code ≡ false
  pub word : pick (eqb code plain) (word_of t) code ≡ k

-- the code of an item is no error's if the token's kind is none
no_error : (c k w : ℕ) → Code c → pick (eqb c plain) w c ≡ k → k ≤ word_on → c < 64
no_error c k w (Code.token l h) e m = omega arith
no_error c k w (Code.error l h) e m = let z = rw (ne_eqb c plain (λ z. omega arith)) at e in omega arith

-- an empty text has one token only
not_empty : (t u : Token) → tokens [] ≡ t ∷ u ∷ [] → ⊥
unfolding significant tiles ignored
not_empty t u e = let z : ◌≡◌ {A = ℕ} 1 2 = ap length e in omega arith

-- what spells a token of kind k
pub filled : (k : ℕ) (t : List ℕ) → tokens t ≡ token k 0 (length t) ∷ token eof (length t) 0 ∷ [] → k ≤ word_on → Filled k t
unfolding significant token_of ignored
filled k [] e l = absurd (not_empty _ _ e)
filled k (b ∷ s) e l =
    let t = b ∷ s in
    let x = item_at t in
    let p : 0 < x.size = item_pos t (omega arith) in
    let xs = tiles item_at 0 (0 + x.size) (drop x.size t) in
    let ts = significant t (xs ++ (eof_item (0 + length t) ∷ [])) in
    let us = token k 0 (length t) ∷ token eof (length t) 0 ∷ [] in
    let f : pick (ignored x.code) ts (token_of t (placed 0 x) ∷ ts) ≡ us = rw (tiles_step item_at 0 t (omega arith) p) at e in
    by (ignored x.code)
    (λ i.
    let c = covers item_at item_pos item_le (0 + x.size) (drop x.size t) in
    absurd (late t (0 + x.size) _ k (length t) xs (eof_item (0 + length t)) _ (omega arith) c (omega arith) (rw i at f)))
    (λ i.
    let g : token_of t (placed 0 x) ∷ ts ≡ us = rw i at f in
    let z : x.size ≡ length t = ap size_of_first g in
    let c : pick (eqb x.code plain) (word_of (take x.size t)) x.code ≡ k = ap kind_of_first g in
    let m = no_error x.code k _ (item_code (item_sound b s)) c l in
    record {
      some = omega arith;
      code = x.code;
      rule = (token_exactly x.code (length t) t m (omega arith)).0 (ap (lexeme x.code) z);
      seen = i;
      word = rw (z, take-length t) at c;
    })

-- ---- the text

-- what the first spelling is, it is where the text begins
front : {k : ℕ} (w : Spelling) (ws : List Spelling) → Rule k w.bytes (length w.bytes) → ignored k ≡ false → Rule k (written (w ∷ ws)) (length w.bytes)
front w [] h i = h
front w (v ∷ ws) h i = rule_before (written (v ∷ ws)) h refl i

-- where a token stands that is not ignored, no blank does
no_blanks : {k n : ℕ} {t : List ℕ} → Rule k t n → ignored k ≡ false → blanks t ≡ 0
unfolding ignored
no_blanks {k} {n} {t} h i =
    by (eqb (blanks t) 0) (λ e. eqb-true (blanks t) 0 e)
    (λ e. let z : k ≡ 1 = (only h (blanks_token t e)).0 in apart true refl (rw z at i))

-- a space before it is an item of its own
space_item : {k n : ℕ} {t : List ℕ} → Rule k t n → ignored k ≡ false → item_at (32 ∷ t) ≡ lexeme 1 1
space_item {k} {n} {t} h i =
    let e : blanks (32 ∷ t) ≡ 1 = omega (arith, blanks_add t (space Rules.Blanks.none), no_blanks h i) in
    rw e at (token_item (blanks_token (32 ∷ t) (ne_eqb (blanks (32 ∷ t)) 0 (λ z. omega arith))))

-- the items of a token alone, and of one before a space
last_items : {k : ℕ} (at : ℕ) (t : List ℕ) → 0 < length t → Rule k t (length t) → tiles item_at 0 at t ≡ item k at (length t) ∷ []
unfolding tiles
last_items {k} at t p h =
    let e : item_at t ≡ lexeme k (length t) = token_item h in
    tiles_step item_at at t p (item_pos t p) ∙ rw (e, drop-length t)

next_items : {k j m : ℕ} (at : ℕ) (t r : List ℕ) → 0 < length t → Rule k (t ++ (32 ∷ r)) (length t) → Rule j r m → ignored j ≡ false
    → tiles item_at 0 at (t ++ (32 ∷ r)) ≡ item k at (length t) ∷ item 1 (at + length t) 1 ∷ tiles item_at 0 (at + length t + 1) r
next_items {k} at t r p h g i =
    let n = length t in
    let e : item_at (t ++ (32 ∷ r)) ≡ lexeme k n = token_item h in
    let f : item_at (32 ∷ r) ≡ lexeme 1 1 = space_item g i in
    let l : 0 < length (t ++ (32 ∷ r)) = simp length-append (omega arith) in
    let a : tiles item_at 0 at (t ++ (32 ∷ r)) ≡ item k at n ∷ tiles item_at 0 (at + n) (32 ∷ r) = rw (e, drop-append_seam t (32 ∷ r)) at (tiles_step item_at at (t ++ (32 ∷ r)) l (item_pos (t ++ (32 ∷ r)) l)) in
    let b : tiles item_at 0 (at + n) (32 ∷ r) ≡ item 1 (at + n) 1 ∷ tiles item_at 0 (at + n + 1) r = rw f at (tiles_step item_at (at + n) (32 ∷ r) (omega arith) (item_pos (32 ∷ r) (omega arith))) in
    a ∙ ap (λ (xs : List Item). item k at n ∷ xs) b

-- the token that its item is, wherever its bytes stand
spelt_token : {k : ℕ} {t : List ℕ} (text r : List ℕ) (at : ℕ) (f : Filled k t) → drop at text ≡ t ++ r → token_of text (item f.code at (length t)) ≡ token k at (length t)
unfolding token_of
spelt_token {k} {t} text r at f e = ap (λ (j : ℕ). token j at (length t)) (rw (e, take-append_seam t r) f.word)

-- from the place where the spellings begin in a text, its items are their tokens and the spaces
read : (text : List ℕ) (at : ℕ) (ws : List Spelling) → AllSpell ws → drop at text ≡ written ws
    → (significant text (tiles item_at 0 at (written ws)) ≡ standing at ws) × NoError (tiles item_at 0 at (written ws))
unfolding significant ignored tiles
read text at [] h e = (refl, tt)
read text at (w ∷ []) h e =
    let f = filled w.kind w.bytes h.0.0 h.0.1 in
    let t = spelt_token text [] at f (e ∙ sym (append-nil w.bytes)) in
    rw (last_items at w.bytes f.some f.rule, f.seen) (ap (λ (x : Token). x ∷ []) t, ((rule_code f.rule).1, tt))
read text at (w ∷ v ∷ ws) h e =
    let f = filled w.kind w.bytes h.0.0 h.0.1 in
    let g = filled v.kind v.bytes h.1.0.0 h.1.0.1 in
    let r = written (v ∷ ws) in
    let n = length w.bytes in
    let t = spelt_token text (32 ∷ r) at f e in
    let d : drop (at + n + 1) text ≡ r = sym (drop-drop 1 (at + n) text) ∙ ap (drop 1) (sym (drop-drop n at text) ∙ ap (drop n) e ∙ drop-append_seam w.bytes (32 ∷ r)) in
    let y = read text (at + n + 1) (v ∷ ws) h.1 d in
    rw (next_items at w.bytes r f.some (rule_before r f.rule refl f.seen) (front v ws g.rule g.seen) g.seen, f.seen)
    (ap₂ (λ (x : Token) (xs : List Token). x ∷ xs) t y.0, ((rule_code f.rule).1, (omega arith, y.1)))

-- the tokens of the text are those spelt, each where its bytes stand, and Eof
pub written_tokens : (ws : List Spelling) → AllSpell ws → tokens (written ws) ≡ standing 0 ws ++ (token eof (length (written ws)) 0 ∷ [])
unfolding significant token_of ignored
written_tokens ws h =
    let t = written ws in
    ap (significant t) (eof_last t) ∙ significant_append t (tiles item_at 0 0 t) (eof_item (length t) ∷ [])
    ∙ ap (λ (ts : List Token). ts ++ (token eof (length t) 0 ∷ [])) (read t 0 ws h refl).0

-- it has no error
pub written_clean : (ws : List Spelling) → AllSpell ws → NoError (items (written ws))
written_clean ws h = with_eof _ (tiles item_at 0 0 (written ws)) (read (written ws) 0 ws h refl).1
  where
    with_eof : (at : ℕ) (xs : List Item) → NoError xs → NoError (xs ++ (eof_item at ∷ []))
    with_eof at [] n = (omega arith, tt)
    with_eof at (x ∷ xs) n = (n.0, with_eof at xs n.1)

-- it is UTF-8 if the spellings are
pub written_utf8 : (ws : List Spelling) → AllUtf8 ws → Utf8 (written ws)
written_utf8 [] u = Utf8.none
written_utf8 (w ∷ []) u = u.0
written_utf8 (w ∷ v ∷ ws) u = append_utf8 (32 ∷ written (v ∷ ws)) u.0 (one refl (written_utf8 (v ∷ ws) u.1))

-- ---- which bytes spell

-- a word's kind is 25 at most
word_most : (w : List ℕ) → word_of w ≤ word_on
unfolding word_of
word_most w =
    by_words (same w (116 ∷ 114 ∷ 117 ∷ 101 ∷ [])) (same w (102 ∷ 97 ∷ 108 ∷ 115 ∷ 101 ∷ [])) (same w (110 ∷ 117 ∷ 108 ∷ 108 ∷ [])) (same w (111 ∷ 110 ∷ []))
  where
    by_words : (a b c d : Bool) → pick a word_true (pick b word_false (pick c word_null (pick d word_on plain))) ≤ word_on
    by_words true b c d = omega arith
    by_words false true c d = omega arith
    by_words false false true d = omega arith
    by_words false false false true = omega arith
    by_words false false false false = omega arith

-- the other way round: any text that the rule of a significant token fills spells that token
pub fills : {k : ℕ} (t : List ℕ) → 0 < length t → Rule k t (length t) → ignored k ≡ false → Spells (spelling (pick (eqb k plain) (word_of t) k) t)
unfolding significant token_of ignored
fills {k} t p h i =
    let f : Filled (pick (eqb k plain) (word_of t) k) t = record { some = p; code = k; rule = h; seen = i; word = refl } in
    (ap (significant t) (eof_last t) ∙ rw (last_items 0 t p h, i) (ap (λ (x : Token). x ∷ token eof (length t) 0 ∷ []) (spelt_token t [] 0 f (sym (append-nil t)))), kind (eqb k plain) (rule_code h).1)
  where
    kind : (b : Bool) → k ≤ 21 → pick b (word_of t) k ≤ word_on
    kind true l = word_most t
    kind false l = omega arith
