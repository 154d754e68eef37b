-- The entries accept just the sentences, and the event tape holds the one tree's events. Assumes nothing.
use Prim.Native.Nat.{ℕ, suc, ◌≤◌, ◌<◌, min}
use mathlib.Core.Path.{◌≡◌, refl, sym, ap, ◌∙◌}
use mathlib.Core.Bool.{true, false}
use mathlib.Core.List.{List, [], ◌∷◌, ◌++◌}
use mathlib.Core.Logic.{◌⊎◌, inl, inr}
use native.Mathlib.Omega.{arith}
use borrow.Author.Tests.{le-leb, lt-leb}
use lib.ListN.{length}
use Rattle.base.specs.Item.{Item}
use Rattle.tape.specs.Entry.{room, entries, over}
use Rattle.rules.specs.Items.{items as items_of}
use Rattle.reader.specs.declared.Answer.{Answer}
use Rattle.reader.specs.Answers.{answer, longest, answer_of, tape_of}
use Rattle.reader.proofs.Laws.{done_when, row_0}
use Rattle.syntax.specs.Token.{eof, Token, token}
use Rattle.syntax.specs.Words.{tokens}
use Rattle.syntax.specs.Machine.{refused, accepted}
use Rattle.syntax.proofs.TextTokens.{text_tokens, text_ends}
use Rattle.syntax.proofs.ValueComplete.{value_complete, constant_complete}
use Rattle.syntax.proofs.TypeComplete.{type_complete}
use Rattle.syntax.proofs.SetComplete.{set_complete}
use Rattle.syntax.proofs.Sound.{NoEof}
use Rattle.syntax.proofs.ValueSound.{value_exact}
use Rattle.syntax.proofs.TypeSound.{type_exact}
use Rattle.syntax.proofs.SetSound.{set_exact}
use Rattle.syntax.proofs.Refusals.{refusal_number, value_refusal, set_refusal}
use Rattle.syntax.proofs.TypeRefusals.{read_type_refusal}
use Rattle.syntax.specs.Written.{Spelling, AllSpell, AllUtf8, written, standing}
use Rattle.syntax.proofs.Written.{written_tokens, written_clean, written_utf8}
use Rattle.syntax.proofs.OneReading.{NoError, value_one, ty_one, set_one}
use Rattle.grammar.specs.declared.Entry.{Entry}
use Rattle.grammar.specs.declared.Entry.TheVariants.{Value, Constant, Ty, SelectionSet}
use Rattle.grammar.specs.Answers.{read_of, deepest, is_error, first_error, read_answer, counted_events, grammar_answer, grammar_items, grammar_events}
use Rattle.grammar.specs.Trees.{Tree, tree_tokens, tree_events, tree_depth, Clear, Sentence}
use Rattle.grammar.proofs.Rows.{parsed}

-- ---- over the reader's definition

complete_by : (e : Entry) (d : ℕ) (x : Tree e) (u : Token) → tree_depth e x ≤ d → u.kind ≡ eof → read_of e d (tree_tokens e x ++ (u ∷ [])) ≡ accepted (tree_events e x)
unfolding read_of
complete_by Value d x u l k = value_complete d x u [] l k
complete_by Constant d x u l k = constant_complete d x u [] l k
complete_by Ty d x u l k = type_complete d x u [] l k
complete_by SelectionSet d x u l k = set_complete d x u [] l k

-- a sentence is accepted with its tree's events
pub complete : (e : Entry) (d : ℕ) (t : List ℕ) (x : Tree e) → Sentence e d t x → read_of e d (tokens t) ≡ accepted (tree_events e x)
complete e d t x s = rw s.spells (complete_by e d x (token eof (length t) 0) s.deep refl)

-- what is accepted is a sentence
pub record Accepted (e : Entry) (d : ℕ) (t : List ℕ) (es : List Item) : Type 0 where
  pub tree : Tree e
  pub sentence : Sentence e d t tree
  pub events : es ≡ tree_events e tree

exact_by : (e : Entry) (d : ℕ) (us : List Token) (u : Token) (es : List Item) → NoEof us → read_of e d (us ++ (u ∷ [])) ≡ accepted es
    → (x : Tree e) × (tree_depth e x ≤ d) × (us ≡ tree_tokens e x) × (es ≡ tree_events e x)
unfolding read_of
exact_by Value d us u es n h = value_exact false d us u es n h
exact_by Constant d us u es n h = value_exact true d us u es n h
exact_by Ty d us u es n h = type_exact d us u es n h
exact_by SelectionSet d us u es n h = set_exact d us u es n h

pub sound : (e : Entry) (d : ℕ) (t : List ℕ) (es : List Item) → read_of e d (tokens t) ≡ accepted es → Accepted e d t es
sound e d t es h =
    let w = text_tokens t in
    let x = exact_by e d w.others w.end es w.no (rw w.split at h) in
    record {
      tree = x.0;
      sentence = record { deep = x.1; spells = w.split ∙ ap (λ (us : List Token). us ++ (w.end ∷ [])) x.2 ∙ ap (λ (u : Token). tree_tokens e x.0 ++ (u ∷ [])) w.is };
      events = x.3;
    }

-- one tree has these tokens
pub one_tree : (e : Entry) (x y : Tree e) → tree_tokens e x ≡ tree_tokens e y → x ≡ y
one_tree Value x y h = value_one x y h
one_tree Constant x y h = value_one x y h
one_tree Ty x y h = ty_one x y h
one_tree SelectionSet x y h = set_one x y h

among : {n : ℕ} → (n ≡ 7) ⊎ ((n ≡ 8) ⊎ (n ≡ 9)) → (7 ≤ n) × (n ≤ 9)
among (inl h) = (omega arith, omega arith)
among (inr (inl h)) = (omega arith, omega arith)
among (inr (inr h)) = (omega arith, omega arith)

among_types : {n : ℕ} {A : Type 0} → ((n ≡ 7) × A) ⊎ (n ≡ 9) → (7 ≤ n) × (n ≤ 9)
among_types (inl h) = let k = h.0 in (omega arith, omega arith)
among_types (inr h) = (omega arith, omega arith)

-- what is refused has the number 7, 8 or 9
pub refused_number : (e : Entry) (d : ℕ) (t : List ℕ) (n p : ℕ) → read_of e d (tokens t) ≡ refused n p → (7 ≤ n) × (n ≤ 9)
unfolding read_of
refused_number Value d t n p h = among (refusal_number (value_refusal false d (tokens t) n p (text_ends t) h))
refused_number Constant d t n p h = among (refusal_number (value_refusal true d (tokens t) n p (text_ends t) h))
refused_number Ty d t n p h = among_types (read_type_refusal d (tokens t) n p (text_ends t) h).number
refused_number SelectionSet d t n p h = among (refusal_number (set_refusal d (tokens t) n p (text_ends t) h))

-- ---- over the answers and the tapes

module _ (e : Entry) (t : List ℕ) (limit depth : ℕ) (items events : List ℕ) where
  -- where all items are read and none is an error, the reading of the tokens is the answer
  pub clear_read : Clear t limit depth items
      → (grammar_answer e t limit depth items events ≡ read_answer (length t) (length (items_of t)) (room events) (read_of e depth (tokens t)))
      × (grammar_items t limit depth items ≡ over items (entries (items_of t)))
      × (grammar_events e t limit depth items events ≡ counted_events events (read_of e depth (tokens t)))
  clear_read c =
      let z = done_when t limit items c.utf8 c.short c.admitted in
      let r = row_0 t limit items (record { short = c.short; utf8 = c.utf8 }) c.admitted in
      let n : (answer_of t limit items).items ≡ length (items_of t) = ap (λ (a : Answer). a.items) r.0 in
      let p = parsed e t limit depth items events c.allowed (answer_of t limit items) (tape_of t limit items) refl refl z
      (first_error (items_of t)) refl (rw n (omega (arith, c.faultless)))
      (read_answer (length t) (answer_of t limit items).items (room events) (read_of e depth (tokens t))) (counted_events events (read_of e depth (tokens t))) refl refl in
      (rw (← n) (sym p.0), sym p.1.0 ∙ r.1, sym p.1.1)

  -- a sentence whose events have room: 0, and they are on the tape
  pub sentence_done : Clear t limit depth items → (x : Tree e) → Sentence e depth t x → length (tree_events e x) ≤ room events
      → (grammar_answer e t limit depth items events ≡ answer 0 (length t) (length (items_of t)) (length (tree_events e x)))
      × (grammar_items t limit depth items ≡ over items (entries (items_of t)))
      × (grammar_events e t limit depth items events ≡ over events (entries (tree_events e x)))
  unfolding read_answer counted_events
  sentence_done c x s l =
      let r = clear_read c in
      let h = complete e depth t x s in
      let b = le-leb (length (tree_events e x)) (room events) l in
      (r.0 ∙ rw (h, b), r.1, r.2 ∙ rw (h, b))

  -- and without room: 10 with their count, and the event tape is unchanged
  pub sentence_short : Clear t limit depth items → (x : Tree e) → Sentence e depth t x → room events < length (tree_events e x)
      → (grammar_answer e t limit depth items events ≡ answer 10 0 (length (items_of t)) (length (tree_events e x)))
      × (grammar_items t limit depth items ≡ over items (entries (items_of t)))
      × (grammar_events e t limit depth items events ≡ events)
  unfolding read_answer counted_events
  sentence_short c x s l =
      let r = clear_read c in
      let h = complete e depth t x s in
      let b = lt-leb (length (tree_events e x)) (room events) l in
      (r.0 ∙ rw (h, b), r.1, r.2 ∙ rw (h, b))

-- ---- print and read back

-- a text of tokens that are spelt has no error item
clean_faultless : (xs : List Item) → NoError xs → first_error xs ≡ length xs
unfolding first_error is_error
clean_faultless [] h = refl
clean_faultless (x ∷ xs) h = rw (lt-leb 64 x.code (let c = h.0 in omega arith)) (ap suc (clean_faultless xs h.1))

-- "the tokens of any tree within the limits, written out with a space between, are read to that tree's events"
pub written_back : (e : Entry) (x : Tree e) (ws : List Spelling) (limit depth : ℕ) (items events : List ℕ)
    → AllSpell ws → AllUtf8 ws → tree_tokens e x ≡ standing 0 ws → tree_depth e x ≤ depth → depth ≤ deepest
    → length (written ws) ≤ longest → length (items_of (written ws)) ≤ min limit (room items) → length (tree_events e x) ≤ room events
    → (grammar_answer e (written ws) limit depth items events ≡ answer 0 (length (written ws)) (length (items_of (written ws))) (length (tree_events e x)))
    × (grammar_items (written ws) limit depth items ≡ over items (entries (items_of (written ws))))
    × (grammar_events e (written ws) limit depth items events ≡ over events (entries (tree_events e x)))
written_back e x ws limit depth items events s u q d a l m r =
    sentence_done e (written ws) limit depth items events (record {
      utf8 = written_utf8 ws u;
      short = l;
      admitted = m;
      faultless = clean_faultless (items_of (written ws)) (written_clean ws s);
      allowed = a;
    }) x (record { deep = d; spells = rw q (written_tokens ws s) }) r
