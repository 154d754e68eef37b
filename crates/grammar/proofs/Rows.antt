-- The table's rows, in the order of its checks, as the entry comes upon them. Assumes nothing.
use Prim.Native.Nat.{ℕ, ◌≤◌, ◌<◌}
use mathlib.Core.Path.{◌≡◌, ◌∙◌}
use mathlib.Core.Bool.{true, false}
use mathlib.Core.List.{List}
use native.Mathlib.Omega.{arith}
use borrow.Author.Tests.{lt-ltb, le-ltb, eq-eqb, ne_eqb}
use lib.Dec.{ltb, leb, eqb}
use lib.ListN.{length, get_or}
use Rattle.base.specs.Text.{pick}
use Rattle.base.specs.Item.{Item}
use Rattle.base.proofs.Tests.{by}
use Rattle.tape.specs.Entry.{room, entry_of}
use Rattle.tiles.specs.Tiles.{eof}
use Rattle.rules.specs.Items.{items as items_of}
use Rattle.syntax.specs.Words.{tokens}
use Rattle.syntax.specs.Machine.{Read, refused, accepted}
use Rattle.reader.specs.declared.Answer.{Answer}
use Rattle.reader.specs.Answers.{answer, answer_of, tape_of}
use Rattle.reader.proofs.Laws.{done_all, read_back, tape_length}
use Rattle.parser.specs.View.{Holds}
use Rattle.grammar.specs.declared.Entry.{Entry}
use Rattle.grammar.specs.Answers.{read_of, deepest, first_error, read_answer, items_answer, counted_events, grammar_answer, grammar_items, grammar_events}

-- only where the number is 0 are there events to write
counted_by : (size count : ℕ) (old : List ℕ) (x : Read) → pick (eqb (read_answer size count (room old) x).number 0) (counted_events old x) old ≡ counted_events old x
unfolding read_answer counted_events
counted_by size count old (refused n p) = by (eqb n 0) (λ e. rw e) (λ e. rw e)
counted_by size count old (accepted es) = by (leb (length es) (room old)) (λ e. rw e) (λ e. rw e)

module _ (e : Entry) (t : List ℕ) (limit depth : ℕ) (items events : List ℕ) where
  -- the answer and both tapes
  abbrev pub Results : Answer → List ℕ → List ℕ → Type 0
  Results a items' events' =
      (a ≡ grammar_answer e t limit depth items events)
      × ((items' ≡ grammar_items t limit depth items) × (events' ≡ grammar_events e t limit depth items events))

  pub too_deep_lem : deepest < depth → Results (answer 1 0 0 0) items events
  unfolding grammar_answer grammar_items grammar_events
  too_deep_lem h = let f = lt-ltb deepest depth h in (rw f, (rw f, rw f))

  module _ (h : depth ≤ deepest) (a : Answer) (new : List ℕ) (p : a ≡ answer_of t limit items) (q : new ≡ tape_of t limit items) where
    pub not_read : (a.number ≡ 0 → ⊥) → Results a new events
    unfolding grammar_answer grammar_items grammar_events
    not_read n =
        let f = le-ltb deepest depth h in
        let g : eqb (answer_of t limit items).number 0 ≡ false = ne_eqb _ 0 (λ z. n (rw p z)) in
        (rw (f, g) p, (rw f q, rw (f, g, g)))

    module _ (z : a.number ≡ 0) where
      number_0 : (answer_of t limit items).number ≡ 0
      number_0 = rw p at z

      pub counted : a.items ≡ length (items_of t)
      counted = rw p (done_all t limit items number_0).count

      pub holds : Holds t new
      holds =
          let d = done_all t limit items number_0 in
          rw q (record {
            short = d.short;
            roomy = let m = d.admitted in rw (tape_length t limit items) (omega arith);
            entries = read_back t limit items number_0;
          })

      -- the item that an entry of the tape holds
      pub an_error : (first : ℕ) → first ≡ first_error (items_of t) → first < a.items → (x : Item) → x ≡ entry_of new first
          → Results (answer 6 x.start a.items 0) new events
      unfolding grammar_answer grammar_items grammar_events items_answer
      an_error first f l x y =
          let i : first < length (items_of t) = rw (← counted) l in
          let s : x ≡ get_or (items_of t) first (eof 0) = y ∙ holds.entries first i in
          let g = le-ltb deepest depth h in
          let k = eq-eqb _ 0 number_0 in
          let w : ltb (first_error (items_of t)) (length (items_of t)) ≡ true = lt-ltb (first_error (items_of t)) (length (items_of t)) (rw (← f) i) in
          (rw (g, k, w, counted, s, f), (rw g q, rw (g, k, w)))

      pub parsed : (first : ℕ) → first ≡ first_error (items_of t) → a.items ≤ first → (b : Answer) (events' : List ℕ)
          → b ≡ read_answer (length t) a.items (room events) (read_of e depth (tokens t)) → events' ≡ counted_events events (read_of e depth (tokens t))
          → Results b new events'
      unfolding grammar_answer grammar_items grammar_events items_answer
      parsed first f l b events' u v =
          let i : length (items_of t) ≤ first = rw (← counted) l in
          let g = le-ltb deepest depth h in
          let k = eq-eqb _ 0 number_0 in
          let w : ltb (first_error (items_of t)) (length (items_of t)) ≡ false = le-ltb (first_error (items_of t)) (length (items_of t)) (rw (← f) i) in
          (rw (g, k, w, ← counted) u, (rw g q, rw (g, k, w, counted_by (length t) (length (items_of t)) events (read_of e depth (tokens t))) v))
