-- The entry code of the C interface: 0 reads items, any other is refused. Assumes nothing.
use mathlib.Core.Path.{◌≡◌}
use mathlib.Core.List.{List}
use Prim.Native.Nat.{ℕ}
use borrow.Author.Tests.{eq-eqb, ne_eqb}
use Rattle.reader.specs.declared.Answer.{Answer}
use Rattle.reader.specs.Answers.{answer, answer_of, tape_of}
use Rattle.paumelu.specs.Interface.{interface_answer, interface_tape}

module _ (entry : ℕ) (t : List ℕ) (limit : ℕ) (tape : List ℕ) where
  pub unknown_entry : (entry ≡ 0 → ⊥) → (answer 11 0 0 0 ≡ interface_answer entry t limit tape) × (tape ≡ interface_tape entry t limit tape)
  unfolding interface_answer interface_tape
  unknown_entry n = (rw (ne_eqb entry 0 n), rw (ne_eqb entry 0 n))

  pub item_entry : entry ≡ 0 → (a : Answer) (new : List ℕ) → a ≡ answer_of t limit tape → new ≡ tape_of t limit tape
      → (a ≡ interface_answer entry t limit tape) × (new ≡ interface_tape entry t limit tape)
  unfolding interface_answer interface_tape
  item_entry e a new x y = (rw (eq-eqb entry 0 e) x, rw (eq-eqb entry 0 e) y)
