-- Document 01's row 11: "the C interface gets an entry code other than 0 (read items)": tapes unchanged; tested before all else.
-- Assumes nothing: these are definitions.
use Rattle.std.specs.Prelude.{ℕ, List, eqb}
use Rattle.base.specs.Text.{pick}
use Rattle.codes.specs.Refusals.{entry_code}
use Rattle.reader.specs.declared.Answer.{Answer}
use Rattle.reader.specs.Answers.{answer, answer_of, tape_of}

unfoldable pub interface_answer : (entry : ℕ) → List ℕ → (limit : ℕ) → (tape : List ℕ) → Answer
interface_answer entry t limit tape = pick (eqb entry 0) (answer_of t limit tape) (answer entry_code 0 0 0)

unfoldable pub interface_tape : (entry : ℕ) → List ℕ → (limit : ℕ) → (tape : List ℕ) → List ℕ
interface_tape entry t limit tape = pick (eqb entry 0) (tape_of t limit tape) tape
