-- `utf8::ascii_eights` meets its contract. Assumes nothing.
use borrow.Author.Rules.{rules}
use Rattle.utf8.proofs.Ascii.{passes_chunk}
use Rattle.utf8.proofs.ascii_eights.Goals as goal

pub loop-j-preserved : goal.loop-j-preserved
loop-j-preserved c =
    passes_chunk _ _ _ 8 c.first_chunk.result c.is_some_and.result _ c.loop-j.invariant c.first_chunk.ensures.cases c.is_some_and.ensures c.loop-j-test.true
    (λ a q. search rules)
