-- `utf8::ascii_ones` meets its contract: the run of ASCII that stands there. Assumes nothing.
use Rattle.std.proofs.Common.{ltb, ◌∙◌, rules, tests, drop}
use Rattle.std.proofs.lemmas.Iterator.{YieldsList-from_slice}
use Rattle.std.proofs.lemmas.Iterator.Consumers.{count_from_yields_List}
use Rattle.std.proofs.lemmas.Iterator.Search.{YieldsList-from_take_while}
use Rattle.std.proofs.lemmas.List.Folds.{length-prefix_len}
use Rattle.base.proofs.Lists.{part_rest}
use Rattle.utf8.proofs.Ascii.{passes_prefix}
use Rattle.utf8.proofs.ascii_ones.Goals as goal

pub returns : goal.returns
returns c =
    let s = drop c.args.i c.args.text.now in
    let n = count_from_yields_List c.take_while.result _ c.count.ensures.ran (YieldsList-from_take_while _ (λ b. ltb b 0x80) (YieldsList-from_slice s (cc (part_rest c.args.text.now c.args.i c.requires))) c.take_while.ensures.closure c.take_while.ensures.done (λ x b q k. search (rules, tests))) ∙ length-prefix_len (λ b. ltb b 0x80) s in
    rw n (passes_prefix c.args.text.now c.args.i c.requires)
