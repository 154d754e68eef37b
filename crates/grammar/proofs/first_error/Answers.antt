-- `first_error` meets its contract: the chain stops at the first error item. Assumes nothing.
use mathlib.Core.Path.{ap}
use borrow.Author.Tests.{tests}
use Rattle.std.proofs.Common.{rules, ◌≤◌, ◌<◌}
use Rattle.std.proofs.lemmas.Iterator.{first_from_Range}
use Rattle.base.specs.Item.{Item}
use Rattle.rules.specs.Items.{items as items_of}
use Rattle.tape.specs.Entry.{entry_of}
use Rattle.grammar.proofs.Errors.{first_found}
use Rattle.grammar.proofs.first_error.Goals as goal

pub returns : goal.returns
returns c =
    let tape = c.args.tokens.now.items.now in
    first_found (items_of c.args.tokens.now.text.now) c.args.count (λ k. (entry_of tape k).code) c.requires
    (λ k l. ap (λ (x : Item). x.code) (c.args.tokens.now.holds.entries k l)) c.find.result
    (first_from_Range _ _ _ c.find.result (λ k. 64 ≤ (entry_of tape k).code) (λ k. (entry_of tape k).code < 64) c.find.ensures.ran
    (λ k q h. search (rules, tests)) (λ k q h. search (rules, tests)))
