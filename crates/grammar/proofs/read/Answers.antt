-- `read` meets its contract: the table's checks, in its order. Assumes nothing.
use mathlib.Core.Path.{refl}
use native.Mathlib.Omega.{arith}
use Rattle.tape.specs.Answers.{item_of}
use Rattle.grammar.proofs.Rows.{too_deep_lem, not_read, counted, holds, an_error, parsed}
use Rattle.grammar.proofs.read.Goals as goal

pub returns-then-past_deepest : goal.returns-then-past_deepest
returns-then-past_deepest c =
    let both = too_deep_lem c.args.entry c.args.text.now c.args.limit c.args.depth c.args.items.now c.args.events.now c.if-past_deepest.true in
    record {
      answer = rw c.refused.ensures both.0;
      items = both.1.0;
      events = both.1.1;
    }

pub returns-then-a-ne-DONE : goal.returns-then-a-ne-DONE
returns-then-a-ne-DONE c =
    let both = not_read c.args.entry c.args.text.now c.args.limit c.args.depth c.args.items.now c.args.events.now (omega (arith, c.if-past_deepest.false)) c.read_items-a.result _ c.read_items-a.ensures.answer c.read_items-a.ensures.tape c.if-a-ne-DONE.true in
    record {
      answer = both.0;
      items = both.1.0;
      events = both.1.1;
    }

pub invariant_of-tokens : goal.invariant_of-tokens
invariant_of-tokens c = record { holds = holds c.args.entry c.args.text.now c.args.limit c.args.depth c.args.items.now c.args.events.now (omega (arith, c.if-past_deepest.false)) c.read_items-a.result _ c.read_items-a.ensures.answer c.read_items-a.ensures.tape c.if-a-ne-DONE.false }

pub first_error-requires : goal.first_error-requires
first_error-requires c = counted c.args.entry c.args.text.now c.args.limit c.args.depth c.args.items.now c.args.events.now (omega (arith, c.if-past_deepest.false)) c.read_items-a.result _ c.read_items-a.ensures.answer c.read_items-a.ensures.tape c.if-a-ne-DONE.false

pub returns-in-Some : goal.returns-in-Some
returns-in-Some c =
    let both = let n = counted c.args.entry c.args.text.now c.args.limit c.args.depth c.args.items.now c.args.events.now (omega (arith, c.if-past_deepest.false)) c.read_items-a.result _ c.read_items-a.ensures.answer c.read_items-a.ensures.tape c.if-a-ne-DONE.false in
    an_error c.args.entry c.args.text.now c.args.limit c.args.depth c.args.items.now c.args.events.now (omega (arith, c.if-past_deepest.false)) c.read_items-a.result _ c.read_items-a.ensures.answer c.read_items-a.ensures.tape c.if-a-ne-DONE.false _ c.in-Some.ensures.0 (omega (arith, n, c.in-Some.ensures.1)) (item_of c.get_entry-e.result) c.get_entry-e.ensures in
    record {
      answer = rw c.refused-in-Some.ensures both.0;
      items = both.1.0;
      events = both.1.1;
    }

pub returns : goal.returns
returns c =
    let both = let n = counted c.args.entry c.args.text.now c.args.limit c.args.depth c.args.items.now c.args.events.now (omega (arith, c.if-past_deepest.false)) c.read_items-a.result _ c.read_items-a.ensures.answer c.read_items-a.ensures.tape c.if-a-ne-DONE.false in
    parsed c.args.entry c.args.text.now c.args.limit c.args.depth c.args.items.now c.args.events.now (omega (arith, c.if-past_deepest.false)) c.read_items-a.result _ c.read_items-a.ensures.answer c.read_items-a.ensures.tape c.if-a-ne-DONE.false _ refl (omega (arith, n, c.in_default.ensures)) _ _ c.parse_twice.ensures.answer c.parse_twice.ensures.events in
    record {
      answer = both.0;
      items = both.1.0;
      events = both.1.1;
    }
