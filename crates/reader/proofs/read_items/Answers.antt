-- `reader::read_items` meets its contract: the table row by row. Assumes nothing.
use mathlib.Core.Path.{◌∙◌}
use Rattle.reader.proofs.Entries.{too_long, not_utf8_lem, read}
use Rattle.reader.proofs.read_items.Goals as goal

pub returns-then-too_long : goal.returns-then-too_long
returns-then-too_long c = let both = too_long c.args.text.now c.args.limit c.args.tape.now c.if-too_long.true in
    record {
      answer = c.refused.ensures ∙ both.0;
      tape = both.1;
    }

pub returns-in-Ok : goal.returns-in-Ok
returns-in-Ok c = let both = read c.args.text.now c.args.limit c.args.tape.now _ _ c.if-too_long.false c.in-Ok.ensures c.give_items.ensures.answer c.give_items.ensures.tape in
    record {
      answer = both.0;
      tape = both.1;
    }

pub returns-in-Err : goal.returns-in-Err
returns-in-Err c = let both = not_utf8_lem c.args.text.now c.args.limit c.args.tape.now _ c.if-too_long.false c.in-Err.ensures in
    record {
      answer = c.refused-in-Err.ensures ∙ both.0;
      tape = both.1;
    }
