-- `paumelu::paumelu_read` meets its contract: it hands the answer over, field by field. Assumes nothing.
use mathlib.Core.Path.{ap}
use Rattle.reader.specs.declared.Answer.{Answer}
use Rattle.paumelu.proofs.Codes.{unknown_entry, item_entry}
use Rattle.paumelu.proofs.paumelu_read.Goals as goal

pub returns-then-is_unknown : goal.returns-then-is_unknown
returns-then-is_unknown c = let e = unknown_entry c.args.entry c.args.text.now c.args.limit c.args.tape.now c.if-is_unknown.true in
    record {
      number = ap (λ (a : Answer). a.number) e.0;
      place = ap (λ (a : Answer). a.place) e.0;
      items = ap (λ (a : Answer). a.items) e.0;
      events = ap (λ (a : Answer). a.events) e.0;
      tape = e.1;
    }

pub returns : goal.returns
returns c = let e = item_entry c.args.entry c.args.text.now c.args.limit c.args.tape.now c.if-is_unknown.false _ _ c.read_items-a.ensures.answer c.read_items-a.ensures.tape in
    record {
      number = ap (λ (a : Answer). a.number) e.0;
      place = ap (λ (a : Answer). a.place) e.0;
      items = ap (λ (a : Answer). a.items) e.0;
      events = ap (λ (a : Answer). a.events) e.0;
      tape = e.1;
    }
