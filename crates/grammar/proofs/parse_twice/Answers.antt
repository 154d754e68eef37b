-- `parse_twice` meets its contract: counted on an empty part of the event tape, then written. Assumes nothing.
use native.Mathlib.Omega.{arith}
use lib.ListN.{length}
use Rattle.grammar.proofs.Fits.{read_fits}
use Rattle.grammar.proofs.Readings.{lent_refused, lent_short, lent_written}
use Rattle.grammar.proofs.parse_twice.Goals as goal

pub returns-in-Err : goal.returns-in-Err
returns-in-Err c =
    let both = lent_refused _ (length c.args.tokens.now.text.now) c.args.count c.args.events.now (λ es h. read_fits c.args.entry c.args.depth c.args.tokens.now.text.now es c.args.tokens.now.holds.short h) c.parse.new.tape c.parse.auto.tape c.in-Err.ensures in
    record { answer = rw c.refused.ensures both.0; events = both.1 }

pub returns-in-Ok : goal.returns-in-Ok
returns-in-Ok c =
    let both = lent_short _ (length c.args.tokens.now.text.now) c.args.count c.args.events.now (λ es h. read_fits c.args.entry c.args.depth c.args.tokens.now.text.now es c.args.tokens.now.holds.short h) c.parse.new.tape c.parse.auto.tape c.in-Ok.ensures (omega (arith, c.capacity.ensures, c.if-capacity-needed.true)) in
    record { answer = rw c.from.ensures both.0; events = both.1 }

pub returns-in-Ok-2 : goal.returns-in-Ok-2
returns-in-Ok-2 c =
    let both = lent_written _ (length c.args.tokens.now.text.now) c.args.count c.args.events.now (λ es h. read_fits c.args.entry c.args.depth c.args.tokens.now.text.now es c.args.tokens.now.holds.short h) c.parse.new.tape c.parse.auto.tape c.in-Ok.ensures (λ l. omega (arith, c.capacity.ensures, c.if-capacity-needed.false, l)) (rw c.unwrap.ensures at c.parse-in-Ok-2.ensures) in
    record { answer = both.0; events = both.1 }
