-- `reader::give_items` meets its contract. Assumes nothing.
use mathlib.Core.Path.{◌≡◌, sym, ◌∙◌}
use Prim.Native.Nat.{◌≤◌, ◌<◌, min}
use native.Mathlib.Omega.{arith}
use Rattle.tape.specs.Entry.{room}
use Rattle.rules.specs.Items.{item_at}
use Rattle.rules.proofs.Bounds.{item_pos, item_le}
use Rattle.reader.proofs.Turn.{at_limit, at_limit_tape, at_room, at_room_tape}
use Rattle.reader.proofs.Reading.{start, code_fits, put_fits, given_all, given_all_tape, again}
use Rattle.reader.proofs.give_items.Goals as goal
use Rattle.reader.proofs.give_items.Goals.{After-size_of-size}

-- the limit and the room let one item more
due : (c : After-size_of-size) → c.loop-n.n < min c.args.limit (room c.args.tape.now)
due c = omega (arith, c.min-n-end.ensures, c.capacity-space.ensures)

pub loop-n-init : goal.loop-n-init
loop-n-init c = start c.args.text.now c.args.tape.now c.args.limit c.new-cursor.result c.requires c.new-cursor.ensures

pub code_of-code-requires : goal.code_of-code-requires
code_of-code-requires c = code_fits c.args.text.now c.args.tape.now c.args.limit c.loop-n.tape c.loop-n.cursor c.loop-n.n c.loop-n.invariant c.advance-found.result c.advance-found.ensures

pub put_entry-requires : goal.put_entry-requires
put_entry-requires c =
    let f = put_fits c.args.text.now c.args.tape.now c.args.limit c.loop-n.tape c.loop-n.cursor c.loop-n.n c.loop-n.invariant c.advance-found.result c.advance-found.ensures c.code_of-code.result c.code_of-code.ensures c.size_of-size.result c.size_of-size.ensures (due (goal.at.put_entry-requires c).After-size_of-size) in
    record {
      index_bound = omega (arith, f.0);
      start_bound = omega (arith, f.1.0);
      size_bound = f.1.1;
    }

pub returns-then-code-from : goal.returns-then-code-from
returns-then-code-from c =
    let d = due (goal.at.returns-then-code-from c).After-size_of-size in
    let z = c.if-code-from.true ∙ c.from.ensures in
    record {
      answer = c.done.ensures ∙ given_all c.args.text.now c.args.tape.now c.args.limit c.loop-n.tape c.loop-n.cursor c.loop-n.n c.loop-n.invariant c.advance-found.result c.advance-found.ensures c.code_of-code.result c.code_of-code.ensures c.size_of-size.result c.size_of-size.ensures d z;
      tape = c.put_entry.ensures ∙ given_all_tape c.args.text.now c.args.tape.now c.args.limit c.loop-n.tape c.loop-n.cursor c.loop-n.n c.loop-n.invariant c.advance-found.result c.advance-found.ensures c.code_of-code.result c.code_of-code.ensures c.size_of-size.result c.size_of-size.ensures d z;
    }

pub loop-n-preserved : goal.loop-n-preserved
loop-n-preserved c =
    rw c.put_entry.ensures
    (again c.args.text.now c.args.tape.now c.args.limit c.loop-n.tape c.loop-n.cursor c.loop-n.n c.loop-n.invariant c.advance-found.result c.advance-found.ensures c.code_of-code.result c.code_of-code.ensures c.size_of-size.result c.size_of-size.ensures (due (goal.at.loop-n-preserved c).After-size_of-size)
    (λ e. c.if-code-from.false (e ∙ sym c.from.ensures)))

pub returns-then-limit-space : goal.returns-then-limit-space
returns-then-limit-space c =
    let e : c.loop-n.n ≡ min c.args.limit (room c.args.tape.now) = omega (arith, c.min-n-end.ensures, c.capacity-space.ensures) in
    let h : c.args.limit ≤ room c.args.tape.now = omega (arith, c.capacity-space.ensures) in
    record {
      answer = c.refused.ensures ∙ at_limit item_at item_pos item_le c.args.text.now c.args.tape.now c.args.limit c.loop-n.tape c.loop-n.cursor.index c.loop-n.n c.loop-n.invariant.state e h;
      tape = at_limit_tape item_at item_pos item_le c.args.text.now c.args.tape.now c.args.limit c.loop-n.tape c.loop-n.cursor.index c.loop-n.n c.loop-n.invariant.state e h;
    }

pub returns-else-limit-space : goal.returns-else-limit-space
returns-else-limit-space c =
    let e : c.loop-n.n ≡ min c.args.limit (room c.args.tape.now) = omega (arith, c.min-n-end.ensures, c.capacity-space.ensures) in
    let h : room c.args.tape.now < c.args.limit = omega (arith, c.capacity-space.ensures) in
    record {
      answer = c.refused-else-limit-space.ensures ∙ rw c.capacity-space.ensures (at_room item_at item_pos item_le c.args.text.now c.args.tape.now c.args.limit c.loop-n.tape c.loop-n.cursor.index c.loop-n.n c.loop-n.invariant.state e h);
      tape = at_room_tape item_at item_pos item_le c.args.text.now c.args.tape.now c.args.limit c.loop-n.tape c.loop-n.cursor.index c.loop-n.n c.loop-n.invariant.state e h;
    }
