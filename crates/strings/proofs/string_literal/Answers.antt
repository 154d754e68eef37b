-- `strings::string_literal` meets its contract. Assumes nothing.
use mathlib.Core.Path.{◌≡◌, sym, ap, ◌∙◌}
use Prim.Native.Nat.{◌+◌, ◌≤◌}
use native.Mathlib.Nat.{add_assoc}
use native.Mathlib.Omega.{arith}
use lib.ListN.{length, drop}
use Rattle.base.specs.Lexed.{lexed_of}
use Rattle.base.proofs.Lists.{part_rest}
use Rattle.strings.specs.String.{later_of, plain_run}
use Rattle.strings.proofs.Quoted.{quoted_goes, quoted_closes, quoted_ends}
use Rattle.strings.proofs.Plain.{plain_passes, plain_within}
use Rattle.strings.proofs.string_literal.Goals as goal
use Rattle.strings.proofs.string_literal.Goals.{After-plain_run}

-- what is passed after the byte at i
passed : (c : After-plain_run) → c.plain_run.result ≡ plain_run c.in-Go.next (drop (c.loop-i.i + 1) c.args.rest.now)
passed c = rw (part_rest c.args.rest.now (c.loop-i.i + 1) (omega arith)) at c.plain_run.ensures

-- the next step is due within the text
within : (c : After-plain_run) → c.loop-i.i + (1 + c.plain_run.result) ≤ length c.args.rest.now
within c = let w = plain_within c.in-Go.next (c.loop-i.i + 1) c.args.rest.now (omega arith) in omega (arith, passed c)

pub overflow_add-i-in-Go : goal.overflow_add-i-in-Go
overflow_add-i-in-Go c = omega (arith, within (goal.at.overflow_add-i-in-Go c).After-plain_run)

pub overflow_add-i-in-Go-2 : goal.overflow_add-i-in-Go-2
overflow_add-i-in-Go-2 c = omega (arith, within (goal.at.overflow_add-i-in-Go-2 c).After-plain_run)

pub loop-i-preserved : goal.loop-i-preserved
unfolding later_of
loop-i-preserved c =
    let goes = quoted_goes c.loop-i.state c.loop-i.err c.loop-i.i c.args.rest.now c.in-Go.next c.in-Go.fault c.loop-i-test.true (sym c.string_step.ensures ∙ c.in-Go.is) in
    let passes = plain_passes c.in-Go.next (later_of c.loop-i.err c.in-Go.fault) (c.loop-i.i + 1) c.args.rest.now in (
      within (goal.at.loop-i-preserved c).After-plain_run,
      c.loop-i.invariant.1 ∙ goes ∙ passes ∙ rw (c.or-err.ensures, passed (goal.at.loop-i-preserved c).After-plain_run, add_assoc),
    )

pub returns-in-Close : goal.returns-in-Close
unfolding later_of
returns-in-Close c =
    let closes = quoted_closes c.loop-i.state c.loop-i.err c.loop-i.i c.args.rest.now c.in-Close.fault c.loop-i-test.true (sym c.string_step.ensures ∙ c.in-Close.is) in
    c.done.ensures ∙ ap lexed_of (rw c.or.ensures (sym (c.loop-i.invariant.1 ∙ closes)))

pub returns : goal.returns
returns c = c.eof.ensures ∙ ap lexed_of (sym (c.loop-i.invariant.1 ∙ quoted_ends c.loop-i.state c.loop-i.err c.loop-i.i c.args.rest.now c.loop-i-test.false))
