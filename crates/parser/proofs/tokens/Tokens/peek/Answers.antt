-- `Tokens::peek` meets its contract. Assumes nothing.
use mathlib.Core.Path.{refl, sym, ◌∙◌}
use native.Mathlib.Omega.{arith}
use Rattle.tape.specs.Answers.{item_of}
use Rattle.parser.proofs.Items.{entry_inside, is_code, passed, found}
use Rattle.parser.proofs.tokens.Tokens.peek.Goals as goal

pub token_kind-requires-clause-code : goal.token_kind-requires-clause-code
token_kind-requires-clause-code c = is_code _ _ c.args.self.now.holds c.loop-e.i c.loop-e.invariant.1 (item_of c.get_entry-e.result) c.get_entry-e.ensures

pub token_kind-requires-clause-inside : goal.token_kind-requires-clause-inside
token_kind-requires-clause-inside c = entry_inside _ _ c.args.self.now.holds c.loop-e.i c.loop-e.invariant.1 (item_of c.get_entry-e.result) c.get_entry-e.ensures

pub invariant_of-result : goal.invariant_of-result
invariant_of-result c = record {
  narrow = let e = entry_inside _ _ c.args.self.now.holds c.loop-e.i c.loop-e.invariant.1 (item_of c.get_entry-e.result) c.get_entry-e.ensures in omega (arith, c.args.self.now.holds.short);
}

pub returns-then-not-is_ignored : goal.returns-then-not-is_ignored
returns-then-not-is_ignored c = found _ _ c.args.self.now.holds c.loop-e.i c.loop-e.invariant.1 (item_of c.get_entry-e.result) c.get_entry-e.ensures (sym c.is_ignored.ensures ∙ c.if-not-is_ignored.true) _ c.loop-e.invariant.0 c.loop-e.invariant.2 _ c.token_kind.ensures refl refl refl

pub loop-e-preserved : goal.loop-e-preserved
loop-e-preserved c =
    let p = passed _ _ c.args.self.now.holds c.loop-e.i c.loop-e.invariant.1 (item_of c.get_entry-e.result) c.get_entry-e.ensures (sym c.is_ignored.ensures ∙ c.if-not-is_ignored.false) in
    (omega (arith, c.loop-e.invariant.0), p.1, c.loop-e.invariant.2 ∙ p.0)
