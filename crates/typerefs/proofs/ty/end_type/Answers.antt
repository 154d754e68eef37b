-- `end_type` meets its contract. Assumes nothing.
use mathlib.Core.Path.{refl, sym, ◌∙◌}
use native.Mathlib.Omega.{arith}
use Rattle.parser.specs.View.{rest, token_of}
use Rattle.parser.proofs.Codes.{is_yes}
use Rattle.typerefs.specs.Walk.{banged, bare}
use Rattle.typerefs.proofs.ty.end_type.Goals as goal

pub returns-then-not-follows : goal.returns-then-not-follows
returns-then-not-follows c = bare (token_of c.args.token) (rest c.args.tokens.now.text.now c.args.token.next) c.requires.first (sym c.is-follows.ensures ∙ c.if-not-follows.true) refl refl

pub returns : goal.returns
returns c =
    banged (token_of c.args.token) (rw c.reached.ensures.next c.requires.first) (sym c.is-follows.ensures ∙ c.if-not-follows.false) c.reached.ensures.end
    (rw c.reached.ensures.next (c.requires.inside (λ z. let k = is_yes c.is-follows.ensures c.if-not-follows.false in omega (arith, z, k)))) c.close_with.ensures
