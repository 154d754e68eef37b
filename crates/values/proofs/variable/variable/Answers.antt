-- `values::variable::variable` meets its contract: the `$`, a Name, and the node closes. Assumes nothing.
use mathlib.Core.Bool.{false}
use native.Mathlib.Omega.{arith}
use mathlib.Core.List.{[], ◌∷◌}
use Rattle.std.proofs.lemmas.Result.{err_from_is_err_and}
use Rattle.syntax.specs.Machine.{value, name, close}
use Rattle.parser.specs.View.{token_of}
use Rattle.parser.specs.Promise.{took, stopped}
use Rattle.parser.proofs.Moves.{narrow_end, took_one, took_to, took_closed, ok_took, err_stopped, then, above}
use Rattle.values.proofs.Steps.{at_variable}
use Rattle.values.proofs.variable.variable.Goals as goal

pub close-requires : goal.close-requires
close-requires c = narrow_end (ok_took (c.in_ok-named.ensures false)).went.ready c.args.tokens.now.holds.short

pub returns-in_err-named : goal.returns-in_err-named
returns-in_err-named c =
    let p = err_from_is_err_and c.from_residual.result c.from_residual.ensures.1 in
    rw (p.1, p.2) (λ from d F. then (took_to c.args.token (took_one false _ from c.args.token F (value d ∷ []) (name ∷ close 11 c.args.token.start ∷ []) (λ K. at_variable from.end d (token_of c.args.token) K c.requires.kind_value) (λ z. omega (arith, z, c.requires.kind_value)) c.open_with.ensures) _ c.reached.ensures.next c.reached.ensures.end) (stopped (err_stopped (above (close 11 c.args.token.start ∷ []) (c.in_err-named.ensures false)))))

pub returns : goal.returns
returns c = λ from d F. took (took_closed (ok_took (then (took_to c.args.token (took_one false _ from c.args.token F (value d ∷ []) (name ∷ close 11 c.args.token.start ∷ []) (λ K. at_variable from.end d (token_of c.args.token) K c.requires.kind_value) (λ z. omega (arith, z, c.requires.kind_value)) c.open_with.ensures) _ c.reached.ensures.next c.reached.ensures.end) (above (close 11 c.args.token.start ∷ []) (c.in_ok-named.ensures false)))) c.close.ensures)
