-- `lexer::scan::ident` meets its contract. Assumes nothing.
use mathlib.Core.Path.{sym, ap, ◌∙◌}
use Prim.Native.Nat.{ℕ, ◌+◌}
use native.Mathlib.Omega.{arith}
use Rattle.base.specs.Item.{lexeme}
use Rattle.base.specs.Lexed.{lexed_of}
use Rattle.rules.specs.Classes.{name_continue}
use Rattle.lexer.proofs.Fronts.{name_item, tail_run, tail_fits}
use Rattle.lexer.proofs.scan.ident.Goals as goal

pub overflow_add-name_run : goal.overflow_add-name_run
overflow_add-name_run c = omega (arith, tail_fits name_continue c.args.rest.now c.name_run.result c.requires.rest_nonzero c.name_run.ensures)

pub returns : goal.returns
unfolding lexed_of
returns c =
    c.token.ensures
    ∙ ap (λ (n : ℕ). lexed_of (lexeme 18 (1 + n))) (tail_run name_continue c.args.rest.now c.name_run.result c.requires.rest_nonzero c.name_run.ensures)
    ∙ sym (ap lexed_of (name_item c.args.rest.now c.requires.rest_nonzero c.requires.rest_value))
