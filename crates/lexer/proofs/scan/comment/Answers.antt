-- `lexer::scan::comment` meets its contract. Assumes nothing.
use mathlib.Core.Path.{sym, ap, ◌∙◌}
use Prim.Native.Nat.{ℕ, ◌+◌}
use native.Mathlib.Omega.{arith}
use Rattle.base.specs.Item.{lexeme}
use Rattle.base.specs.Lexed.{lexed_of}
use Rattle.rules.specs.Classes.{not_line_end}
use Rattle.lexer.proofs.Fronts.{comment_item, tail_run, tail_fits}
use Rattle.lexer.proofs.scan.comment.Goals as goal

pub overflow_add-line_run : goal.overflow_add-line_run
overflow_add-line_run c = omega (arith, tail_fits not_line_end c.args.rest.now c.line_run.result c.requires.rest_nonzero c.line_run.ensures)

pub returns : goal.returns
unfolding lexed_of
returns c =
    c.token.ensures
    ∙ ap (λ (n : ℕ). lexed_of (lexeme 2 (1 + n))) (tail_run not_line_end c.args.rest.now c.line_run.result c.requires.rest_nonzero c.line_run.ensures)
    ∙ sym (ap lexed_of (comment_item c.args.rest.now c.requires.rest_nonzero c.requires.rest_value))
