-- `lexer::scan::spread_operator` meets its contract: each test on the dots. Assumes nothing.
use mathlib.Core.Path.{sym, ap, ◌∙◌}
use borrow.Author.Rules.{rules}
use Prim.Native.Nat.{ℕ, ◌+◌}
use native.Mathlib.Omega.{arith}
use lib.ListN.{drop, length-drop}
use Rattle.base.specs.Item.{lexeme}
use Rattle.base.specs.Lexed.{lexed_of}
use Rattle.utf8.proofs.Characters.{size_le}
use Rattle.lexer.proofs.Fronts.{one_dot_lem, two_dots_lem, three_dots, tail_size}
use Rattle.lexer.proofs.scan.spread_operator.Goals as goal

pub overflow_add-size_at : goal.overflow_add-size_at
overflow_add-size_at c = let l = size_le (drop 1 c.args.rest.now) in
    let d = length-drop 1 c.args.rest.now in
    omega (arith, tail_size c.args.rest.now c.size_at.result c.requires.rest_nonzero c.size_at.ensures)

pub returns-in-46-eq46 : goal.returns-in-46-eq46
unfolding lexed_of
returns-in-46-eq46 c =
    c.token.ensures
    ∙ sym (ap lexed_of (three_dots c.args.rest.now c.requires.rest_value (sym c.byte_at.ensures ∙ c.in-46-eq46.is-0) (sym c.byte_at-2.ensures ∙ c.in-46-eq46.is-1)))

pub returns-in-46-default : goal.returns-in-46-default
unfolding lexed_of
returns-in-46-default c =
    c.error.ensures ∙ sym (ap lexed_of (two_dots_lem c.args.rest.now c.requires.rest_value (sym c.byte_at.ensures ∙ c.in-46-default.is-0) (search rules)))

pub returns-in_default : goal.returns-in_default
unfolding lexed_of
returns-in_default c =
    c.error-in_default.ensures
    ∙ ap (λ (n : ℕ). lexed_of (lexeme 74 (1 + n))) (tail_size c.args.rest.now c.size_at.result c.requires.rest_nonzero c.size_at.ensures)
    ∙ sym (ap lexed_of (one_dot_lem c.args.rest.now c.requires.rest_nonzero c.requires.rest_value (search rules)))
