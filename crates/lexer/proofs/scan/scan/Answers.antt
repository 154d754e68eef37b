-- `lexer::scan::scan` meets its contract: the class of the first byte tells which scanner. Assumes nothing.
use mathlib.Core.Logic.{inl, inr}
use mathlib.Core.Path.{sym, ap, ◌∙◌}
use native.Mathlib.Omega.{arith}
use borrow.Author.Rules.{rules}
use Rattle.codes.proofs.KindLaws.{kind_mark}
use Rattle.lookup.proofs.Classes.{class_name, class_quote, class_hash, class_dot, class_number}
use Rattle.base.specs.Lexed.{lexed_of}
use Rattle.lexer.proofs.Blanks.{blank_one}
use Rattle.lexer.proofs.Fronts.{eof_item_lem, punctuator_item}
use Rattle.base.proofs.Found.{kind_lexed}
use Rattle.lexer.proofs.scan.scan.Goals as goal

pub returns-then-at_end : goal.returns-then-at_end
unfolding lexed_of
returns-then-at_end c = c.token.ensures ∙ sym (ap lexed_of (eof_item_lem c.args.rest.now (search rules)))

pub ident-requires-clause-rest_value : goal.ident-requires-clause-rest_value
ident-requires-clause-rest_value c = class_name _ (sym c.in-Name.ensures)

pub whitespace-requires : goal.whitespace-requires
whitespace-requires c = let e = blank_one c.args.rest.now (sym c.in-Whitespace.ensures) in omega arith

pub string-requires-clause-rest_value : goal.string-requires-clause-rest_value
string-requires-clause-rest_value c = class_quote _ (sym c.in-StringValue.ensures)

pub comment-requires-clause-rest_value : goal.comment-requires-clause-rest_value
comment-requires-clause-rest_value c = class_hash _ (sym c.in-Comment.ensures)

pub spread_operator-requires-clause-rest_value : goal.spread_operator-requires-clause-rest_value
spread_operator-requires-clause-rest_value c = class_dot _ (sym c.in-Spread.ensures)

pub number-requires-clause-rest_value : goal.number-requires-clause-rest_value
number-requires-clause-rest_value c =
    elim c.in-Int.is [
      | inl e ↦ class_number _ 20 (sym (rw e at c.class.ensures)) (omega arith)
      | inr e ↦ class_number _ 21 (sym (rw e at c.class.ensures)) (omega arith)
    ]

-- what is left is a punctuator's
pub returns-in_default : goal.returns-in_default
returns-in_default c =
    let d = c.in_default in
    let m = kind_mark _ d.not-Eof d.not-Whitespace d.not-Comment d.not-Spread d.not-Name d.not-StringValue d.not-Int d.not-Float in
    c.token-in_default.ensures ∙ kind_lexed _ 1 ∙ sym (ap lexed_of (punctuator_item c.args.rest.now _ (search rules) (sym c.class.ensures) m.0 m.1 m.2))
