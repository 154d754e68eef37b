-- `literal_node` meets its contract. Assumes nothing.
use mathlib.Core.Path.{◌≡◌, refl}
use Rattle.codes.specs.declared.kind.Kind.{Kind}
use Rattle.codes.specs.declared.kind.Kind.TheVariants as the
use Rattle.codes.specs.KindNumbers.{number_of}
use Rattle.values.specs.Scalars.{scalar_node}
use Rattle.values.proofs.value.literal_node.Goals as goal

no_literal : (k : Kind) → (k ≡ the.Int → ⊥) → (k ≡ the.Float → ⊥) → (k ≡ the.StringValue → ⊥) → scalar_node (number_of k) ≡ 0
unfolding scalar_node
no_literal the.Eof i f s = refl
no_literal the.Whitespace i f s = refl
no_literal the.Comment i f s = refl
no_literal the.Comma i f s = refl
no_literal the.Bang i f s = refl
no_literal the.Dollar i f s = refl
no_literal the.Amp i f s = refl
no_literal the.LParen i f s = refl
no_literal the.RParen i f s = refl
no_literal the.Spread i f s = refl
no_literal the.Colon i f s = refl
no_literal the.Eq i f s = refl
no_literal the.At i f s = refl
no_literal the.LBracket i f s = refl
no_literal the.RBracket i f s = refl
no_literal the.LCurly i f s = refl
no_literal the.Pipe i f s = refl
no_literal the.RCurly i f s = refl
no_literal the.Name i f s = refl
no_literal the.StringValue i f s = absurd (s refl)
no_literal the.Int i f s = absurd (i refl)
no_literal the.Float i f s = absurd (f refl)

pub returns-in-Int : goal.returns-in-Int
unfolding scalar_node
returns-in-Int c = rw c.in-Int.is refl

pub returns-in-Float : goal.returns-in-Float
unfolding scalar_node
returns-in-Float c = rw c.in-Float.is refl

pub returns-in-StringValue : goal.returns-in-StringValue
unfolding scalar_node
returns-in-StringValue c = rw c.in-StringValue.is refl

pub returns-in_default : goal.returns-in_default
returns-in_default c = no_literal c.args.kind c.in_default.not-Int c.in_default.not-Float c.in_default.not-StringValue
