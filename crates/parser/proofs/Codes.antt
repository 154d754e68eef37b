-- Each item code is a kind's or an error's. Assumes nothing.
use Prim.Native.Nat.{ℕ, ◌≤◌}
use mathlib.Core.Path.{◌≡◌, refl, sym, ◌∙◌}
use native.Mathlib.Omega.{arith}
use Rattle.std.specs.Prelude.{Result, Ok, Err, IsOk}
use Rattle.codes.specs.declared.UnknownNumber.{UnknownNumber}
use Rattle.codes.specs.declared.kind.Kind.{Kind}
use Rattle.codes.specs.declared.kind.Kind.TheVariants as kind
use Rattle.codes.specs.declared.fault.Fault.{Fault}
use Rattle.codes.specs.declared.fault.Fault.TheVariants as fault
use mathlib.Core.Bool.{Bool, true, false, ◌||◌}
use borrow.Author.Tests.{ne_eqb, le-leb, lt-leb, eqb-true, eqb-false}
use lib.Dec.{eqb}
use Rattle.base.specs.Text.{from}
use Rattle.syntax.specs.Token.{is_name}
use Rattle.parser.specs.declared.token.Word.{Word}
use Rattle.parser.specs.declared.token.Word.TheVariants as words
use Rattle.parser.specs.declared.token.TokenKind.{TokenKind}
use Rattle.parser.specs.declared.token.TokenKind.TheVariants as token
use Rattle.parser.specs.Kinds.{number_of}
use Rattle.codes.specs.declared.node.Node.{Node}
use Rattle.codes.specs.declared.node.Node.TheVariants as node
use Rattle.codes.specs.NodeNumbers as nodes
use Rattle.codes.specs.KindNumbers as kinds
use Rattle.codes.specs.FaultNumbers as faults

-- every number up to 21 is that of a kind
pub some_kind : (c : ℕ) → c ≤ 21 → ((k : Kind) → kinds.number_of k ≡ c → ⊥) → ⊥
some_kind c h f = omega (arith, f kind.Eof, f kind.Whitespace, f kind.Comment, f kind.Comma, f kind.Bang, f kind.Dollar, f kind.Amp, f kind.LParen, f kind.RParen, f kind.Spread, f kind.Colon, f kind.Eq, f kind.At, f kind.LBracket, f kind.RBracket, f kind.LCurly, f kind.Pipe, f kind.RCurly, f kind.Name, f kind.StringValue, f kind.Int, f kind.Float)

-- and every number from 1 to 18 that of an error
pub some_fault : (c : ℕ) → 1 ≤ c → c ≤ 18 → ((k : Fault) → faults.number_of k ≡ c → ⊥) → ⊥
some_fault c l h f = omega (arith, f fault.UnexpectedCharacter, f fault.SecondDigit, f fault.IntegerSuffix, f fault.NoFractionDigit, f fault.FloatSuffix, f fault.NoExponent, f fault.NoDigitAfterSign, f fault.MinusWithoutDigit, f fault.EndsInsideFloat, f fault.BadSpread, f fault.LoneQuote, f fault.UnterminatedString, f fault.LineTerminator, f fault.BadEscape, f fault.NonHex, f fault.QuoteInsideEscape, f fault.UnpairedSurrogate, f fault.BadBracedEscape)

-- no kind's is larger
pub kind_small : (k : Kind) → kinds.number_of k ≤ 21
kind_small kind.Eof = omega arith
kind_small kind.Whitespace = omega arith
kind_small kind.Comment = omega arith
kind_small kind.Comma = omega arith
kind_small kind.Bang = omega arith
kind_small kind.Dollar = omega arith
kind_small kind.Amp = omega arith
kind_small kind.LParen = omega arith
kind_small kind.RParen = omega arith
kind_small kind.Spread = omega arith
kind_small kind.Colon = omega arith
kind_small kind.Eq = omega arith
kind_small kind.At = omega arith
kind_small kind.LBracket = omega arith
kind_small kind.RBracket = omega arith
kind_small kind.LCurly = omega arith
kind_small kind.Pipe = omega arith
kind_small kind.RCurly = omega arith
kind_small kind.Name = omega arith
kind_small kind.StringValue = omega arith
kind_small kind.Int = omega arith
kind_small kind.Float = omega arith

-- so one of these numbers is found
pub ok_fault : (c : ℕ) → 1 ≤ c → c ≤ 18 → (r : Result Fault UnknownNumber) → faults.Names c r → IsOk r
ok_fault c l h (Ok x) n = refl
ok_fault c l h (Err e) n = absurd (some_fault c l h n)

-- an error's is above all these
pub error_large : (k : Fault) → 65 ≤ number_of (token.Error k)
error_large fault.UnexpectedCharacter = omega arith
error_large fault.SecondDigit = omega arith
error_large fault.IntegerSuffix = omega arith
error_large fault.NoFractionDigit = omega arith
error_large fault.FloatSuffix = omega arith
error_large fault.NoExponent = omega arith
error_large fault.NoDigitAfterSign = omega arith
error_large fault.MinusWithoutDigit = omega arith
error_large fault.EndsInsideFloat = omega arith
error_large fault.BadSpread = omega arith
error_large fault.LoneQuote = omega arith
error_large fault.UnterminatedString = omega arith
error_large fault.LineTerminator = omega arith
error_large fault.BadEscape = omega arith
error_large fault.NonHex = omega arith
error_large fault.QuoteInsideEscape = omega arith
error_large fault.UnpairedSurrogate = omega arith
error_large fault.BadBracedEscape = omega arith

-- what is no word has no word's number
pub no_word : (k : TokenKind) → ((w : Word) → k ≡ token.Word w → ⊥) → (from 22 25 (number_of k) ≡ false) × (eqb (number_of k) 25 ≡ false)
no_word (token.Kind k) f = let s = kind_small k in (rw (lt-leb 22 (kinds.number_of k) (omega arith)), ne_eqb _ _ (λ e. omega arith))
no_word (token.Word w) f = absurd (f w refl)
no_word (token.Error e) f = let s = error_large e in (rw (le-leb 22 (number_of (token.Error e)) (omega arith), lt-leb (number_of (token.Error e)) 25 (omega arith)), ne_eqb _ _ (λ z. omega arith))

-- the words
pub word_name : (w : Word) → true ≡ is_name (number_of (token.Word w))
unfolding is_name
word_name words.True = refl
word_name words.False = refl
word_name words.Null = refl
word_name words.On = refl

pub or_none : (p : Bool) → p || false ≡ p
or_none true = refl
or_none false = refl

-- what a test of the kind tells
pub is_yes : {r : Bool} {n m : ℕ} → r ≡ eqb n m → r ≡ true → n ≡ m
is_yes {n = n} {m = m} e h = eqb-true n m (sym e ∙ h)

pub is_no : {r : Bool} {n m : ℕ} → r ≡ eqb n m → r ≡ false → n ≡ m → ⊥
is_no {n = n} {m = m} e h = eqb-false n m (sym e ∙ h)

-- no node's number is 0
pub node_some : (n : Node) → nodes.number_of n ≡ 0 → ⊥
node_some node.Name e = absurd (omega arith)
node_some node.IntValue e = absurd (omega arith)
node_some node.FloatValue e = absurd (omega arith)
node_some node.StringValue e = absurd (omega arith)
node_some node.BooleanValue e = absurd (omega arith)
node_some node.NullValue e = absurd (omega arith)
node_some node.EnumValue e = absurd (omega arith)
node_some node.ListValue e = absurd (omega arith)
node_some node.ObjectValue e = absurd (omega arith)
node_some node.ObjectField e = absurd (omega arith)
node_some node.Variable e = absurd (omega arith)
node_some node.NamedType e = absurd (omega arith)
node_some node.ListType e = absurd (omega arith)
node_some node.NonNullType e = absurd (omega arith)
node_some node.SelectionSet e = absurd (omega arith)
node_some node.Field e = absurd (omega arith)
node_some node.Alias e = absurd (omega arith)
node_some node.Arguments e = absurd (omega arith)
node_some node.Argument e = absurd (omega arith)
node_some node.Directives e = absurd (omega arith)
node_some node.Directive e = absurd (omega arith)
node_some node.FragmentSpread e = absurd (omega arith)
node_some node.FragmentName e = absurd (omega arith)
node_some node.InlineFragment e = absurd (omega arith)
node_some node.TypeCondition e = absurd (omega arith)
