-- An item as what is found: a token or an error, with its code and its size. Assumes nothing.
use Prim.Native.Nat.{ℕ, ◌+◌, ◌-◌, ◌<◌}
use mathlib.Core.Path.{◌≡◌}
use native.Mathlib.Omega.{arith}
use borrow.Author.Tests.{lt-ltb, le-ltb, ltb-false}
use lib.Dec.{ltb}
use Rattle.codes.specs.declared.kind.Kind.{Kind}
use Rattle.codes.specs.KindNumbers.{number_of}
use Rattle.codes.proofs.KindLaws.{kind_below}
use Rattle.base.specs.Item.{Lexeme, lexeme}
use Rattle.base.proofs.Tests.{by}
use Rattle.base.specs.declared.lexed.Lexed.TheVariants.{Token, Error}
use Rattle.base.specs.Lexed.{lexed_of, code_of, size_of}

pub token_lexed : (k n : ℕ) → k < 64 → Token k n ≡ lexed_of (lexeme k n)
unfolding lexed_of
token_lexed k n h = rw (lt-ltb k 64 h)

pub kind_lexed : (k : Kind) (n : ℕ) → Token (number_of k) n ≡ lexed_of (lexeme (number_of k) n)
kind_lexed k n = token_lexed (number_of k) n (kind_below k)

pub error_lexed : (f n : ℕ) → Error f n ≡ lexed_of (lexeme (64 + f) n)
unfolding lexed_of
error_lexed f n =
    let b : 64 + f - 64 ≡ f = omega arith in
    rw (le-ltb (64 + f) 64 (omega arith), b)

pub code_lexed : (x : Lexeme) → code_of (lexed_of x) ≡ x.code
unfolding lexed_of
code_lexed x = by (ltb x.code 64) (λ e. rw e) (λ e. let h = ltb-false x.code 64 e in rw e (omega arith))

pub size_lexed : (x : Lexeme) → size_of (lexed_of x) ≡ x.size
unfolding lexed_of
size_lexed x = by (ltb x.code 64) (λ e. rw e) (λ e. rw e)
