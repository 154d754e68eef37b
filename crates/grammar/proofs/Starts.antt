-- What the entries' functions promise, as readings from the first token on. Assumes nothing.
use Prim.Native.Nat.{ℕ, ◌<◌}
use mathlib.Core.Path.{◌≡◌, refl, ap, ◌∙◌}
use mathlib.Core.Bool.{Bool, true, false}
use mathlib.Core.List.{List, [], ◌∷◌, append-nil}
use native.Mathlib.Omega.{arith}
use lib.Dec.{eqb}
use lib.ListN.{length}
use Rattle.base.specs.Item.{Item}
use Rattle.base.proofs.Tests.{by}
use Rattle.rules.specs.Items.{items}
use Rattle.rules.proofs.Tiling.{eof_position}
use Rattle.syntax.specs.Token.{eof, Token}
use Rattle.syntax.specs.Words.{tokens}
use Rattle.syntax.specs.Machine.{Read, value, selection_set, step, refused, emits, run, read_selection_set}
use Rattle.syntax.specs.TypeReading.{TypeRead, typed, untyped, whole_type, read_type}
use Rattle.std.specs.Prelude.{Result}
use Rattle.codes.specs.declared.refusal.Refused.{Refused}
use Rattle.parser.specs.declared.token.Reached.{Reached}
use Rattle.parser.specs.declared.events.Events.{Events}
use Rattle.parser.specs.View.{rest}
use Rattle.parser.specs.Promise.{Ready, Outcome, took, Goes, went}
use Rattle.parser.specs.Promise as outcome
use Rattle.typerefs.specs.Promise.{TypeOutcome, given, withheld}
use Rattle.grammar.specs.declared.Entry.{Entry}
use Rattle.grammar.specs.declared.Entry.TheVariants.{Value, Constant, Ty, SelectionSet}
use Rattle.grammar.specs.Answers.{read_of}
use Rattle.grammar.specs.Promise.{Begins, reads}
use Rattle.grammar.specs.Promise as promise

-- where nothing but Eof is due, it is all the same what may be constant
end_run : (c : Bool) (l : ℕ) (ts : List Token) → run c [] l ts ≡ run false [] l ts
unfolding run step
end_run c l [] = refl
end_run c l (t ∷ ts) = by (eqb t.kind eof) (λ e. rw e) (λ e. rw e)

-- a type, and then Eof
end_type : (es : List Item) (l : ℕ) (ts : List Token) → whole_type (typed es l ts) ≡ emits es (run false [] l ts)
unfolding whole_type run step
end_type es l [] = refl
end_type es l (t ∷ ts) = by (eqb t.kind eof) (λ e. rw (e, append-nil)) (λ e. rw e)

untyped_whole : {x : TypeRead} {n p : ℕ} → x ≡ untyped n p → whole_type x ≡ refused n p
unfolding whole_type
untyped_whole e = rw e

abbrev pub start : Reached
start = record { next = 0; end = 0 }

from_value : {t : List ℕ} {old new : Events} {r : Result Reached Refused} (c : Bool) (d : ℕ) → Outcome c t (value d ∷ []) [] old new start r
    → Begins (run c (value d ∷ []) 0 (tokens t)) t old new r
unfolding rest
from_value {t} c d (took {to = to} h) = reads h.went.events h.went.wrote h.went.ready.inside (h.went.same [] ∙ rw (end_run c to.end (rest t to.next)))
from_value c d (outcome.stopped h) = promise.Begins.refuses h.same h.kept (h.refuses [])

from_set : {t : List ℕ} {old new : Events} {r : Result Reached Refused} (d : ℕ) → Goes false t (selection_set d ∷ []) [] old new start r
    → Begins (read_selection_set d (tokens t)) t old new r
unfolding rest
from_set d (went h) = reads h.events h.wrote h.ready.inside (h.same [])
from_set d (outcome.Goes.stopped h) = promise.Begins.refuses h.same h.kept (h.refuses [])

from_type : {t : List ℕ} {old new : Events} {r : Result Reached Refused} (d : ℕ) → TypeOutcome t d 0 old new r → Begins (read_type d (tokens t)) t old new r
unfolding rest
from_type {t} d (given {to = to} es h w i) = reads es w i (ap whole_type h ∙ end_type es to.end (rest t to.next))
from_type d (withheld s k h) = promise.Begins.refuses s k (untyped_whole h)

-- ---- by entry

-- there is a first item: Eof, if no other
pub some_item : (t : List ℕ) → 0 < length (items t)
some_item t = let h = eof_position t in omega arith

-- so reading can begin there
pub ready_start : (t : List ℕ) → Ready t start
ready_start t = record { inside = some_item t; fits = omega arith }

module _ {t : List ℕ} {old new : Events} {r : Result Reached Refused} (e : Entry) (d : ℕ) where
  pub by_value : e ≡ Value → Outcome false t (value d ∷ []) [] old new start r → Begins (read_of e d (tokens t)) t old new r
  unfolding read_of
  by_value q h = rw q (from_value false d h)

  pub by_constant : e ≡ Constant → Outcome true t (value d ∷ []) [] old new start r → Begins (read_of e d (tokens t)) t old new r
  unfolding read_of
  by_constant q h = rw q (from_value true d h)

  pub by_type : e ≡ Ty → TypeOutcome t d 0 old new r → Begins (read_of e d (tokens t)) t old new r
  unfolding read_of
  by_type q h = rw q (from_type d h)

  pub by_set : e ≡ SelectionSet → Goes false t (selection_set d ∷ []) [] old new start r → Begins (read_of e d (tokens t)) t old new r
  unfolding read_of
  by_set q h = rw q (from_set d h)

-- the event tape is the same one
pub same_tape : {read : Read} {t : List ℕ} {old new : Events} {r : Result Reached Refused} → Begins read t old new r → new.tape.ghost_name ≡ old.tape.ghost_name
same_tape (reads es w i h) = w.same
same_tape (promise.Begins.refuses s k h) = s
