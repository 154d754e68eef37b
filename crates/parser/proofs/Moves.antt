-- Readings put together: one token, one reading after another, a reading with more due below it, and a node that closes. Assumes nothing.
use Prim.Native.Nat.{ℕ, ◌+◌, ◌^◌, ◌≤◌, ◌<◌}
use mathlib.Core.Path.{ap₂, ◌≡◌, refl, sym, ◌∙◌}
use mathlib.Core.Bool.{Bool}
use mathlib.Core.List.{List, [], ◌∷◌, ◌++◌, append_assoc}
use lib.ListN.{length}
use native.Mathlib.Omega.{arith}
use Rattle.std.specs.Prelude.{Result, Ok, Err}
use Rattle.base.specs.Item.{Item}
use Rattle.codes.specs.RefusalNumbers.{number_of}
use Rattle.codes.specs.declared.refusal.Refused.{Refused}
use Rattle.syntax.specs.Token.{closes}
use Rattle.syntax.specs.Machine.{Sym, close, go, stop, step, moved, emits, run}
use Rattle.syntax.proofs.Steps.{emits_emits, emits_none, run_close}
use Rattle.parser.specs.declared.token.Peeked.{Peeked}
use Rattle.parser.specs.declared.token.Reached.{Reached}
use Rattle.parser.specs.declared.events.Events.{Events}
use Rattle.parser.specs.View.{behind, rest, token_of, Front}
use Rattle.parser.specs.Events.{Wrote}
use Rattle.parser.specs.Promise.{Ready, reads, Went, Took, Stopped, Outcome, took, stopped, Goes}
use Rattle.parser.specs.Promise as promise
use Rattle.parser.proofs.Writing.{wrote_none, wrote_then}

-- item number `at`, where the last token ended at l
abbrev pub from_item : (at l : ℕ) → Reached
from_item at l = record { next = at; end = l }

-- the token p stands there
module _ (c : Bool) (t : List ℕ) (from : Reached) (p : Peeked) (F : Front t from.next p) where
  pub run_at : (S : List Sym) → reads c t S from ≡ moved (step c from.end S (token_of p)) p.start (λ K. reads c t K (behind p))
  unfolding run
  run_at S = rw F.first

  -- unless it is Eof, reading goes on behind it
  pub ready_behind : ((token_of p).kind ≡ 0 → ⊥) → Ready t (behind p)
  ready_behind n = record { inside = F.inside n; fits = F.fits }

  pub took_one : {old new : Events} (due left : List Sym) {es : List Item} → ((K : List Sym) → step c from.end (due ++ K) (token_of p) ≡ go es (left ++ K))
      → ((token_of p).kind ≡ 0 → ⊥) → Wrote old new es → Took c t due left old new from (behind p)
  took_one due left {es} m n w = record {
    went = record {
      events = es;
      wrote = w;
      onward = let a = F.ahead in omega arith;
      ready = ready_behind n;
      same = λ K. run_at (due ++ K) ∙ rw (m K);
    };
    ahead = F.ahead;
  }

  pub stop_one : {old : Events} (due : List Sym) (r : Refused) → ((K : List Sym) → step c from.end (due ++ K) (token_of p) ≡ stop (number_of r.refusal)) → r.place ≡ p.start
      → Stopped c t due old old from r
  stop_one due r m e = record { same = refl; kept = refl; refuses = λ K. run_at (due ++ K) ∙ rw (m K, e) }

module _ {c : Bool} {t : List ℕ} where
  -- one reading, and then another
  pub went_then : {due mid left : List Sym} {a b d : Events} {from at to : Reached} → Went c t due mid a b from at → Went c t mid left b d at to
      → Went c t due left a d from to
  went_then {left = left} {to = to} p q = record {
    events = p.events ++ q.events;
    wrote = wrote_then p.wrote q.wrote;
    onward = let x = p.onward in let y = q.onward in omega arith;
    ready = q.ready;
    same = λ K. p.same K ∙ rw (q.same K) (emits_emits p.events q.events (reads c t (left ++ K) to));
  }

  pub took_went : {due mid left : List Sym} {a b d : Events} {from at to : Reached} → Took c t due mid a b from at → Went c t mid left b d at to
      → Took c t due left a d from to
  took_went p q = record { went = went_then p.went q; ahead = let x = p.ahead in let y = q.onward in omega arith }

  pub went_took : {due mid left : List Sym} {a b d : Events} {from at to : Reached} → Went c t due mid a b from at → Took c t mid left b d at to
      → Took c t due left a d from to
  went_took p q = record { went = went_then p q.went; ahead = let x = p.onward in let y = q.ahead in omega arith }

  pub stopped_then : {due mid : List Sym} {a b d : Events} {from at : Reached} {r : Refused} → Went c t due mid a b from at → Stopped c t mid b d at r
      → Stopped c t due a d from r
  stopped_then p q = record {
    same = q.same ∙ p.wrote.same;
    kept = q.kept ∙ p.wrote.puts.kept;
    refuses = λ K. p.same K ∙ rw (q.refuses K);
  }

  -- the same reading, with X due below
  pub went_above : {due left : List Sym} {a b : Events} {from to : Reached} (X : List Sym) → Went c t due left a b from to
      → Went c t (due ++ X) (left ++ X) a b from to
  went_above {due} {left} X p = record {
    events = p.events;
    wrote = p.wrote;
    onward = p.onward;
    ready = p.ready;
    same = λ K. rw (append_assoc due X K, append_assoc left X K) (p.same (X ++ K));
  }

  pub took_above : {due left : List Sym} {a b : Events} {from to : Reached} (X : List Sym) → Took c t due left a b from to
      → Took c t (due ++ X) (left ++ X) a b from to
  took_above X p = record { went = went_above X p.went; ahead = p.ahead }

  pub stopped_above : {due : List Sym} {a b : Events} {from : Reached} {r : Refused} (X : List Sym) → Stopped c t due a b from r
      → Stopped c t (due ++ X) a b from r
  stopped_above {due} X p = record { same = p.same; kept = p.kept; refuses = λ K. rw (append_assoc due X K) (p.refuses (X ++ K)) }

  -- a reading after which a node closes
  pub went_closed : {due left : List Sym} {a b d : Events} {from to : Reached} {code start : ℕ} → Went c t due (close code start ∷ left) a b from to
      → Wrote b d (closes code start to.end ∷ []) → Went c t due left a d from to
  went_closed {left = left} {to = to} {code} {start} p w = record {
    events = p.events ++ (closes code start to.end ∷ []);
    wrote = wrote_then p.wrote w;
    onward = p.onward;
    ready = p.ready;
    same = λ K. p.same K ∙ rw (run_close c code start to.end (left ++ K) (rest t to.next)) (emits_emits p.events (closes code start to.end ∷ []) (reads c t (left ++ K) to));
  }

  pub took_closed : {due left : List Sym} {a b d : Events} {from to : Reached} {code start : ℕ} → Took c t due (close code start ∷ left) a b from to
      → Wrote b d (closes code start to.end ∷ []) → Took c t due left a d from to
  took_closed p w = record { went = went_closed p.went w; ahead = p.ahead }

  -- events come first, and no token is needed for them
  pub went_first : {due left : List Sym} {a b : Events} {from : Reached} {es : List Item} → Ready t from → Wrote a b es
      → ((K : List Sym) → reads c t (due ++ K) from ≡ emits es (reads c t (left ++ K) from)) → Went c t due left a b from from
  went_first {es = es} R w f = record { events = es; wrote = w; onward = omega arith; ready = R; same = f }

  -- nothing is needed
  pub went_nothing : {due left : List Sym} {a : Events} {from : Reached} → Ready t from → ((K : List Sym) → reads c t (due ++ K) from ≡ reads c t (left ++ K) from)
      → Went c t due left a a from from
  went_nothing {left = left} {a} {from} R f = went_first R (wrote_none a) (λ K. f K ∙ sym (emits_none (reads c t (left ++ K) from)))

  -- where something else is due that is read the same there
  pub went_same : {due left : List Sym} {a b : Events} {from to : Reached} (due' : List Sym) → ((K : List Sym) → reads c t (due' ++ K) from ≡ reads c t (due ++ K) from)
      → Went c t due left a b from to → Went c t due' left a b from to
  went_same due' f p = record { events = p.events; wrote = p.wrote; onward = p.onward; ready = p.ready; same = λ K. f K ∙ p.same K }

  pub took_same : {due left : List Sym} {a b : Events} {from to : Reached} (due' : List Sym) → ((K : List Sym) → reads c t (due' ++ K) from ≡ reads c t (due ++ K) from)
      → Took c t due left a b from to → Took c t due' left a b from to
  took_same due' f p = record { went = went_same due' f p.went; ahead = p.ahead }

  pub stopped_same : {due : List Sym} {a b : Events} {from : Reached} {r : Refused} (due' : List Sym) → ((K : List Sym) → reads c t (due' ++ K) from ≡ reads c t (due ++ K) from)
      → Stopped c t due a b from r → Stopped c t due' a b from r
  stopped_same due' f p = record { same = p.same; kept = p.kept; refuses = λ K. f K ∙ p.refuses K }

  -- what an outcome is, by its case
  pub was_ok : {due left : List Sym} {a b : Events} {from : Reached} {r : Result Reached Refused} → Outcome c t due left a b from r → {to : Reached} → r ≡ Ok to
      → Took c t due left a b from to
  was_ok (took {to = x} h) {to} q = let e : x ≡ to = cc in rw e at h
  was_ok (stopped h) q = absurd cc

  pub was_err : {due left : List Sym} {a b : Events} {from : Reached} {r : Result Reached Refused} → Outcome c t due left a b from r → {by : Refused} → r ≡ Err by
      → Stopped c t due a b from by
  was_err (took h) q = absurd cc
  was_err (stopped {by = x} h) {by} q = let e : x ≡ by = cc in rw e at h

  pub gone_ok : {due left : List Sym} {a b : Events} {from : Reached} {r : Result Reached Refused} → Goes c t due left a b from r → {to : Reached} → r ≡ Ok to
      → Went c t due left a b from to
  gone_ok (promise.went {to = x} h) {to} q = let e : x ≡ to = cc in rw e at h
  gone_ok (promise.Goes.stopped h) q = absurd cc

  pub gone_err : {due left : List Sym} {a b : Events} {from : Reached} {r : Result Reached Refused} → Goes c t due left a b from r → {by : Refused} → r ≡ Err by
      → Stopped c t due a b from by
  gone_err (promise.went h) q = absurd cc
  gone_err (promise.Goes.stopped {by = x} h) {by} q = let e : x ≡ by = cc in rw e at h

-- ---- loops: what was read since the loop began, with `due` still due: nothing yet, or some

pub data Passed (c : Bool) (t : List ℕ) (due : List Sym) (old : Events) (from : Reached) : Events → Reached → Type 0 where
  begun : Passed c t due old from old from
  some : {new : Events} {to : Reached} → Took c t due due old new from to → Passed c t due old from new to

-- after the loop, what is still due is read, or refused
module _ {c : Bool} {t : List ℕ} where
  pub passed_took : {due left : List Sym} {a b d : Events} {from at to : Reached} → Passed c t due a from b at → Took c t due left b d at to → Took c t due left a d from to
  passed_took begun h = h
  passed_took (some p) h = took_went p h.went

  pub passed_stopped : {due : List Sym} {a b d : Events} {from at : Reached} {r : Refused} → Passed c t due a from b at → Stopped c t due b d at r → Stopped c t due a d from r
  passed_stopped begun h = h
  passed_stopped (some p) h = stopped_then p.went h

  -- one turn more
  pub passed_more : {due : List Sym} {a b d : Events} {from at to : Reached} → Passed c t due a from b at → Took c t due due b d at to → Passed c t due a from d to
  passed_more p h = some (passed_took p h)

  -- what comes back is how far reading has come with p
  pub took_to : {due left : List Sym} {a b : Events} {from : Reached} (p : Peeked) → Took c t due left a b from (behind p) → (x : Reached) → x.next ≡ p.next
      → x.end ≡ p.start + p.size → Took c t due left a b from x
  took_to p h x n e =
      let q : behind p ≡ x = sym (ap₂ (λ i j. from_item i j) n e) in
      rw q at h

  -- what comes back of a reading, by its case
  pub ok_took : {due left : List Sym} {a b : Events} {from to : Reached} → Outcome c t due left a b from (Ok to) → Took c t due left a b from to
  ok_took h = was_ok h refl

  pub err_stopped : {due left : List Sym} {a b : Events} {from : Reached} {r : Refused} → Outcome c t due left a b from (Err r) → Stopped c t due a b from r
  err_stopped h = was_err h refl

  -- a reading, and then another that answers
  pub then : {due mid left : List Sym} {a b d : Events} {from at : Reached} {r : Result Reached Refused} → Took c t due mid a b from at → Outcome c t mid left b d at r
      → Outcome c t due left a d from r
  then p (took q) = took (took_went p q.went)
  then p (stopped q) = stopped (stopped_then p.went q)

  pub above : {due left : List Sym} {a b : Events} {from : Reached} {r : Result Reached Refused} (X : List Sym) → Outcome c t due left a b from r
      → Outcome c t (due ++ X) (left ++ X) a b from r
  above X (took p) = took (took_above X p)
  above X (stopped p) = stopped (stopped_above X p)

-- a byte at which reading has come to an end is narrow
pub narrow_end : {t : List ℕ} {at : Reached} → Ready t at → length t ≤ 16777216 → at.end < 2 ^ 28
narrow_end h s = let f = h.fits in omega arith

-- where reading has come behind p is inside again
pub ready_at : {t : List ℕ} (p : Peeked) → Ready t (behind p) → (x : Reached) → x.next ≡ p.next → x.end ≡ p.start + p.size → Ready t x
ready_at p h x n e = record { inside = rw n h.inside; fits = rw e h.fits }

module _ {c : Bool} {t : List ℕ} where
  -- what comes back where it may be that no token was needed
  pub goes_went : {due left : List Sym} {a b : Events} {from to : Reached} → Goes c t due left a b from (Ok to) → Went c t due left a b from to
  goes_went h = gone_ok h refl

  pub goes_stopped : {due left : List Sym} {a b : Events} {from : Reached} {r : Refused} → Goes c t due left a b from (Err r) → Stopped c t due a b from r
  goes_stopped h = gone_err h refl

  pub goes_then : {due mid left : List Sym} {a b d : Events} {from at : Reached} {r : Result Reached Refused} → Went c t due mid a b from at → Goes c t mid left b d at r
      → Goes c t due left a d from r
  goes_then p (promise.went q) = promise.went (went_then p q)
  goes_then p (promise.Goes.stopped q) = promise.Goes.stopped (stopped_then p q)

  pub goes_below : {due left : List Sym} {a b : Events} {from : Reached} {r : Result Reached Refused} (X : List Sym) → Goes c t due left a b from r
      → Goes c t (due ++ X) (left ++ X) a b from r
  goes_below X (promise.went p) = promise.went (went_above X p)
  goes_below X (promise.Goes.stopped p) = promise.Goes.stopped (stopped_above X p)

  pub goes_same : {due left : List Sym} {a b : Events} {from : Reached} {r : Result Reached Refused} (due' : List Sym)
      → ((K : List Sym) → reads c t (due' ++ K) from ≡ reads c t (due ++ K) from) → Goes c t due left a b from r → Goes c t due' left a b from r
  goes_same due' f (promise.went p) = promise.went (went_same due' f p)
  goes_same due' f (promise.Goes.stopped p) = promise.Goes.stopped (stopped_same due' f p)

  pub outcome_goes : {due left : List Sym} {a b : Events} {from : Reached} {r : Result Reached Refused} → Outcome c t due left a b from r → Goes c t due left a b from r
  outcome_goes (took p) = promise.went p.went
  outcome_goes (stopped p) = promise.Goes.stopped p

  -- after a token, it goes on
  pub took_goes : {due mid left : List Sym} {a b d : Events} {from at : Reached} {r : Result Reached Refused} → Took c t due mid a b from at → Goes c t mid left b d at r
      → Outcome c t due left a d from r
  took_goes p (promise.went q) = took (took_went p q)
  took_goes p (promise.Goes.stopped q) = stopped (stopped_then p.went q)

  -- how far reading has come, said otherwise
  pub went_at : {due left : List Sym} {a b : Events} {from to : Reached} (x : Reached) → to.next ≡ x.next → to.end ≡ x.end → Went c t due left a b from to
      → Went c t due left a b from x
  went_at {to = to} x n e h = let q : to ≡ x = ap₂ (λ i j. from_item i j) n e in rw q at h

  pub went_from : {due left : List Sym} {a b : Events} {from to : Reached} (x : Reached) → from.next ≡ x.next → from.end ≡ x.end → Went c t due left a b from to
      → Went c t due left a b x to
  went_from {from = from} x n e h = let q : from ≡ x = ap₂ (λ i j. from_item i j) n e in rw q at h

-- how far reading has come with p
pub reached_is : (p : Peeked) (x : Reached) → x.next ≡ p.next → x.end ≡ p.start + p.size → x ≡ behind p
reached_is p x n e = ap₂ (λ i j. from_item i j) n e

-- after the loop, what needs no token
pub passed_went : {c : Bool} {t : List ℕ} {due left : List Sym} {a b d : Events} {from at to : Reached} → Passed c t due a from b at → Went c t due left b d at to
    → Went c t due left a d from to
passed_went begun h = h
passed_went (some p) h = (took_went p h).went
