-- Events written one after the other. Assumes nothing.
use Prim.Native.Nat.{ℕ, suc, ◌+◌, ◌*◌, ◌≤◌, ◌<◌}
use mathlib.Core.Path.{◌≡◌, refl, sym, ◌∙◌}
use mathlib.Core.List.{List, [], ◌∷◌, ◌++◌}
use native.Mathlib.Nat.{add-zero}
use native.Mathlib.Omega.{arith}
use borrow.Author.Tests.{lt-ltb, le-ltb}
use lib.ListN.{length, length-append}
use Rattle.base.specs.Item.{Item}
use Rattle.tape.specs.Entry.{entry_size, room, entry, over_at}
use Rattle.parser.specs.declared.events.Events.{Events}
use Rattle.parser.specs.Events.{store, stores, most, Puts, Wrote}

pub store_in : (tape : List ℕ) (i : ℕ) (x : Item) → i < room tape → over_at (i * entry_size) tape (entry x.code x.start x.size) ≡ store tape i x
unfolding store
store_in tape i x h = rw (lt-ltb i (room tape) h)

pub store_out : (tape : List ℕ) (i : ℕ) (x : Item) → room tape ≤ i → tape ≡ store tape i x
unfolding store
store_out tape i x h = rw (le-ltb i (room tape) h)

stores_append : (tape : List ℕ) (i : ℕ) (xs ys : List Item) → stores tape i (xs ++ ys) ≡ stores (stores tape i xs) (i + length xs) ys
unfolding stores
stores_append tape i [] ys = rw add-zero
stores_append tape i (x ∷ xs) ys =
    let e : suc i + length xs ≡ i + suc (length xs) = omega arith in
    rw (stores_append (store tape i x) (suc i) xs ys, e)

-- one event
pub puts_one : (tape : List ℕ) (out : ℕ) (tape' : List ℕ) (next : ℕ) (x : Item) → length tape' ≡ length tape → tape' ≡ store tape out x → (out < most → next ≡ out + 1)
    → Puts tape out tape' next (x ∷ [])
unfolding stores
puts_one tape out tape' next x k w n = record { kept = k; counted = λ h. n (omega arith); written = λ h. w }

-- none
pub puts_none : (tape : List ℕ) (out : ℕ) → Puts tape out tape out []
unfolding stores
puts_none tape out = record { kept = refl; counted = λ h. sym (add-zero out); written = λ h. refl }

-- some, and then some
pub puts_then : {tape tape' tape'' : List ℕ} {out next last : ℕ} {xs ys : List Item} → Puts tape out tape' next xs → Puts tape' next tape'' last ys
    → Puts tape out tape'' last (xs ++ ys)
puts_then {tape} {tape'} {tape''} {out} {next} {last} {xs} {ys} p q = record {
  kept = q.kept ∙ p.kept;
  counted = λ h.
      let l = rw length-append at h in
      let c = p.counted (omega arith) in
      let d = q.counted (omega arith) in
      rw length-append (omega arith);
  written = λ h.
      let l = rw length-append at h in
      let c = p.counted (omega arith) in
      let w = p.written (omega arith) in
      q.written (omega arith) ∙ rw (w, c) (sym (stores_append tape out xs ys));
}

-- the same, of an event tape that is lent
pub wrote_none : (a : Events) → Wrote a a []
wrote_none a = record { same = refl; puts = puts_none a.tape.now a.count }

pub wrote_then : {a b d : Events} {xs ys : List Item} → Wrote a b xs → Wrote b d ys → Wrote a d (xs ++ ys)
wrote_then p q = record { same = q.same ∙ p.same; puts = puts_then p.puts q.puts }
