-- What a notification gives for each period, its entries stored from the last down to the first.
use mathlib.Core.Bool.{true, false, cond, true≢false}
use mathlib.Core.List.{List, [], ◌∷◌}
use mathlib.Core.Logic.{◌≢◌}
use mathlib.Core.Path.{◌≡◌, refl, sym, ap, ◌∙◌}
use Prim.Native.Nat.{ℕ, suc, ◌+◌, ◌-◌, ◌≤◌, ◌<◌, min}
use native.Mathlib.Omega.{arith}
use lib.Dec.{leb, eqb}
use lib.IntN.{ℤ, pos}
use lib.ListN.{length, get_or, set, drop, take, replicate, length-set, length-drop, get_or-eq_default}
use lib.Seq.{drop-cons, get_or-drop, get_or-set_same, get_or-set_other}
use borrow.Author.Tests.{leb-true, le-leb, eq-eqb, ne_eqb}
use Rattle.std.specs.Prelude.{reverse}
use Rattle.std.proofs.lemmas.List.{get_or-reverse, length-reverse, length-take-le, get_or-take}
use Rattle.words.specs.Tests.{between}
use Rattle.words.specs.Lists.{build}
use Rattle.laws.proofs.Builds.{length-build, get_or-build, is-build, build-same, build-all}
use Rattle.laws.proofs.Lists.{get_or-inside}
use Rattle.laws.proofs.Cases.{by-lt, by-eq, and_left, and_right, both}
use Rattle.meaning.specs.Ledgers.{contracts}
use Rattle.meaning.specs.Messages as Meaning
use Rattle.meaning.specs.Messages.{volume}
use Rattle.messages.specs.Structs.{no_entry, entry_of, entries_of, no_entry_meant}
use Rattle.messages.specs.declared.Entry.{Entry}
use Rattle.messages.specs.declared.Notification.{Notification}
use denote.Laws.{Is}
use denote.Struct.Declared.{row}
use denote.Struct.Laws.{owed, vals}
use Rattle.messages.specs.contracts.Notification.{the_type}
use Rattle.messages.proofs.Notification.TheLaws.{the_laws}

-- the array of entries has 50
pub entries-length : (n : Notification) → Is (row the_type) n (vals the_type the_laws n) → length n.entries ≡ 50
entries-length n g = (owed the_type the_laws n (vals the_type the_laws n) g).1.1.1.1.1.1.1.1.0.1.0.1

-- the first entries, from the last down
pub length-back : (es : List Entry) (count : ℕ) → count ≤ length es → length (reverse (take count es)) ≡ count
length-back es count few = length-reverse (take count es) ∙ length-take-le count es few

-- of them the one after k
pub entry-back : (es : List Entry) (count : ℕ) → count ≤ length es → (k : ℕ) (e : Entry)
    → (k < length (reverse (take count es))) × (e ≡ get_or (reverse (take count es)) k e) → (k < count) × (e ≡ get_or es (count - suc k) no_entry)
entry-back es count few k e t =
    let front = take count es in
    let size : length front ≡ count = length-take-le count es few in
    let inside : k < count = omega (arith, length-reverse front, t.0) in
    let place : length front - 1 - k ≡ count - suc k = omega arith in (
      inside,
      t.1
          ∙ get_or-reverse front k e (omega arith)
          ∙ ap (λ (j : ℕ). get_or front j e) place
          ∙ get_or-take count es (count - suc k) e (omega arith)
          ∙ get_or-inside es (count - suc k) e no_entry (omega arith),
    )

-- what the entries from place k on give
unfoldable pub given_from : List (Meaning.Entry contracts) → ℕ → List ℤ
given_from l k = build 50 (λ (p : ℕ). volume (drop k l) (suc p))

-- no entry is of the period
volume-none : (l : List (Meaning.Entry contracts)) (period : ℕ) → ((k : ℕ) → k < length l → (get_or l k no_entry_meant).period ≢ period) → volume l period ≡ pos 0
unfolding volume
volume-none [] period h = refl
volume-none (e ∷ es) period h =
    rw (ne_eqb period e.period (λ q. h 0 (omega arith) (sym q))) (volume-none es period (λ k l. h (suc k) (omega arith)))

-- the entry at place k, and those after it
volume-at : (l : List (Meaning.Entry contracts)) (k period : ℕ) → k < length l
    → volume (drop k l) period
    ≡ cond (eqb period (get_or l k no_entry_meant).period) (get_or l k no_entry_meant).volume (volume (drop (suc k) l) period)
unfolding volume
volume-at l k period h = rw (drop-cons l k no_entry_meant h)

module _ (l : List (Meaning.Entry contracts)) (k : ℕ) (h : k < length l) where
  -- an entry of a period is stored
  pub given-more : 0 < (get_or l k no_entry_meant).period → (get_or l k no_entry_meant).period ≤ 50
      → set (given_from l (suc k)) ((get_or l k no_entry_meant).period - 1) (get_or l k no_entry_meant).volume ≡ given_from l k
  unfolding given_from
  given-more low high =
      let e = get_or l k no_entry_meant in
      let rest = build 50 (λ (p : ℕ). volume (drop (suc k) l) (suc p)) in
      is-build 50 (λ (p : ℕ). volume (drop k l) (suc p)) (pos 0) (set rest (e.period - 1) e.volume)
      (length-set rest (e.period - 1) e.volume ∙ length-build 50 _)
      (λ p w.
      by-eq p (e.period - 1)
      (λ q.
      rw q
      (get_or-set_same rest (e.period - 1) e.volume (pos 0) (rw length-build (omega arith))
      ∙ sym (volume-at l k (suc (e.period - 1)) h ∙ rw (eq-eqb (suc (e.period - 1)) e.period (omega arith)))))
      (λ q.
      get_or-set_other rest (e.period - 1) p e.volume (pos 0) q
      ∙ get_or-build 50 _ (pos 0) p w
      ∙ sym (volume-at l k (suc p) h ∙ rw (ne_eqb (suc p) e.period (λ z. q (omega arith))))))

  -- an entry of no period gives nothing
  pub given-kept : (0 < (get_or l k no_entry_meant).period → 50 < (get_or l k no_entry_meant).period) → given_from l (suc k) ≡ given_from l k
  unfolding given_from
  given-kept out =
      build-same 50 (λ (p : ℕ). volume (drop (suc k) l) (suc p)) (λ (p : ℕ). volume (drop k l) (suc p))
      (λ p w. sym (volume-at l k (suc p) h ∙ rw (ne_eqb (suc p) (get_or l k no_entry_meant).period (λ z. omega (arith, out (omega arith))))))

module _ (count : ℕ) (es : List Entry) where
  pub entry_at : (k : ℕ) → k < count → get_or (entries_of count es) k no_entry_meant ≡ entry_of (get_or es k no_entry)
  unfolding entries_of
  entry_at k h = get_or-build count (λ (j : ℕ). entry_of (get_or es j no_entry)) no_entry_meant k h

  pub length-entries : length (entries_of count es) ≡ count
  unfolding entries_of
  length-entries = length-build count _

  -- a loop's turn at entry k: it is stored, or passed over
  pub given-stored : (k m : ℕ) → suc k ≡ m → k < count → between 1 50 (get_or es k no_entry).period ≡ true
      → set (given_from (entries_of count es) m) ((get_or es k no_entry).period - 1) (get_or es k no_entry).volume ≡ given_from (entries_of count es) k
  given-stored k m q h t =
      let p = (get_or es k no_entry).period in
      let low = leb-true 1 p (and_left (leb 1 p) (leb p 50) t) in
      let high = leb-true p 50 (and_right (leb 1 p) (leb p 50) t) in
      rw (← q) (rw (entry_at k h) at (given-more (entries_of count es) k (rw length-entries h) (rw (entry_at k h) low) (rw (entry_at k h) high)))

  pub given-passed : (k m : ℕ) → suc k ≡ m → k < count → between 1 50 (get_or es k no_entry).period ≡ false
      → given_from (entries_of count es) m ≡ given_from (entries_of count es) k
  given-passed k m q h t =
      let p = (get_or es k no_entry).period in
      let out : 0 < p → 50 < p = λ w. by-lt 50 p (λ z. z) (λ z. absurd (true≢false (sym (both (le-leb 1 p w) (le-leb p 50 z)) ∙ t))) in
      rw (← q) (given-kept (entries_of count es) k (rw length-entries h) (rw (entry_at k h) out))

  -- past the last entry, and past the array, nothing is given
  pub given-none : length es ≡ 50 → replicate 50 (pos 0) ≡ given_from (entries_of count es) (min count 50)
  unfolding given_from
  given-none e =
      let l = entries_of count es in
      let m = min count 50 in
      build-all 50 (pos 0)
      ∙ build-same 50 (λ (p : ℕ). pos 0) (λ (p : ℕ). volume (drop m l) (suc p))
      (λ p w.
      sym (volume-none (drop m l) (suc p)
      (λ k q z.
      let r : m + k < count = omega (arith, length-drop m l, length-entries) in
      let none : get_or es (m + k) no_entry ≡ no_entry = get_or-eq_default es no_entry {n = m + k} (omega arith) in
      let same : get_or (drop m l) k no_entry_meant ≡ entry_of no_entry = get_or-drop m l k no_entry_meant ∙ entry_at (m + k) r ∙ ap entry_of none in
      let zero_is : 0 ≡ suc p = sym (ap (λ (x : Meaning.Entry contracts). x.period) same) ∙ z in
      omega arith)))

  -- with every entry, what the notification gives
  pub given-all : given_from (entries_of count es) 0 ≡ build 50 (λ (p : ℕ). volume (entries_of count es) (suc p))
  unfolding given_from
  given-all = refl
