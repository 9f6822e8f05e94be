-- The clock by value holds the book's time, and a number names a row of the book or the row that is all zero; so does an entry.
use mathlib.Core.Bool.{false, ◌&&◌, true≢false}
use mathlib.Core.Path.{◌≡◌, refl, sym, ap, ◌∙◌}
use Prim.Native.Nat.{ℕ, zero, suc, ◌-◌, ◌<◌, ◌≤◌}
use native.Mathlib.Omega.{arith}
use lib.Dec.{ltb}
use lib.ListN.{length, get_or, get_or-eq_default}
use denote.Laws.{Is}
use denote.Struct.Declared.{row}
use denote.Struct.Laws.{owed, vals}
use borrow.Author.Tests.{ltb-true, lt-ltb}
use Rattle.laws.proofs.Builds.{get_or-build, get_or-build-past}
use Rattle.laws.proofs.Cases.{on, by-lt, and_left, and_right, both}
use Rattle.meaning.specs.Authorisations.{no_row, row_at}
use Rattle.meaning.specs.Ledgers.{originator_of, origin_in}
use Rattle.clock.specs.declared.Clock.{Clock}
use Rattle.clock.specs.Structs.{time_of}
use Rattle.setups.specs.declared.Authorisation.{Authorisation}
use Rattle.setups.specs.declared.Setup.{Setup}
use Rattle.setups.specs.Structs.{no_authorisation, row_of, rows_of, codes_of}
use Rattle.book.specs.Structs.{time_in, clock_in, rows_in, origin_place, origin_row}
use Rattle.book.specs.declared.Book.{Book}
use Rattle.book.specs.contracts.Book as Held
use Rattle.book.proofs.Book.TheLaws as HeldLaws

-- ---- the clock

pub clock-time : (b : Book) {c : Clock} → c ≡ clock_in b → time_of c ≡ time_in b
unfolding codes_of
clock-time b e = ap time_of e

-- ---- what the struct's types say

module _ (b : Book) (g : Is (row Held.the_type) b (vals Held.the_type HeldLaws.the_laws b)) where
  pub rows-length : length b.setup.rows ≡ 64
  rows-length = (owed Held.the_type HeldLaws.the_laws b (vals Held.the_type HeldLaws.the_laws b) g).0.1.1.1.1.1.1.1.0.1.0.1

  pub days-few : b.setup.days < 256
  days-few = (owed Held.the_type HeldLaws.the_laws b (vals Held.the_type HeldLaws.the_laws b) g).0.1.1.1.0.1

-- ---- rows

module _ (s : Setup) (k : ℕ) where
  pub row_inside : k < s.authorisations → row_at (rows_in s) k ≡ row_of (get_or s.rows k no_authorisation)
  unfolding rows_of
  row_inside h = get_or-build s.authorisations (λ (j : ℕ). row_of (get_or s.rows j no_authorisation)) no_row k h

  -- past the count
  pub row_none : s.authorisations ≤ k → row_at (rows_in s) k ≡ no_row
  unfolding rows_of
  row_none h = get_or-build-past s.authorisations (λ (j : ℕ). row_of (get_or s.rows j no_authorisation)) no_row k h

  -- past the count, or past the array
  pub row-past : length s.rows ≡ 64 → ltb k s.authorisations && ltb k 64 ≡ false → row_at (rows_in s) k ≡ no_row
  row-past l e =
      by-lt k s.authorisations
      (λ h. by-lt k 64
      (λ m. absurd (true≢false (sym (both (lt-ltb k s.authorisations h) (lt-ltb k 64 m)) ∙ e)))
      (λ m. row_inside h ∙ ap row_of (get_or-eq_default s.rows no_authorisation {n = k} (rw l m))))
      row_none

-- ---- the row of an entry, read where it lies

pub place-few : (entry : ℕ) {place : ℕ} → place ≡ origin_place entry → place < 64
unfolding origin_place
place-few entry e = omega (arith, e)

place-own : (i : ℕ) → originator_of i < 64 → origin_place (suc i) ≡ originator_of i
unfolding origin_place
place-own i h = let e : suc i - 1 ≡ i = omega arith in rw e (omega arith)

origin-known : (s : Setup) (entry : ℕ) → length s.rows ≡ 64
    → row_of (origin_row s.authorisations entry (get_or s.rows (origin_place entry) no_authorisation)) ≡ origin_in (rows_in s) entry
unfolding origin_row
origin-known s zero l = refl
origin-known s (suc i) l =
    let k = originator_of i in
    on (ltb k s.authorisations && ltb k 64)
    (λ t.
    let known : k < s.authorisations = ltb-true k s.authorisations (and_left (ltb k s.authorisations) (ltb k 64) t) in
    let few : k < 64 = ltb-true k 64 (and_right (ltb k s.authorisations) (ltb k 64) t) in
    rw t (ap (λ (j : ℕ). row_of (get_or s.rows j no_authorisation)) (place-own i few) ∙ sym (row_inside s k known)))
    (λ t. rw t (sym (row-past s k l t)))

-- by what the code reads and is told
pub origin-read : (s : Setup) (entry : ℕ) {place : ℕ} {r : Authorisation} → length s.rows ≡ 64 → place ≡ origin_place entry
    → r ≡ origin_row s.authorisations entry (get_or s.rows place no_authorisation) → row_of r ≡ origin_in (rows_in s) entry
origin-read s entry l e q =
    ap row_of (q ∙ ap (λ (j : ℕ). origin_row s.authorisations entry (get_or s.rows j no_authorisation)) e) ∙ origin-known s entry l
