-- A day of the book, and the row of a held identifier's day: it lies inside both tables, and it is what the question answers.
use mathlib.Core.Bool.{true, false, ◌&&◌, true≢false}
use mathlib.Core.List.{List, []}
use mathlib.Core.Logic.{◌≢◌}
use mathlib.Core.Path.{◌≡◌, refl, sym, ◌∙◌}
use Prim.Native.Nat.{ℕ, zero, suc, ◌+◌, ◌-◌, ◌*◌, ◌≤◌, ◌<◌}
use native.Mathlib.Nat.{add-sub_cancel_left, mul-le-mul}
use native.Mathlib.Omega.{arith}
use lib.Dec.{leb, ltb}
use lib.IntN.{ℤ}
use lib.ListN.{length, get_or, take, drop}
use borrow.Author.Tests.{leb-true, le-leb, lt-ltb, ltb-true, ne_eqb, not-false}
use Rattle.words.specs.Tests.{between}
use Rattle.words.specs.Rules.{answer}
use Rattle.laws.proofs.Cases.{on, is_true, and_left, and_right}
use Rattle.laws.proofs.Rules.{answer-none}
use Rattle.meaning.specs.Time.{periods_of_code, periods_at, is_period_at, days, day_of, has_day, is_period}
use Rattle.meaning.specs.Ledgers.{contracts, index, originator_of, identifier_of, is_held, slot_of, Side, one, side}
use Rattle.meaning.specs.Books as Meaning
use Rattle.meaning.specs.Soundness.{sound}
use Rattle.meaning.specs.Rows.{row_rules, row}
use Rattle.meaning.proofs.Clock.{periods-le}
use Rattle.meaning.proofs.Held as Held-laws
use Rattle.meaning.proofs.Sound.{parts}
use Rattle.meaning.proofs.Standing.{sound-opens, length-side}
use Rattle.ledger.proofs.PlaceLaws.{index-next, day-within}
use Rattle.book.specs.declared.Book.{Book}
use Rattle.book.specs.Structs.{time_in, book_of}
use Rattle.book.proofs.SoundParts.{codes-count}

-- ---- numbers

-- an identifier's originator
pub origin-of : (originator reference : ℕ) → reference < 65536 → originator_of (identifier_of originator reference) ≡ originator
unfolding originator_of
origin-of originator reference h = omega arith

-- ---- a day of the book

pub record OfBook (b : Book) (D : ℕ) : Type 0 where
  pub from : b.setup.first ≤ D
  pub place : day_of (time_in b) D < b.setup.days

pub has-day : (b : Book) (D : ℕ) → has_day (time_in b) D ≡ true → OfBook b D
has-day b D e =
    let d = day_of (time_in b) D in
    let low = leb b.setup.first D in
    let high = ltb d (days (time_in b)) in
    record { from = leb-true b.setup.first D (and_left low high e); place = rw (codes-count b) at (ltb-true d (days (time_in b)) (and_right low high e)) }

-- a period of no day, and of a day of the book
pub period-none : (b : Book) (D period : ℕ) → has_day (time_in b) D ≡ false → is_period (time_in b) D period ≡ false
unfolding is_period is_period_at
period-none b D period e =
    let d = day_of (time_in b) D in
    on (leb b.setup.first D)
    (λ q. let past : ltb d (days (time_in b)) ≡ false = rw q at e in rw (q, past))
    (λ q. rw q)

pub period-there : (b : Book) (D period : ℕ) → has_day (time_in b) D ≡ true
    → is_period (time_in b) D period ≡ is_period_at (time_in b).codes (day_of (time_in b) D) period
unfolding is_period
period-there b D period e = rw (le-leb b.setup.first D (has-day b D e).from)

pub period-of-day : (b : Book) (D p : ℕ) → has_day (time_in b) D ≡ true → p < periods_at (time_in b).codes (day_of (time_in b) D) → is_period (time_in b) D (suc p) ≡ true
unfolding is_period_at
period-of-day b D p e h =
    let d = day_of (time_in b) D in
    let inside : d < days (time_in b) = rw (codes-count b) (has-day b D e).place in
    period-there b D (suc p) e
    ∙ rw (lt-ltb d (days (time_in b)) inside, le-leb 1 (suc p) (omega arith)) (le-leb (suc p) (periods_at (time_in b).codes d) h)

pub period-day : (b : Book) (D period : ℕ) → is_period (time_in b) D period ≡ true → has_day (time_in b) D ≡ true
period-day b D period e = is_true (has_day (time_in b) D) (λ n. true≢false (sym e ∙ period-none b D period n))

-- a place, as the code computes it
pub index_is : (b : Book) (slot period : ℕ) {d place : ℕ} → 1 ≤ period → place ≡ d → index b.setup.days slot place (suc (period - 1)) ≡ index (days (time_in b)) slot d period
index_is b slot period h e = let q : suc (period - 1) ≡ period = omega arith in rw (codes-count b, q, e)

-- the part from period 1's place to one past the last's is the day's length long
pub part-ends : (n slot d p : ℕ) {from last long : ℕ} → 1 ≤ p → from ≡ index n slot d 1 → last ≡ index n slot d p → p ≡ long → last + 1 ≡ from + long
part-ends n slot d p h f l e =
    let q : suc (p - 1) ≡ p = omega arith in
    omega (arith, rw q at (index-next n slot d (p - 1)), f, l, e)

-- ---- the row of a held identifier's day, in a sound book

some-periods : (code : ℕ) → code ≤ 2 → 46 ≤ periods_of_code code
unfolding periods_of_code
some-periods zero h = omega arith
some-periods (suc zero) h = omega arith
some-periods (suc (suc zero)) h = omega arith
some-periods (suc (suc (suc n))) h = absurd (omega arith)

module _ (b : Book) (held : List ℕ) (side1 side2 : List ℤ) (i D : ℕ) where
  abbrev pub before : Meaning.Book contracts
  before = book_of b held side1 side2

  -- where it begins, and how long it is
  abbrev pub start : ℕ
  start = index (days (time_in b)) (slot_of held i) (day_of (time_in b) D) 1

  abbrev pub long : ℕ
  long = periods_at (time_in b).codes (day_of (time_in b) D)

  -- a day of a sound book has a code
  pub some-long : sound before ≡ true → has_day (time_in b) D ≡ true → 46 ≤ long
  unfolding periods_at
  some-long s e =
      let d = day_of (time_in b) D in
      let there : d < days (time_in b) = rw (codes-count b) (has-day b D e).place in
      some-periods (get_or (time_in b).codes d 0) ((sound-opens before (parts before s)).codes d there)

  module _ (s : sound before ≡ true) (h : is_held held i ≡ true) where
    pub slot-few : slot_of held i < 256
    slot-few = omega (arith, Held-laws.is-held held i h, (sound-opens before (parts before s)).few-slots)

    -- it is inside either side's table
    pub row_inside : has_day (time_in b) D ≡ true → (σ : Side) → start + long ≤ length (side before.ledger σ)
    row_inside e σ =
        let d = day_of (time_in b) D in
        let n = days (time_in b) in
        let hd : d < n = rw (codes-count b) (has-day b D e).place in
        let last = day-within n (slot_of held i) d (length held) (Held-laws.is-held held i h) hd in
        omega (arith, last, periods-le (time_in b).codes d, length-side before (parts before s) σ)

    -- and in few places
    pub row-few : has_day (time_in b) D ≡ true → start + long ≤ 102400
    row-few e =
        let o = sound-opens before (parts before s) in
        let few : length held * days (time_in b) ≤ 2048 = mul-le-mul o.few-slots o.few-days in
        omega (arith, row_inside e one, length-side before (parts before s) one)

  module _ (σ : ℕ) where
    abbrev pub row_answer : ℕ
    row_answer = answer (row_rules before i D σ)

    -- what an answer of 0 has shown
    pub record Shown : Type 0 where
      pub is-sound : sound before ≡ true
      pub is-held : is_held held i ≡ true
      pub of-book : has_day (time_in b) D ≡ true

    pub shown : row_answer ≡ 0 → Shown
    unfolding row_rules
    shown e =
        let rules = row_rules before i D σ in
        let last = not-false (has_day (time_in b) D && between 1 2 σ) (answer-none rules refl e 2) in
        record {
          is-sound = not-false (sound before) (answer-none rules refl e 0);
          is-held = not-false (is_held held i) (answer-none rules refl e 1);
          of-book = and_left (has_day (time_in b) D) (between 1 2 σ) last;
        }

    pub row-refused : row_answer ≢ 0 → row before i D σ ≡ []
    unfolding row
    row-refused n = rw (ne_eqb row_answer 0 n)

    -- the part that the code takes
    module _ (from end : ℕ) (a : from ≡ start) (l : end ≡ from + long) (e : row_answer ≡ 0) where
      pub row-of-one : σ ≡ 1 → take (end - from) (drop from side1) ≡ row before i D σ
      unfolding row
      row-of-one q = rw (e, q, l, add-sub_cancel_left, a)

      pub row-of-two : σ ≢ 1 → take (end - from) (drop from side2) ≡ row before i D σ
      unfolding row
      row-of-two q = rw (e, ne_eqb σ 1 q, l, add-sub_cancel_left, a)
