-- The rule of the table of clock-change days, tested over the whole table; so each entry is such a day, and each such day is an entry.
use mathlib.Core.Bool.{Bool, true, false, ◌&&◌, true≢false}
use mathlib.Core.Logic.{◌≢◌}
use mathlib.Core.Path.{◌≡◌, refl, sym, ap, ◌∙◌}
use Prim.Native.Nat.{ℕ, ◌+◌, ◌-◌, ◌*◌, ◌/◌, ◌%◌, ◌<◌}
use native.Mathlib.Omega.{arith}
use lib.ListN.{length, get_or}
use borrow.Author.Tests.{eqb-true, eq-eqb, ne_eqb}
use Rattle.std.specs.Prelude.{if◌then◌else◌}
use Rattle.words.specs.Tests.{◌=?◌}
use Rattle.words.specs.Lists.{every_at, every_from}
use Rattle.laws.proofs.Cases.{and_left, and_right, same_test, by-eq}
use Rattle.laws.proofs.Lists.{every_at-at}
use Rattle.calendar.specs.Calendar.{year_of, is_day, weekday, is_last_sunday, length_of, opened}
use Rattle.calendar.specs.ChangeDays.{change_days, month_at, changes_at}
use Rattle.calendar.proofs.Years.{day-below}
use Rattle.calendar.proofs.Inverse.{in-the-year}
use Rattle.calendar.proofs.Sundays.{last-sunday, one-last-sunday}

pub table-rule : every_at changes_at change_days ≡ true
unfolding opened every_at every_from change_days changes_at
table-rule = refl

pub table-length : length change_days ≡ 200
unfolding change_days
table-length = refl

-- ---- each entry

abbrev pub entry : ℕ → ℕ
entry k = get_or change_days k 0

pub record Entry (k : ℕ) : Type 0 where
  pub day : is_day (entry k) ≡ true
  pub sunday : is_last_sunday (month_at k) (entry k) ≡ true
  pub year : year_of (entry k) ≡ 2000 + k / 2

pub entered : (k : ℕ) → k < 200 → Entry k
unfolding changes_at
entered k h =
    let e : ℕ = entry k in
    let s : Bool = is_last_sunday (month_at k) e in
    let y : Bool = year_of e =? 2000 + k / 2 in
    let a : changes_at k e ≡ true = every_at-at changes_at change_days 0 table-rule k (rw table-length h) in
    let b : s && y ≡ true = and_right (is_day e) (s && y) a in
    record { day = and_left (is_day e) (s && y) a; sunday = and_left s y b; year = eqb-true (year_of e) (2000 + k / 2) (and_right s y b) }

-- ---- each such day

-- the place of the year's entry for March (j is 0) or October (j is 1)
abbrev pub place_of : ℕ → ℕ → ℕ
place_of n j = 2 * (year_of n - 2000) + j

pub month-at : (y j : ℕ) → j < 2 → month_at (2 * y + j) ≡ month_at j
month-at y j h = let e : (2 * y + j) % 2 ≡ j % 2 = omega arith in ap (λ (p : ℕ). if p =? 0 then 3 else 10) e

module _ (n j : ℕ) (h : is_day n ≡ true) (l : j < 2) where
  pub place_inside : place_of n j < 200
  place_inside = let y = in-the-year n (day-below n h) in omega arith

  here : Entry (place_of n j)
  here = entered (place_of n j) place_inside

  sunday-there : is_last_sunday (month_at j) (entry (place_of n j)) ≡ true
  sunday-there = rw (month-at (year_of n - 2000) j l) at here.sunday

  year-there : year_of (entry (place_of n j)) ≡ year_of n
  year-there = let y = in-the-year n (day-below n h) in omega (arith, here.year)

  pub change-entered : is_last_sunday (month_at j) n ≡ true → entry (place_of n j) ≡ n
  change-entered s =
      one-last-sunday (month_at j) (entry (place_of n j)) n (last-sunday (month_at j) (entry (place_of n j)) here.day sunday-there) (last-sunday (month_at j) n h s) year-there

  -- so the table decides
  pub by-table : is_last_sunday (month_at j) n ≡ (entry (place_of n j) =? n)
  by-table =
      same_test (is_last_sunday (month_at j) n) (entry (place_of n j) =? n)
      (λ s. eq-eqb (entry (place_of n j)) n (change-entered s))
      (λ e. rw (eqb-true (entry (place_of n j)) n e) at sunday-there)

-- every other day is no entry
pub no_other : (n : ℕ) → is_last_sunday 3 n ≡ false → is_last_sunday 10 n ≡ false → (k : ℕ) → k < 200 → entry k ≢ n
no_other n march october k h e =
    let s : is_last_sunday (month_at k) n ≡ true = rw e at (entered k h).sunday in
    by-eq (k % 2) 0
    (λ z. true≢false (sym (rw (eq-eqb (k % 2) 0 z) at s) ∙ march))
    (λ z. true≢false (sym (rw (ne_eqb (k % 2) 0 z) at s) ∙ october))

-- the length of a day of the year y: the year's two entries decide
module _ (n y : ℕ) (h : is_day n ≡ true) (e : y ≡ year_of n) where
  abbrev march : ℕ
  march = entry (2 * (y - 2000))

  abbrev october : ℕ
  october = entry (2 * (y - 2000) + 1)

  pub length-by-table : length_of n ≡ (if march =? n then 46 else if october =? n then 50 else 48)
  unfolding length_of
  length-by-table =
      let z : place_of n 0 ≡ 2 * (year_of n - 2000) = omega arith in
      rw (by-table n 0 h (omega arith), by-table n 1 h (omega arith), z, e)

  pub short-by-table : march ≡ n → length_of n ≡ 46
  short-by-table m = length-by-table ∙ rw (eq-eqb march n m)

  pub long-by-table : march ≢ n → october ≡ n → length_of n ≡ 50
  long-by-table m o = length-by-table ∙ rw (ne_eqb march n m, eq-eqb october n o)

  pub plain-by-table : march ≢ n → october ≢ n → length_of n ≡ 48
  plain-by-table m o = length-by-table ∙ rw (ne_eqb march n m, ne_eqb october n o)

-- a day that is no Sunday
pub no-sunday : (n : ℕ) → n % 7 ≢ 1 → length_of n ≡ 48
unfolding length_of is_last_sunday weekday
no-sunday n h = rw (ne_eqb ((n + 5) % 7) 6 (λ e. h (omega arith)))
