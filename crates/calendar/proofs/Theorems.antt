-- Document 02, A2, of the calendar: which days it has, what the paper names, that the table is exactly the clock-change days, and that what the functions
-- give, either way round, gives back what went in.
use mathlib.Core.Bool.{Bool, true, false, not, ◌&&◌, ◌||◌}
use mathlib.Core.Path.{◌≡◌, refl, sym, ap, ◌∙◌}
use Prim.Native.Nat.{ℕ, ◌+◌, ◌*◌, ◌<◌}
use native.Mathlib.Omega.{arith}
use borrow.Author.Tests.{eq-eqb, ne_eqb, lt-ltb, le-ltb}
use Rattle.words.specs.Tests.{◌=?◌, ◌<?◌}
use Rattle.words.specs.Below.{some_below, every_below}
use Rattle.laws.proofs.Below.{some-hit, some-all}
use Rattle.laws.proofs.Cases.{on, by-lt}
use Rattle.calendar.specs.Calendar as Calendar
use Rattle.calendar.specs.Calendar.{year_of, is_day, is_date, day_of_date, date_of_day, weekday, is_last_sunday, length_of, opened}
use Rattle.calendar.specs.ChangeDays.{month_at}
use Rattle.calendar.specs.Answers.{date_of, date_struct, numbered, dated}
use Rattle.calendar.specs.declared.Date.{Date}
use Rattle.calendar.proofs.Years.{below-day, day-out}
use Rattle.calendar.proofs.Inverse.{day-back, date-there, day-there, date-back}
use Rattle.calendar.proofs.Table.{entry, entered, place_of, place_inside, change-entered, no_other, month-at}

-- ---- which days

pub days-are : (n : ℕ) → is_day n ≡ n <? 36525
days-are n = by-lt n 36525 (λ h. below-day n h ∙ sym (lt-ltb n 36525 h)) (λ h. day-out n h ∙ sym (le-ltb n 36525 h))

-- "day 85 is the first short day, day 302 the first long one, day 0 is a Saturday"
pub day-0 : weekday 0 ≡ 5
unfolding opened
day-0 = refl

pub first_short : (length_of 85 =? 46) && every_below 85 (λ (n : ℕ). not (length_of n =? 46)) ≡ true
unfolding opened every_below
first_short = refl

pub first-long : (length_of 302 =? 50) && every_below 302 (λ (n : ℕ). not (length_of n =? 50)) ≡ true
unfolding opened every_below
first-long = refl

-- ---- the table

-- a day from 2000 to 2099 is an entry exactly when it is the last Sunday of a March or an October
pub in_table : (n : ℕ) → is_day n ≡ true → some_below 200 (λ (k : ℕ). entry k =? n) ≡ is_last_sunday 3 n || is_last_sunday 10 n
in_table n h =
    let hit : ℕ → Bool = λ (k : ℕ). entry k =? n in
    on (is_last_sunday 3 n)
    (λ m. some-hit 200 hit (place_of n 0) (place_inside n 0 h (omega arith)) (eq-eqb (entry (place_of n 0)) n (change-entered n 0 h (omega arith) m)) ∙ rw m)
    (λ m. on (is_last_sunday 10 n)
    (λ o. some-hit 200 hit (place_of n 1) (place_inside n 1 h (omega arith)) (eq-eqb (entry (place_of n 1)) n (change-entered n 1 h (omega arith) o)) ∙ rw (m, o))
    (λ o. some-all 200 hit (λ k l. ne_eqb (entry k) n (no_other n m o k l)) ∙ rw (m, o)))

-- each year has one such Sunday of March (j is 0) and one of October (j is 1), and it is the year's entry
pub record OneSunday (j y : ℕ) : Type 0 where
  pub is : is_last_sunday (month_at j) (entry (2 * y + j)) ≡ true
  pub year : year_of (entry (2 * y + j)) ≡ 2000 + y
  pub only : (n : ℕ) → is_day n ≡ true → year_of n ≡ 2000 + y → is_last_sunday (month_at j) n ≡ true → n ≡ entry (2 * y + j)

pub one-a-year : (j y : ℕ) → j < 2 → y < 100 → OneSunday j y
one-a-year j y l h =
    let e = entered (2 * y + j) (omega arith) in
    record {
      is = rw (month-at y j l) at e.sunday;
      year = omega (arith, e.year);
      only = λ n d q s. let p : place_of n j ≡ 2 * y + j = omega arith in sym (change-entered n j d l s) ∙ ap entry p;
    }

-- ---- dates

abbrev dates : Calendar.Date → ℕ → Bool
dates d n = is_date d && (day_of_date d =? n && ((date_of_day n).year =? d.year && ((date_of_day n).month =? d.month && (date_of_day n).day =? d.day)))

pub some-dates : dates (date_of 2000 1 1) 0 && (dates (date_of 2000 2 29) 59 && (dates (date_of 2000 12 31) 365 && (dates (date_of 2001 1 1) 366 && (dates (date_of 2096 2 29) 35123 && dates (date_of 2099 12 31) 36524)))) ≡ true
unfolding opened
some-dates = refl

pub no-dates : is_date (date_of 2000 2 30) || (is_date (date_of 2001 2 29) || (is_date (date_of 2000 13 1) || (is_date (date_of 2000 4 31) || (is_date (date_of 1999 12 31) || (is_date (date_of 2100 1 1) || (is_date (date_of 2000 1 0) || is_date (date_of 2000 0 1))))))) ≡ false
unfolding opened
no-dates = refl

-- a day's date has that day, and the day of a date has that date
abbrev date_in : Date → Calendar.Date
date_in d = date_of d.year d.month d.day

pub day-and-back : (n : ℕ) → is_day n ≡ true → numbered (date_in (dated n).date) ≡ record { answer = 0; day = n }
unfolding dated numbered
day-and-back n h = rw (h, date-there n h, day-back n h)

pub date-and-back : (d : Calendar.Date) → is_date d ≡ true → dated (numbered d).day ≡ record { answer = 0; date = date_struct d }
unfolding dated numbered
date-and-back d h = rw (h, day-there d h, date-back d h)
