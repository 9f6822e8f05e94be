-- Each day's date is the one after that of the day before; with day 0 on 1 January 2000 that is the whole calendar.
use mathlib.Core.Bool.{Bool, true, false}
use mathlib.Core.Path.{◌≡◌, refl, sym, ap, ◌∙◌}
use Prim.Native.Nat.{ℕ, suc, ◌+◌, ◌-◌, ◌≤◌, ◌<◌}
use native.Mathlib.Omega.{arith}
use borrow.Author.Tests.{le-leb, lt-ltb, le-ltb}
use Rattle.std.specs.Prelude.{if◌then◌else◌}
use Rattle.words.specs.Tests.{◌=?◌, ◌≤?◌, ◌<?◌}
use Rattle.words.specs.Below.{every_below}
use Rattle.laws.proofs.Cases.{by-lt}
use Rattle.calendar.specs.Calendar.{Date, is_leap, month_length, before_month, year_length, before_year, is_day, is_date, day_of_date, date_of_day, opened}
use Rattle.laws.proofs.Tested.{same-below, le_below}
use Rattle.calendar.proofs.Years.{start, year-start, year-length, day-below}
use Rattle.calendar.proofs.Inverse.{Parts, date-parts, date-there, date-back, day-back}

abbrev date : ℕ → ℕ → ℕ → Date
date year month day = record { year = year; month = month; day = day }

abbrev pub tomorrow : Date → Date
tomorrow d =
    if d.day <? month_length (is_leap d.year) d.month then date d.year d.month (suc d.day) else
    if d.month <? 12 then date d.year (suc d.month) 1 else
    date (suc d.year) 1 1

parts-date : (d : Date) → Parts d → is_date d ≡ true
unfolding is_date
parts-date d p =
    simp (
      le-leb 2000 d.year p.first,
      le-leb d.year 2099 p.last,
      le-leb 1 d.month p.low,
      le-leb d.month 12 p.high,
      le-leb 1 d.day p.least,
      le-leb d.day (month_length (is_leap d.year) d.month) p.most,
    )

-- ---- months follow each other, and then the year is over

follow-tested : (leap : Bool) → every_below 12 (λ (m : ℕ). before_month leap (suc (suc m)) =? before_month leap (suc m) + month_length leap (suc m)) ≡ true
unfolding opened every_below
follow-tested true = refl
follow-tested false = refl

some-tested : (leap : Bool) → every_below 12 (λ (m : ℕ). 1 ≤? month_length leap (suc m)) ≡ true
unfolding opened every_below
some-tested true = refl
some-tested false = refl

module _ (leap : Bool) where
  month-next : (m : ℕ) → m < 12 → before_month leap (suc (suc m)) ≡ before_month leap (suc m) + month_length leap (suc m)
  month-next =
      same-below 12 (λ (m : ℕ). before_month leap (suc (suc m))) (λ (m : ℕ). before_month leap (suc m) + month_length leap (suc m)) (follow-tested leap)

  month-some : (m : ℕ) → m < 12 → 1 ≤ month_length leap (suc m)
  month-some = le_below 12 (λ (m : ℕ). 1) (λ (m : ℕ). month_length leap (suc m)) (some-tested leap)

year-over : (leap : Bool) → before_month leap 13 ≡ year_length leap
unfolding opened
year-over true = refl
year-over false = refl

year-new : (leap : Bool) → before_month leap 1 ≡ 0
unfolding opened
year-new leap = refl

-- ---- the day after

found : (n : ℕ) (e : Date) → Parts e → day_of_date e ≡ n → date_of_day n ≡ e
found n e p q = ap date_of_day (sym q) ∙ date-back e (parts-date e p)

-- over the year's place y and the month's place m, both from 0
module _ (n y m k : ℕ) (is : n ≡ before_year (2000 + y) + (before_month (is_leap (2000 + y)) (suc m) + (k - 1))) (hy : y < 100) (hm : m < 12) (one : 1 ≤ k) where
  abbrev leap : Bool
  leap = is_leap (2000 + y)

  same-month : k < month_length leap (suc m) → date_of_day (suc n) ≡ date (2000 + y) (suc m) (suc k)
  unfolding day_of_date
  same-month h =
      found (suc n) (date (2000 + y) (suc m) (suc k))
      (record { first = omega arith; last = omega arith; low = omega arith; high = omega arith; least = omega arith; most = h })
      (omega arith)

  next-month : k ≡ month_length leap (suc m) → suc m < 12 → date_of_day (suc n) ≡ date (2000 + y) (suc (suc m)) 1
  unfolding day_of_date
  next-month e h =
      found (suc n) (date (2000 + y) (suc (suc m)) 1)
      (record { first = omega arith; last = omega arith; low = omega arith; high = omega arith; least = omega arith; most = month-some leap (suc m) h })
      (omega (arith, month-next leap m hm))

  next-year : k ≡ month_length leap (suc m) → suc m ≡ 12 → suc n < 36525 → date_of_day (suc n) ≡ date (suc (2000 + y)) 1 1
  unfolding day_of_date
  next-year e f h =
      let over : before_month leap (suc (suc m)) ≡ year_length leap = ap (λ (i : ℕ). before_month leap (suc i)) f ∙ year-over leap in
      let s : before_year (2000 + y) ≡ start y = year-start y (omega arith) in
      let l : start y + year_length leap ≡ start (suc y) = year-length y hy in
      let b : suc n ≡ start (suc y) = omega (arith, month-next leap m hm) in
      let a : suc (2000 + y) ≡ 2000 + suc y = omega arith in
      let t : before_year (suc (2000 + y)) ≡ start (suc y) = ap before_year a ∙ year-start (suc y) (omega arith) in
      found (suc n) (date (suc (2000 + y)) 1 1)
      (record { first = omega arith; last = omega arith; low = omega arith; high = omega arith; least = omega arith; most = month-some (is_leap (suc (2000 + y))) 0 (omega arith) })
      (omega (arith, year-new (is_leap (suc (2000 + y)))))

pub day-after : (n : ℕ) → is_day (suc n) ≡ true → is_day n ≡ true → date_of_day (suc n) ≡ tomorrow (date_of_day n)
unfolding day_of_date
day-after n h h' =
    let d : Date = date_of_day n in
    let p = date-parts d (date-there n h') in
    let y : ℕ = d.year - 2000 in
    let m : ℕ = d.month - 1 in
    let k : ℕ = d.day in
    let ey : 2000 + y ≡ d.year = omega arith in
    let em : suc m ≡ d.month = omega arith in
    let is : n ≡ before_year (2000 + y) + (before_month (is_leap (2000 + y)) (suc m) + (k - 1)) = rw (ey, em) (sym (day-back n h')) in
    let l : ℕ = month_length (is_leap d.year) d.month in
    by-lt k l
    (λ a. rw (lt-ltb k l a) (rw (ey, em) at (same-month n y m k is (omega arith) (omega arith) p.least (rw (ey, em) a))))
    (λ a. let e : k ≡ l = omega arith in
    by-lt d.month 12
    (λ b. rw (le-ltb k l a, lt-ltb d.month 12 b) (rw (ey, em) at (next-month n y m k is (omega arith) (omega arith) p.least (rw (ey, em) e) (omega arith))))
    (λ b. rw (le-ltb k l a, le-ltb d.month 12 b) (rw ey at (next-year n y m k is (omega arith) (omega arith) p.least (rw (ey, em) e) (omega arith) (day-below (suc n) h)))))
