-- Each step by what the step before gave (Steps.antt).
use mathlib.Core.Path.{◌≡◌, ap}
use Prim.Native.Nat.{ℕ, ◌+◌, ◌-◌, ◌≤◌, ◌<◌}
use native.Mathlib.Omega.{arith}
use Rattle.calendar.specs.Calendar as Calendar
use Rattle.calendar.specs.Calendar.{year_length, date_of_day}
use Rattle.calendar.specs.Answers.{date_of, date_struct, dated}
use Rattle.calendar.proofs.Years.{below-day, day-out}
use Rattle.calendar.proofs.Steps.{step-year, step-rest, step-month, step-day, step-date}
use Rattle.calendar.proofs.dates.date_of_day.Goals as goal
use Rattle.calendar.proofs.dates.date_of_day.Goals.{After-before_month-before, After-before_year, After-month_of-month, After-year_of-year}

module _ (c : After-year_of-year) where
  abbrev n : ℕ
  n = c.args.day

  abbrev year : ℕ
  year = c.year_of-year.result

  year-inside : (2000 ≤ year) × (year ≤ 2099)
  year-inside = step-year n (omega arith) year c.year_of-year.ensures

module _ (c : After-before_year) where
  abbrev asked : After-year_of-year
  asked = c.before.before

  abbrev rest : ℕ
  rest = n asked - c.before_year.result

  rest-inside : (c.before_year.result ≤ n asked) × (rest < year_length c.is_leap-leap.result)
  rest-inside = step-rest (n asked) (omega arith) (year asked) asked.year_of-year.ensures _ c.is_leap-leap.ensures _ c.before_year.ensures

module _ (c : After-month_of-month) where
  abbrev known : After-before_year
  known = c.before

  month-inside : (1 ≤ c.month_of-month.result) × (c.month_of-month.result ≤ 12)
  month-inside =
      step-month (n (asked known)) (omega arith) (year (asked known)) (asked known).year_of-year.ensures _ known.is_leap-leap.ensures _ known.before_year.ensures _ c.month_of-month.ensures

module _ (c : After-before_month-before) where
  abbrev seen : After-before_year
  seen = c.before.before

  day-inside : (c.before_month-before.result ≤ rest seen) × (rest seen - c.before_month-before.result < 31)
  day-inside =
      step-day (n (asked seen)) (omega arith) (year (asked seen)) (asked seen).year_of-year.ensures _ seen.is_leap-leap.ensures _ seen.before_year.ensures
      _ c.month_of-month.ensures _ c.before_month-before.ensures

  date-is : date_of (year (asked seen)) c.month_of-month.result (rest seen - c.before_month-before.result + 1) ≡ date_of_day (n (asked seen))
  date-is =
      step-date (n (asked seen)) (omega arith) (year (asked seen)) (asked seen).year_of-year.ensures _ seen.is_leap-leap.ensures _ seen.before_year.ensures
      _ c.month_of-month.ensures _ c.before_month-before.ensures

pub returns-then-day-gt-LAST_DAY : goal.returns-then-day-gt-LAST_DAY
unfolding dated
returns-then-day-gt-LAST_DAY c = rw (day-out c.args.day (omega arith))

pub before_year-requires : goal.before_year-requires
before_year-requires c = year-inside (goal.at.before_year-requires c).After-year_of-year

pub overflow_sub-rest : goal.overflow_sub-rest
overflow_sub-rest c = (rest-inside (goal.at.overflow_sub-rest c).After-before_year).0

pub month_of-month-requires : goal.month_of-month-requires
month_of-month-requires c = (rest-inside (goal.at.month_of-month-requires c).After-before_year).1

pub before_month-before-requires : goal.before_month-before-requires
before_month-before-requires c = month-inside (goal.at.before_month-before-requires c).After-month_of-month

pub overflow_cast-result : goal.overflow_cast-result
overflow_cast-result c = omega (arith, year-inside (goal.at.overflow_cast-result c).After-year_of-year)

pub overflow_cast-result-2 : goal.overflow_cast-result-2
overflow_cast-result-2 c = omega (arith, month-inside (goal.at.overflow_cast-result-2 c).After-month_of-month)

pub overflow_sub-result : goal.overflow_sub-result
overflow_sub-result c = (day-inside (goal.at.overflow_sub-result c).After-before_month-before).0

pub overflow_add-result : goal.overflow_add-result
overflow_add-result c = omega (arith, (day-inside (goal.at.overflow_add-result c).After-before_month-before).1)

pub overflow_cast-result-3 : goal.overflow_cast-result-3
overflow_cast-result-3 c = omega (arith, (day-inside (goal.at.overflow_cast-result-3 c).After-before_month-before).1)

pub returns : goal.returns
unfolding dated
returns c =
    rw (below-day c.args.day (omega arith)) (ap (λ (d : Calendar.Date). record { answer = 0; date = date_struct d }) (date-is (goal.at.returns c).After-before_month-before))
