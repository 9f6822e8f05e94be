-- The sum is the definition; a date's day is in the calendar, so it fits.
use mathlib.Core.Bool.{Bool, true}
use mathlib.Core.Path.{◌≡◌, sym, ap, ◌∙◌}
use Prim.Native.Nat.{ℕ, ◌+◌, ◌-◌, ◌<◌}
use native.Mathlib.Omega.{arith}
use Rattle.calendar.specs.Calendar as Calendar
use Rattle.calendar.specs.Calendar.{is_date, day_of_date, before_month}
use Rattle.calendar.specs.Answers.{date_of, numbered}
use Rattle.calendar.proofs.Years.{day-below}
use Rattle.calendar.proofs.Inverse.{Parts, date-parts, day-there}
use Rattle.calendar.proofs.dates.day_of_date.Goals as goal
use Rattle.calendar.proofs.dates.day_of_date.Goals.{After-before_month-months, Else-not-is_date}

module _ (c : Else-not-is_date) where
  abbrev date : Calendar.Date
  date = let a = c.args in date_of a.year a.month a.day

  there : is_date date ≡ true
  there = sym c.is_date.ensures ∙ c.if-not-is_date.false

  parts : Parts date
  parts = date-parts date there

sums : {a a' b b' : ℕ} (k : ℕ) → a ≡ a' → b ≡ b' → a + (b + k) ≡ a' + (b' + k)
sums k p q = rw (p, q)

-- the sum is the day's number
module _ (c : After-before_month-months) where
  abbrev accepted : Else-not-is_date
  accepted = c.before.before.before

  sum_is : c.before_year-years.result + (c.before_month-months.result + ((date accepted).day - 1)) ≡ day_of_date (date accepted)
  unfolding day_of_date
  sum_is =
      let leap = ap (λ (l : Bool). before_month l (date accepted).month) c.is_leap.ensures in
      sums ((date accepted).day - 1) c.before_year-years.ensures (c.before_month-months.ensures ∙ leap)

  sum_fits : day_of_date (date accepted) < 36525
  sum_fits = day-below (day_of_date (date accepted)) (day-there (date accepted) (there accepted))

pub returns-then-not-is_date : goal.returns-then-not-is_date
unfolding numbered
returns-then-not-is_date c = rw (sym c.is_date.ensures ∙ c.if-not-is_date.true)

pub before_year-years-requires : goal.before_year-years-requires
before_year-years-requires c = let p = parts (goal.at.before_year-years-requires c).Else-not-is_date in (omega arith, omega arith)

pub before_month-months-requires : goal.before_month-months-requires
before_month-months-requires c = let p = parts (goal.at.before_month-months-requires c).Else-not-is_date in (omega arith, omega arith)

pub overflow_sub-result : goal.overflow_sub-result
overflow_sub-result c = let p = parts (goal.at.overflow_sub-result c).Else-not-is_date in omega arith

pub overflow_add-result : goal.overflow_add-result
overflow_add-result c = omega (arith, sum_is (goal.at.overflow_add-result c).After-before_month-months, sum_fits (goal.at.overflow_add-result c).After-before_month-months)

pub overflow_add-result-2 : goal.overflow_add-result-2
overflow_add-result-2 c = omega (arith, sum_is (goal.at.overflow_add-result-2 c).After-before_month-months, sum_fits (goal.at.overflow_add-result-2 c).After-before_month-months)

pub overflow_cast-result : goal.overflow_cast-result
overflow_cast-result c = omega (arith, sum_is (goal.at.overflow_cast-result c).After-before_month-months, sum_fits (goal.at.overflow_cast-result c).After-before_month-months)

pub returns : goal.returns
unfolding numbered
returns c =
    rw (there (goal.at.returns c).Else-not-is_date) (ap (λ (n : ℕ). record { answer = 0; day = n }) (sum_is (goal.at.returns c).After-before_month-months))
