-- Document 02, A2: the calendar from 2000 to 2099. Day 0 is 1 January 2000, and a day is counted by the years, the months and the days before it.
use Rattle.std.specs.Prelude.{Bool, not, ◌&&◌, ◌||◌, [], ◌∷◌, ℕ, suc, ◌+◌, ◌-◌, ◌*◌, ◌/◌, ◌%◌, get_or, if◌then◌else◌}
use Rattle.words.specs.Tests.{◌<?◌, ◌=?◌, between}
use Rattle.words.specs.Below.{some_below, first_below, sum_below}

-- Months count from 1, days of a month too.
pub record Date : Type 0 where
  pub year : ℕ
  pub month : ℕ
  pub day : ℕ

unfoldable pub is_leap : ℕ → Bool
is_leap year = year % 4 =? 0 && (not (year % 100 =? 0) || year % 400 =? 0)

-- ---- within a year, which is a leap year or none

unfoldable pub month_length : Bool → ℕ → ℕ
month_length leap month =
    if leap && month =? 2 then 29 else
    get_or (31 ∷ 28 ∷ 31 ∷ 30 ∷ 31 ∷ 30 ∷ 31 ∷ 31 ∷ 30 ∷ 31 ∷ 30 ∷ 31 ∷ []) (month - 1) 0

-- the days of the months before it
unfoldable pub before_month : Bool → ℕ → ℕ
before_month leap month = sum_below (month - 1) (λ (k : ℕ). month_length leap (suc k))

abbrev pub year_length : Bool → ℕ
year_length leap = if leap then 366 else 365

-- the first month that is not over by this day of the year, which counts from 0
unfoldable pub month_of : Bool → ℕ → ℕ
month_of leap day_of_year = suc (first_below 12 (λ (k : ℕ). day_of_year <? before_month leap (2 + k)))

-- ---- dates and day numbers

-- the days of the years from 2000 on before it
unfoldable pub before_year : ℕ → ℕ
before_year year = sum_below (year - 2000) (λ (k : ℕ). year_length (is_leap (2000 + k)))

-- "in 2000 to 2099"
unfoldable pub is_day : ℕ → Bool
is_day n = n <? before_year 2100

-- some of so many days from a first one on is not
unfoldable pub some_day_outside : ℕ → ℕ → Bool
some_day_outside first days = some_below days (λ (d : ℕ). not (is_day (first + d)))

unfoldable pub is_date : Date → Bool
is_date d =
    between 2000 2099 d.year && between 1 12 d.month
    && between 1 (month_length (is_leap d.year) d.month) d.day

-- "day number from date"
unfoldable pub day_of_date : Date → ℕ
day_of_date d = before_year d.year + (before_month (is_leap d.year) d.month + (d.day - 1))

-- "and back", which need not be believed: `day-back` and `date-back` (proofs/Inverse.antt) pin it. Four years have 1,461 days, the first of them being
-- the leap year; from 2000 to 2099 none is left out.
unfoldable pub year_of : ℕ → ℕ
year_of n = 2000 + 4 * n / 1461

unfoldable pub date_of_day : ℕ → Date
date_of_day n =
    let year : ℕ = year_of n in
    let day_of_year : ℕ = n - before_year year in
    let month : ℕ = month_of (is_leap year) day_of_year in
    record { year = year; month = month; day = suc (day_of_year - before_month (is_leap year) month) }

-- ---- clock-change days

-- "day 0 is a Saturday": Monday is 0, Saturday 5, Sunday 6
unfoldable pub weekday : ℕ → ℕ
weekday n = (n + 5) % 7

abbrev pub is_sunday : ℕ → Bool
is_sunday n = weekday n =? 6

-- a Sunday of the month, and seven days later the month is over
unfoldable pub is_last_sunday : ℕ → ℕ → Bool
is_last_sunday month n =
    is_sunday n && ((date_of_day n).month =? month && month_length (is_leap (date_of_day n).year) month <? (date_of_day n).day + 7)

-- "the last Sunday of March (46) and of October (50)"; any other day has 48
unfoldable pub length_of : ℕ → ℕ
length_of n = if is_last_sunday 3 n then 46 else if is_last_sunday 10 n then 50 else 48

-- its code in a setup, "0, 1, 2 for 46, 48, 50" (document 01)
abbrev pub code_for : ℕ → ℕ
code_for periods = if periods =? 46 then 0 else if periods =? 48 then 1 else 2

unfoldable pub code_of : ℕ → ℕ
code_of n = code_for (length_of n)

-- for what is computed of it
unfoldable pub opened : Unit {0}
unfolding is_leap month_length before_month month_of before_year is_day is_date day_of_date year_of date_of_day weekday is_last_sunday length_of code_of first_below sum_below
opened = tt
