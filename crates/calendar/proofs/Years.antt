-- The years 2000 to 2099 in closed form: year 2000 + y begins on day (1461 * y + 3) / 4. Tested over the hundred years.
use mathlib.Core.Bool.{true, false}
use mathlib.Core.Path.{◌≡◌, refl}
use Prim.Native.Nat.{ℕ, suc, ◌+◌, ◌*◌, ◌/◌, ◌≤◌, ◌<◌}
use native.Mathlib.Omega.{arith}
use borrow.Author.Tests.{ltb-true, lt-ltb, le-ltb}
use Rattle.words.specs.Tests.{◌=?◌}
use Rattle.words.specs.Below.{every_below}
use Rattle.calendar.specs.Calendar.{is_leap, year_length, before_year, is_day, opened}
use Rattle.laws.proofs.Tested.{same-below}

-- the days before year 2000 + y
abbrev pub start : ℕ → ℕ
start y = (1461 * y + 3) / 4

starts-tested : every_below 101 (λ (y : ℕ). before_year (2000 + y) =? start y) ≡ true
unfolding opened every_below
starts-tested = refl

lengths-tested : every_below 100 (λ (y : ℕ). start y + year_length (is_leap (2000 + y)) =? start (suc y)) ≡ true
unfolding opened every_below
lengths-tested = refl

pub year-start : (y : ℕ) → y ≤ 100 → before_year (2000 + y) ≡ start y
year-start y h = same-below 101 (λ (y : ℕ). before_year (2000 + y)) start starts-tested y (omega arith)

pub year-length : (y : ℕ) → y < 100 → start y + year_length (is_leap (2000 + y)) ≡ start (suc y)
year-length y h = same-below 100 (λ (y : ℕ). start y + year_length (is_leap (2000 + y))) (λ (y : ℕ). start (suc y)) lengths-tested y h

-- ---- days from 0 to 36,524

pub day-below : (n : ℕ) → is_day n ≡ true → n < 36525
unfolding is_day
day-below n h = omega (arith, ltb-true n (before_year 2100) h, year-start 100 (omega arith))

pub below-day : (n : ℕ) → n < 36525 → is_day n ≡ true
unfolding is_day
below-day n h = lt-ltb n (before_year 2100) (omega (arith, year-start 100 (omega arith)))

pub day-out : (n : ℕ) → 36524 < n → is_day n ≡ false
unfolding is_day
day-out n h = le-ltb n (before_year 2100) (omega (arith, year-start 100 (omega arith)))
