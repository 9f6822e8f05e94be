-- The months of a year, leap or not: every day of the year stands in its month, and every day of a month has that month. Each claim is one test.
use mathlib.Core.Bool.{Bool, true, false}
use mathlib.Core.Path.{◌≡◌, refl}
use Prim.Native.Nat.{ℕ, suc, ◌+◌, ◌≤◌, ◌<◌}
use native.Mathlib.Omega.{arith}
use Rattle.words.specs.Tests.{◌=?◌, ◌<?◌, ◌≤?◌}
use Rattle.words.specs.Below.{every_below}
use Rattle.laws.proofs.Below.{every-at}
use Rattle.calendar.specs.Calendar.{month_length, before_month, year_length, month_of, opened}
use Rattle.laws.proofs.Tested.{same-below, le_below, lt-below}

-- ---- a day of the year

module _ (leap : Bool) where
  abbrev from : ℕ → ℕ
  from r = before_month leap (month_of leap r)

  abbrev to : ℕ → ℕ
  to r = before_month leap (month_of leap r) + month_length leap (month_of leap r)

froms-tested : (leap : Bool) → every_below (year_length leap) (λ (r : ℕ). from leap r ≤? r) ≡ true
unfolding opened every_below
froms-tested true = refl
froms-tested false = refl

tos-tested : (leap : Bool) → every_below (year_length leap) (λ (r : ℕ). r <? to leap r) ≡ true
unfolding opened every_below
tos-tested true = refl
tos-tested false = refl

twelve-tested : (leap : Bool) → every_below (year_length leap) (λ (r : ℕ). month_of leap r ≤? 12) ≡ true
unfolding opened every_below
twelve-tested true = refl
twelve-tested false = refl

pub record InMonth (leap : Bool) (r : ℕ) : Type 0 where
  pub begins : before_month leap (month_of leap r) ≤ r
  pub ends : r < before_month leap (month_of leap r) + month_length leap (month_of leap r)
  pub low : 1 ≤ month_of leap r
  pub high : month_of leap r ≤ 12

one-month : (leap : Bool) (r : ℕ) → 1 ≤ month_of leap r
unfolding month_of
one-month leap r = omega arith

pub in-month : (leap : Bool) (r : ℕ) → r < year_length leap → InMonth leap r
in-month leap r h =
    record {
      begins = le_below (year_length leap) (from leap) (λ (r : ℕ). r) (froms-tested leap) r h;
      ends = lt-below (year_length leap) (λ (r : ℕ). r) (to leap) (tos-tested leap) r h;
      low = one-month leap r;
      high = le_below (year_length leap) (month_of leap) (λ (r : ℕ). 12) (twelve-tested leap) r h;
    }

-- ---- a day of a month; m and d count from 0

abbrev lies : Bool → ℕ → ℕ → ℕ
lies leap m d = before_month leap (suc m) + d

backs-tested : (leap : Bool) → every_below 12 (λ (m : ℕ). every_below (month_length leap (suc m)) (λ (d : ℕ). month_of leap (lies leap m d) =? suc m)) ≡ true
unfolding opened every_below
backs-tested true = refl
backs-tested false = refl

inside-tested : (leap : Bool) → every_below 12 (λ (m : ℕ). before_month leap (suc m) + month_length leap (suc m) ≤? year_length leap) ≡ true
unfolding opened every_below
inside-tested true = refl
inside-tested false = refl

pub month-back : (leap : Bool) (m d : ℕ) → m < 12 → d < month_length leap (suc m) → month_of leap (before_month leap (suc m) + d) ≡ suc m
month-back leap m d h =
    same-below (month_length leap (suc m)) (λ (d : ℕ). month_of leap (lies leap m d)) (λ (d : ℕ). suc m)
    (every-at 12 (λ (m : ℕ). every_below (month_length leap (suc m)) (λ (d : ℕ). month_of leap (lies leap m d) =? suc m)) (backs-tested leap) m h) d

pub in-year : (leap : Bool) (m d : ℕ) → m < 12 → d < month_length leap (suc m) → before_month leap (suc m) + d < year_length leap
in-year leap m d h k =
    omega (arith, le_below 12 (λ (m : ℕ). before_month leap (suc m) + month_length leap (suc m)) (λ (m : ℕ). year_length leap) (inside-tested leap) m h)

-- ---- how large they are

shorts-tested : (leap : Bool) → every_below 13 (λ (m : ℕ). month_length leap m ≤? 31) ≡ true
unfolding opened every_below
shorts-tested true = refl
shorts-tested false = refl

pub month-short : (leap : Bool) (m : ℕ) → m ≤ 12 → month_length leap m ≤ 31
month-short leap m h = le_below 13 (month_length leap) (λ (m : ℕ). 31) (shorts-tested leap) m (omega arith)

befores-tested : (leap : Bool) → every_below 13 (λ (m : ℕ). before_month leap m ≤? 335) ≡ true
unfolding opened every_below
befores-tested true = refl
befores-tested false = refl

pub before-short : (leap : Bool) (m : ℕ) → m ≤ 12 → before_month leap m ≤ 335
before-short leap m h = le_below 13 (before_month leap) (λ (m : ℕ). 335) (befores-tested leap) m (omega arith)

pub year-short : (leap : Bool) → year_length leap ≤ 366
year-short true = omega arith
year-short false = omega arith
