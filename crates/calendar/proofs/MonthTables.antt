-- The code's tables and its guess of the month, each tested over all months or all days of a year, leap or not.
use mathlib.Core.Bool.{Bool, true, false, ◌&&◌}
use mathlib.Core.List.{List, [], ◌∷◌}
use mathlib.Core.Path.{◌≡◌, refl, sym}
use Prim.Native.Nat.{ℕ, ◌+◌, ◌-◌, ◌/◌, ◌≤◌, ◌<◌}
use borrow.Author.Tests.{lt-ltb, le-ltb, le-leb, lt-leb}
use lib.ListN.{get_or}
use Rattle.std.specs.Prelude.{if◌then◌else◌}
use Rattle.words.specs.Tests.{◌=?◌, ◌<?◌, ◌≤?◌}
use Rattle.words.specs.Below.{every_below}
use Rattle.calendar.specs.Calendar.{before_month, year_length, month_of, opened}
use Rattle.laws.proofs.Tested.{same-below}

abbrev before : List ℕ
before = 0 ∷ 31 ∷ 59 ∷ 90 ∷ 120 ∷ 151 ∷ 181 ∷ 212 ∷ 243 ∷ 273 ∷ 304 ∷ 334 ∷ []

abbrev pub before_by : Bool → ℕ → ℕ
before_by leap month = get_or before (month - 1) 0 + (if leap && 2 <? month then 1 else 0)

abbrev pub guess : ℕ → ℕ
guess r = r / 32 + 1

abbrev month_by : Bool → ℕ → ℕ
month_by leap r = if guess r <? 12 && before_month leap (guess r + 1) ≤? r then guess r + 1 else guess r

before-tested : (leap : Bool) → every_below 13 (λ (m : ℕ). before_month leap m =? before_by leap m) ≡ true
unfolding opened every_below
before-tested true = refl
before-tested false = refl

guess-tested : (leap : Bool) → every_below (year_length leap) (λ (r : ℕ). month_of leap r =? month_by leap r) ≡ true
unfolding opened every_below
guess-tested true = refl
guess-tested false = refl

pub before-by : (leap : Bool) (month : ℕ) → month < 13 → before_month leap month ≡ before_by leap month
before-by leap = same-below 13 (before_month leap) (before_by leap) (before-tested leap)

-- the next month where that has begun, else the guess
module _ (leap : Bool) (r : ℕ) (h : r < year_length leap) where
  month-by : month_by leap r ≡ month_of leap r
  month-by = sym (same-below (year_length leap) (month_of leap) (month_by leap) (guess-tested leap) r h)

  pub month-last : 12 ≤ guess r → guess r ≡ month_of leap r
  month-last l = rw (le-ltb (guess r) 12 l) at month-by

  module _ (b : ℕ) (e : b ≡ before_month leap (guess r + 1)) (l : guess r < 12) where
    pub month-next : b ≤ r → guess r + 1 ≡ month_of leap r
    month-next p = rw (lt-ltb (guess r) 12 l, ← e, le-leb b r p) at month-by

    pub month-guessed : r < b → guess r ≡ month_of leap r
    month-guessed p = rw (lt-ltb (guess r) 12 l, ← e, lt-leb b r p) at month-by
