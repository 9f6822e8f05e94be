-- The parts that totals and figures are proved by: what a place counts, a sum as it is answered, and what is above or below zero.
use Rattle.std.specs.Prelude.{Bool, true, List, ◌≡◌, ℕ, ◌+◌, ◌≤◌, ◌<◌, ℤ, pos, nat_abs, ◌-ℤ◌, length, get_or, if◌then◌else◌}
use Rattle.words.specs.Tests.{within}
use Rattle.words.specs.Below.{sum_belowℤ}
use Rattle.meaning.specs.Time.{days}
use Rattle.meaning.specs.Authorisations.{Authorisation}
use Rattle.meaning.specs.Ledgers.{contracts, the_mark}
use Rattle.meaning.specs.Books.{Book}
use Rattle.meaning.specs.Soundness.{sound}
use Rattle.meaning.specs.Totals as Meaning
use Rattle.position.specs.declared.Totalled.{Totalled}
use Rattle.position.specs.declared.Sums.{Sums}
use Rattle.position.specs.declared.DayFigures.{DayFigures}

-- what the parts of a question know: the book is sound, and the day at place d is one of its days
pub record DayAsked (b : Book contracts) (d : ℕ) : Type 0 where
  pub is-sound : sound b ≡ true
  pub inside : d < days b.setting.time

-- a run of places is in both tables
pub record PartInside (first count : ℕ) (side1 side2 : List ℤ) : Type 0 where
  pub in1 : first + count ≤ length side1
  pub in2 : first + count ≤ length side2

-- what a place of the two tables counts for an account, under its identifier's originating authorisation
unfoldable pub counted_at : Authorisation → ℕ → List ℤ → List ℤ → ℕ → ℤ
counted_at origin account side1 side2 place =
    let v : ℤ = get_or side1 place the_mark in
    let w : ℤ = get_or side2 place the_mark in
    if Meaning.matches v w then Meaning.seen_by origin account v else pos 0

-- a sum as it is answered: 26 in its place where it is beyond 99,999,999,999 either way
unfoldable pub sum_answered : ℤ → Totalled
sum_answered kwh = if within 99999999999 kwh then record { answer = 0; kwh = kwh } else record { answer = 26; kwh = pos 0 }

-- what is below zero, negated, or what is above
unfoldable pub part_of : Bool → ℤ → ℤ
part_of below kwh = if below then Meaning.below_zero kwh else Meaning.above_zero kwh

-- a slot's parts over the periods of a day, whose first has this place in the tables
unfoldable pub slot_part : Bool → Authorisation → ℕ → List ℤ → List ℤ → ℕ → ℕ → ℤ
slot_part below origin account side1 side2 first periods = sum_belowℤ periods (λ (p : ℕ). part_of below (counted_at origin account side1 side2 (first + p)))

-- two sums, neither beyond the bound
pub record SumsOf (r : Sums) (sold bought : ℤ) (bound : ℕ) : Type 0 where
  pub sold-is : r.sold ≡ sold
  pub bought-is : r.bought ≡ bought
  pub sold-fits : nat_abs r.sold ≤ bound
  pub bought-fits : nat_abs r.bought ≤ bound

-- two sums and their difference in MWh
unfoldable pub figures_for : ℤ → ℤ → DayFigures
figures_for sold bought = record { sold = Meaning.mwh sold; bought = Meaning.mwh bought; net = Meaning.mwh (sold -ℤ bought) }
