-- A notification's volumes laid out for the days of a book (02, A1): a row of 50 places for each length that a day may have.
use Rattle.std.specs.Prelude.{Bool, List, ◌≡◌, ℕ, suc, ◌+◌, ◌-◌, ◌≤◌, ℤ, pos, get_or, replicate, if◌then◌else◌}
use Rattle.std.proofs.lemmas.List.Edits.{sets}
use Rattle.words.specs.Tests.{◌=?◌}
use Rattle.words.specs.Below.{some_below}
use Rattle.words.specs.Lists.{build}
use Rattle.meaning.specs.Time.{Time, periods_at, days}
use Rattle.meaning.specs.Messages.{source_of}

-- some day of the book has so many periods
unfoldable pub some_day_has : Time → ℕ → Bool
some_day_has t periods = some_below (days t) (λ (d : ℕ). periods_at t.codes d =? periods)

-- how many of the day's periods, from the first on, show the notification's period of the same number
unfoldable pub periods_kept : Bool → ℕ → ℕ
periods_kept single periods = if single then periods else if periods =? 46 then 2 else if periods =? 50 then 4 else periods

-- the first place of a length's row
unfoldable pub laid_from : ℕ → ℕ
laid_from periods = if periods =? 46 then 0 else if periods =? 48 then 50 else 100

-- what is laid out for a period of a day that has so many
unfoldable pub laid_volume : List ℤ → ℕ → ℕ → ℤ
laid_volume laid periods period = get_or laid (laid_from periods + (period - 1)) (pos 0)

-- the volumes of a notification's periods, placed on a day that has so many
unfoldable pub placed_on : Bool → List ℤ → ℕ → List ℤ
placed_on single volumes periods = build periods (λ (p : ℕ). get_or volumes (source_of single periods (suc p) - 1) (pos 0))

-- a length's row, laid out where the book has such a day
unfoldable pub row_laid : Time → Bool → List ℤ → ℕ → List ℤ → List ℤ
row_laid t single volumes periods laid = if some_day_has t periods then sets laid (laid_from periods) (placed_on single volumes periods) else laid

unfoldable pub laid_out : Time → Bool → List ℤ → List ℤ
laid_out t single volumes =
    let lay = row_laid t single volumes in
    lay 50 (lay 48 (lay 46 (replicate 150 (pos 0))))

-- a length that a day may have, and a volume for each period
pub record RowInside (periods given : ℕ) : Type 0 where
  pub few : periods ≤ 50
  pub all-given : given ≡ 50
