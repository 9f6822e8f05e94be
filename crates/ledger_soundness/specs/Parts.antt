-- What the functions of `soundness` answer of places and runs of places.
use Rattle.std.specs.Prelude.{Bool, not, ◌&&◌, ◌||◌, List, ◌≡◌, ℕ, ◌+◌, ◌-◌, ◌*◌, ◌≤◌, ◌<◌, ℤ, length, get_or, if◌then◌else◌}
use Rattle.words.specs.Tests.{◌<?◌, ◌≤?◌, ◌=?◌, within}
use Rattle.words.specs.Below.{every_below}
use Rattle.meaning.specs.Time.{periods_at}
use Rattle.meaning.specs.Ledgers.{contracts, the_mark, stands, index, places}
use Rattle.meaning.specs.Soundness.{table_right}
use Rattle.clock.specs.Structs.{time_of}
use Rattle.clock.specs.declared.Clock.{Clock}

-- nothing stands
abbrev pub blank : ℤ → Bool
blank v = not (stands contracts v)

-- nothing stands, or a volume in range
unfoldable pub right : ℤ → Bool
right v = blank v || within 99999999 v

-- one of the numbers below n: of so many authorisations, the known ones
abbrev pub below : ℕ → ℕ → Bool
below n k = k <? n

-- an entry that is not this one
abbrev pub other : ℕ → ℕ → Bool
other entry x = not (x =? entry)

-- the periods of a day: 46 to 50, and none where its code is unknown
pub record DayLength (periods : ℕ) : Type 0 where
  pub most : periods ≤ 50
  pub least : periods < 46 → periods ≡ 0

-- the 50 places of a slot's day from `base` on
unfoldable pub row_right : List ℤ → ℕ → ℕ → Bool → Bool
row_right side base periods held =
    if held
    then every_below periods (λ (k : ℕ). right (get_or side (base + k) the_mark))
    && every_below (50 - periods) (λ (k : ℕ). blank (get_or side (base + periods + k) the_mark))
    else every_below 50 (λ (k : ℕ). blank (get_or side (base + k) the_mark))

-- every day of a slot
unfoldable pub days_right : List ℤ → ℕ → Bool → Clock → Bool
days_right side slot held c =
    every_below c.days (λ (d : ℕ). row_right side (index c.days slot d 1) (periods_at (time_of c).codes d) held)

-- the slot's places are inside the table, and its days are few
pub record SlotInside (side : List ℤ) (slot days : ℕ) : Type 0 where
  pub days-few : days ≤ 8
  pub inside : (slot + 1) * (days * 50) ≤ length side

-- a table of the right length, of few days and slots, whose every place is right
unfoldable pub side_right : List ℤ → List ℕ → Clock → Bool
side_right side held c =
    c.days ≤? 8 && length held ≤? 256 && length side =? places (length held) c.days
    && table_right contracts (time_of c).codes held side
