-- What an accepted message makes of the places of one slot, on one side.
use Rattle.std.specs.Prelude.{Bool, ◌&&◌, List, ◌≡◌, ℕ, ◌<◌, ℤ, length, if◌then◌else◌}
use Rattle.words.specs.Tests.{◌<?◌, ◌≤?◌, ◌=?◌}
use Rattle.meaning.specs.Time.{Time, periods_at, is_period_at, is_open_at, days, day_number}
use Rattle.meaning.specs.Authorisations.{Authorisation, row_at, is_pair}
use Rattle.meaning.specs.Ledgers.{contracts, the_mark, slot_at, day_at, period_at, originator_of, holds, Side}
use Rattle.meaning.specs.Messages.{Message, nullification, rewritten}
use Rattle.book.specs.declared.Book.{Book}
use Rattle.book.specs.Structs.{time_in, rows_in}

-- the open places of the slot from the first day on: the volume by the day's length and the period on the days before `until`, and the mark from there on
unfoldable pub slot_rule : Time → ℕ → ℕ → ℕ → (ℕ → ℕ → ℤ) → ℕ → ℤ → ℤ
slot_rule t slot first until volumes j old =
    let d = day_at (days t) j in
    if slot_at (days t) j =? slot
    && (is_period_at t.codes d (period_at j) && is_open_at t.codes t.closed d (period_at j) && first ≤? day_number t d)
    then if day_number t d <? until then volumes (periods_at t.codes d) (period_at j) else the_mark
    else old

-- a rewriting of the places that pass a test only
unfoldable pub only : (ℕ → Bool) → (ℕ → ℤ → ℤ) → ℕ → ℤ → ℤ
only p f j old = if p j then f j old else old

-- one of the book's days, and three rows laid out
pub record DayInside (d n given : ℕ) : Type 0 where
  pub day-inside : d < n
  pub all-given : given ≡ 150

-- a slot's entry holds an identifier between the two accounts
unfoldable pub pair_in : List Authorisation → ℕ → ℕ → ℕ → Bool
pair_in rows account other entry = holds (λ (i : ℕ). is_pair (row_at rows (originator_of i)) account other) entry

abbrev pub nullified : ℕ → ℕ → ℕ → Message contracts
nullified account other first = nullification (record { account = account; other = other; first = first })

-- a side's table after a nullification; more slots than a book has stay
unfoldable pub pair_blanked : Book → ℕ → ℕ → ℕ → List ℕ → Side → List ℤ → List ℤ
pair_blanked b account other first held σ side =
    if length held ≤? 256 then rewritten (rows_in b.setup) (time_in b) (nullified account other first) held σ side else side
