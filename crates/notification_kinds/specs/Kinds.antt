-- What the search for a notification's kind asks of a book and its lent tables, and what its parts answer.
use Rattle.std.specs.Prelude.{Bool, ◌&&◌, ◌||◌, List, ◌≡◌, ℕ, suc, ◌≤◌, ◌<◌, ℤ, length, get_or, if◌then◌else◌}
use Rattle.words.specs.Tests.{◌≤?◌, ◌=?◌, between}
use Rattle.meaning.specs.Time.{Time, periods_at, day_number}
use Rattle.meaning.specs.Ledgers.{contracts, the_mark, stands, index, places}
use Rattle.meaning.specs.Messages.{Notification}
use Rattle.meaning.specs.Books as Books
use Rattle.meaning.specs.Notifications.{states_on, kind_of, kind_number}
use Rattle.book.specs.declared.Book.{Book}
use Rattle.book.specs.Structs.{book_of}

-- the tables have a place for each slot, day and period, and there are few
pub record Fits (b : Book) (held : List ℕ) (side1 side2 : List ℤ) : Type 0 where
  pub days-few : b.setup.days ≤ 8
  pub slots-few : length held ≤ 256
  pub table1 : length side1 ≡ places (length held) b.setup.days
  pub table2 : length side2 ≡ places (length held) b.setup.days

-- the place of a slot, a day's place and a period's is in both tables, and there are few slots and periods
pub record Inside (side1 side2 : List ℤ) (days s d p : ℕ) : Type 0 where
  pub slot-few : s < 256
  pub period-few : p < 50
  pub in1 : index days s d (suc p) < length side1
  pub in2 : index days s d (suc p) < length side2

-- a place states something, on a side that is written
unfoldable pub states_place : List ℤ → List ℤ → Bool → Bool → ℕ → Bool
states_place side1 side2 w1 w2 i =
    (w1 && stands contracts (get_or side1 i the_mark)) || (w2 && stands contracts (get_or side2 i the_mark))

-- the periods of a day that is not before `first`; of one of `first` to `last`; none of another
unfoldable pub periods_from : Time → ℕ → ℕ → ℕ
periods_from t first d = if first ≤? day_number t d then periods_at t.codes d else 0

unfoldable pub periods_within : Time → ℕ → ℕ → ℕ → ℕ
periods_within t first last d = if between first last (day_number t d) then periods_at t.codes d else 0

-- a slot states something on a day that is not before the notification's first
abbrev pub from_first : Books.Book contracts → Notification contracts → ℕ → ℕ → Bool
from_first b n s d = n.first ≤? day_number b.setting.time d && states_on b n s d

-- the tables fit, as a test; and what is answered where they do not
unfoldable pub fits : Book → ℕ → ℕ → ℕ → Bool
fits b slots lent1 lent2 =
    b.setup.days ≤? 8 && slots ≤? 256 && lent1 =? places slots b.setup.days && lent2 =? places slots b.setup.days

unfoldable pub kind_answer : Book → List ℕ → List ℤ → List ℤ → Notification contracts → ℕ
kind_answer b held side1 side2 n =
    if fits b (length held) (length side1) (length side2) then kind_number (kind_of (book_of b held side1 side2) n) else 0
