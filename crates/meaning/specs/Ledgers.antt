-- Document 01, "The book": what a place holds, the places of a side's table, and the identifiers that are held.
use Rattle.std.specs.Prelude.{Bool, false, not, List, ℕ, zero, suc, ◌+◌, ◌-◌, ◌*◌, ◌/◌, ◌%◌, ℤ, pos, negsuc, length, get_or, replicate, if◌then◌else◌}
use Rattle.words.specs.Tests.{◌<?◌, ◌≤?◌, sameℤ, within}
use Rattle.words.specs.Lists.{find}
use Rattle.meaning.specs.Authorisations.{Authorisation, no_row, row_at}

-- A sort of notification: what a place holds, which value says that nothing stands, what an omitted period gets, which values are equal and
-- which may be notified.
pub record Sort : Type 1 where
  pub Val : Type 0
  pub nothing : Val
  pub omitted : Val
  pub same : Val → Val → Bool
  pub in_range : Val → Bool

-- "the mark -2,147,483,648 means nothing stands"
abbrev pub the_mark : ℤ
the_mark = negsuc 2147483647

-- "Volumes are whole kWh, from -99,999,999 to 99,999,999"; omitted is zero.
abbrev pub contracts : Sort
contracts = record { Val = ℤ; nothing = the_mark; omitted = pos 0; same = sameℤ; in_range = within 99999999 }

abbrev pub stands : (K : Sort) → K.Val → Bool
stands K v = not (K.same v K.nothing)

-- ---- places: 50 to a day, a slot's days together, the slots one after the other

unfoldable pub index : ℕ → ℕ → ℕ → ℕ → ℕ
index days slot d period = (slot * days + d) * 50 + (period - 1)

-- the slot, the day's place and the period of place j
unfoldable pub slot_at : ℕ → ℕ → ℕ
slot_at days j = j / 50 / days

unfoldable pub day_at : ℕ → ℕ → ℕ
day_at days j = j / 50 % days

unfoldable pub period_at : ℕ → ℕ
period_at j = suc (j % 50)

-- what a place of a side's table holds; outside the table nothing stands
unfoldable pub at : (K : Sort) → ℕ → List K.Val → ℕ → ℕ → ℕ → K.Val
at K days table slot d period = get_or table (index days slot d period) K.nothing

-- "slots times days times 50 volumes"
abbrev pub places : ℕ → ℕ → ℕ
places slots days = slots * days * 50

-- ---- identifiers

-- "An identifier is an originating authorisation number with a reference code": originator * 65,536 + reference, one number.
abbrev pub identifier_of : ℕ → ℕ → ℕ
identifier_of originator reference = originator * 65536 + reference

unfoldable pub originator_of : ℕ → ℕ
originator_of i = i / 65536

unfoldable pub reference_of : ℕ → ℕ
reference_of i = i % 65536

-- Each slot's entry in `held` is 0 where it is unheld, and one more than the identifier that it holds.
unfoldable pub is_held : List ℕ → ℕ → Bool
is_held held i = find (suc i) held <? length held

abbrev pub slot_of : List ℕ → ℕ → ℕ
slot_of held i = find (suc i) held

abbrev pub lowest_unheld : List ℕ → ℕ
lowest_unheld held = find 0 held

abbrev pub every_slot_held : List ℕ → Bool
every_slot_held held = length held ≤? lowest_unheld held

-- "A new identifier takes the lowest unheld slot."
unfoldable pub slot_for : List ℕ → ℕ → ℕ
slot_for held i = if is_held held i then slot_of held i else lowest_unheld held

-- an entry of `held` holds an identifier, and that one passes the test
abbrev pub holds : (ℕ → Bool) → ℕ → Bool
holds f zero = false
holds f (suc i) = f i

-- the originating authorisation of the identifier that an entry holds
abbrev pub origin_in : List Authorisation → ℕ → Authorisation
origin_in rows zero = no_row
origin_in rows (suc i) = row_at rows (originator_of i)

-- ---- a ledger: the held identifiers and both sides' tables

pub data Side : Type 0 where
  one two : Side

module _ (K : Sort) where
  pub record Ledger : Type 0 where
    pub held : List ℕ
    pub side1 : List K.Val
    pub side2 : List K.Val

  unfoldable pub empty_ledger : ℕ → ℕ → Ledger
  empty_ledger slots days =
      let blank = replicate (places slots days) K.nothing in
      record { held = replicate slots 0; side1 = blank; side2 = blank }

module _ {K : Sort} where
  abbrev pub side : Ledger K → Side → List K.Val
  side l one = l.side1
  side l two = l.side2
