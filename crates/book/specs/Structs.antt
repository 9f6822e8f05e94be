-- The structs of `book` and the lent tables, and the book that they hold together.
use Rattle.std.specs.Prelude.{◌&&◌, List, ℕ, zero, suc, ◌-◌, min, ℤ, if◌then◌else◌}
use Rattle.words.specs.Tests.{◌<?◌}
use Rattle.meaning.specs.Time.{Time}
use Rattle.meaning.specs.Authorisations.{Authorisation}
use Rattle.meaning.specs.Settings.{Setting}
use Rattle.meaning.specs.Ledgers.{contracts, originator_of}
use Rattle.meaning.specs.Books as Meaning
use Rattle.clock.specs.declared.Clock.{Clock}
use Rattle.setups.specs.declared.Authorisation as Setups
use Rattle.setups.specs.declared.Setup.{Setup}
use Rattle.setups.specs.Structs.{no_authorisation, codes_of, rows_of}
use Rattle.book.specs.declared.Book.{Book}
use Rattle.book.specs.declared.BookView.{BookView}

-- the days and the clock, and the same by value
abbrev pub time_in : Book → Time
time_in b = record { first = b.setup.first; codes = codes_of b.setup.days b.setup.codes; closed = b.closed }

abbrev pub clock_in : Book → Clock
clock_in b = record { first = b.setup.first; days = b.setup.days; codes = b.setup.codes; closed = b.closed }

-- the authorisations
abbrev pub rows_in : Setup → List Authorisation
rows_in s = rows_of s.authorisations s.rows

-- where the array would have the originating one of the identifier that an entry holds: a place of the array in any case
unfoldable pub origin_place : ℕ → ℕ
origin_place entry = min (originator_of (entry - 1)) 63

-- and that one, of so many authorisations, where the array has `row` there; all zero where the entry holds none, or there is none of that number
unfoldable pub origin_row : ℕ → ℕ → Setups.Authorisation → Setups.Authorisation
origin_row authorisations zero row = no_authorisation
origin_row authorisations (suc i) row = if originator_of i <? authorisations && originator_of i <? 64 then row else no_authorisation

-- the setting: all that a call sees beside the lent tables
abbrev pub setting_in : Book → Setting
setting_in b = record { time = time_in b; accounts = b.setup.accounts; rows = rows_in b.setup }

-- a book by value beside its lent tables: held, side 1, side 2
abbrev pub book_of : Book → List ℕ → List ℤ → List ℤ → Meaning.Book contracts
book_of b held side1 side2 = record { setting = setting_in b; ledger = record { held = held; side1 = side1; side2 = side2 } }

-- the same where the four are seen together
abbrev pub book_seen : BookView → Meaning.Book contracts
book_seen view = book_of view.book view.held.now view.side1.now view.side2.now
