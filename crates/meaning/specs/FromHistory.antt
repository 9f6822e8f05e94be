-- What the history alone says of identifiers, of an account's total and of the bars: over the accepted calls and the setting, with no table.
use Rattle.std.specs.Prelude.{Bool, false, List, [], ◌∷◌, ◌++◌, ℕ, ◌*◌, ℤ, pos, length, if◌then◌else◌}
use Rattle.words.specs.Tests.{◌=?◌}
use Rattle.words.specs.Below.{sum_belowℤ}
use Rattle.words.specs.Lists.{any, once}
use Rattle.meaning.specs.Time.{periods_on}
use Rattle.meaning.specs.Authorisations.{row_at}
use Rattle.meaning.specs.Settings.{Setting}
use Rattle.meaning.specs.Ledgers.{Sort, contracts, originator_of, one, two}
use Rattle.meaning.specs.Messages.{notification, nullification}
use Rattle.meaning.specs.Calls.{Call, gate, message}
use Rattle.meaning.specs.History.{Event, decides}
use Rattle.meaning.specs.Totals.{matches, seen_by}
use Rattle.meaning.specs.Bars.{Bar, map_bar, bar_of}

module _ {K : Sort} where
  -- the call notifies the identifier
  abbrev pub notifies : ℕ → Call K → Bool
  notifies i gate = false
  notifies i (message (notification n)) = i =? n.identifier
  notifies i (message (nullification x)) = false

  -- one of the accepted calls does
  abbrev pub was_accepted : List (Event K) → ℕ → Bool
  was_accepted events i = any (λ (e : Event K). notifies i e.call) events

  -- the identifier that a call notifies: a notification one, a gate and a nullification none
  abbrev pub identifier_in : Call K → List ℕ
  identifier_in gate = []
  identifier_in (message (notification n)) = n.identifier ∷ []
  identifier_in (message (nullification x)) = []

  -- those of accepted calls, one after the other
  unfoldable pub identifiers_in : List (Event K) → List ℕ
  identifiers_in [] = []
  identifiers_in (e ∷ es) = identifier_in e.call ++ identifiers_in es

  -- "that many different identifiers have been accepted": each once, in the order of their first acceptance
  unfoldable pub accepted_identifiers : List (Event K) → List ℕ
  accepted_identifiers events = once (identifiers_in events)

-- "A period matches when both sides stand and are equal." What an identifier counts for an account: what the history gives it on both sides where
-- that matches, "plus for account 1, minus for account 2" of its originating authorisation; else zero. The setting is the book's now: its rows say
-- who the parties are, and its days how many periods a day has.
unfoldable pub counted_from_history : Setting → List (Event contracts) → ℕ → ℕ → ℕ → ℕ → ℤ
counted_from_history s events account D period i =
    let v : ℤ = decides events i one D (periods_on s.time D) period in
    let w : ℤ = decides events i two D (periods_on s.time D) period in
    if matches v w then seen_by (row_at s.rows (originator_of i)) account v else pos 0

-- In the customer's words: "An account's total is the sum over identifiers where both sides stand and are equal, plus for Party 1, minus for
-- Party 2". Over every identifier that can be, "an originating authorisation number with a reference code" of 16 bits: none of them has to be held.
unfoldable pub total_from_history : Setting → List (Event contracts) → ℕ → ℕ → ℕ → ℤ
total_from_history s events account D period = sum_belowℤ (length s.rows * 65536) (counted_from_history s events account D period)

-- "Each figure on a bar .. is seen from the asking account": the bar of what the history gives an identifier on both sides, in whole kWh.
unfoldable pub bar_from_history : Setting → List (Event contracts) → ℕ → ℕ → ℕ → ℕ → Bar ℤ
bar_from_history s events account D period i =
    let periods : ℕ = periods_on s.time D in
    map_bar (seen_by (row_at s.rows (originator_of i)) account) (bar_of (decides events i one D periods period) (decides events i two D periods period))
