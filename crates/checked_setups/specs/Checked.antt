-- Document 02, A2: "check a setup against it on request. .. In a checked setup 27, then 28, come after 18 and before 22." 27 is decided over all days of
-- the book before 28 over any.
use Rattle.std.specs.Prelude.{Bool, not, List, ◌++◌, ℕ, ◌+◌, length, get_or}
use Rattle.words.specs.Tests.{◌=?◌}
use Rattle.words.specs.Below.{some_below}
use Rattle.words.specs.Rules.{Rule, ◌when◌else◌, done, answer}
use Rattle.meaning.specs.Books.{Setup, opening_rules}
use Rattle.meaning.specs.PackedMessages.{Reading}
use Rattle.meaning.specs.PackedSetups.{setup_in, content_rules, padding_rules, read_by}
use Rattle.calendar.specs.Calendar.{some_day_outside, code_of}

-- "28 code disagrees with the calendar"
unfoldable pub some_code_disagrees : Setup → Bool
some_code_disagrees s = some_below (length s.codes) (λ (d : ℕ). not (get_or s.codes d 0 =? code_of (s.first + d)))

unfoldable pub calendar_rules : Setup → List Rule
calendar_rules s =
    27 when some_day_outside s.first (length s.codes) else
    28 when some_code_disagrees s else
    done

-- opening: 17, 18, 27, 28
unfoldable pub checked_opening_rules : Setup → ℕ → ℕ → ℕ → List Rule
checked_opening_rules s slots lent1 lent2 = opening_rules s slots lent1 lent2 ++ calendar_rules s

-- reading: 19, 17, 19, 17, 18, 27, 28, 22
unfoldable pub checked_reading_rules : List ℕ → ℕ → ℕ → ℕ → List Rule
checked_reading_rules bytes slots lent1 lent2 =
    content_rules bytes slots lent1 lent2 ++ (calendar_rules (setup_in bytes) ++ padding_rules bytes)

unfoldable pub read_checked_setup : List ℕ → ℕ → ℕ → ℕ → Reading Setup
read_checked_setup bytes slots lent1 lent2 = read_by (answer (checked_reading_rules bytes slots lent1 lent2)) bytes
