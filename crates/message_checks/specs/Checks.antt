-- The rules of a message beside soundness: meaning's parts, joined by what they read.
use Rattle.std.specs.Prelude.{◌&&◌, List, ◌++◌, ℕ, Result, Ok, Err}
use Rattle.words.specs.Tests.{◌≤?◌, ◌=?◌}
use Rattle.words.specs.Rules.{Rule, ◌when◌else◌, done, Outcome, placeless}
use Rattle.meaning.specs.Settings.{Setting}
use Rattle.meaning.specs.Ledgers.{Sort}
use Rattle.meaning.specs.Messages.{Notification, Nullification}
use Rattle.meaning.specs.Refusals.{while_open}
use Rattle.meaning.specs.Notifications.{authorisation_rules, day_rules, entry_rules}
use Rattle.meaning.specs.Calls.{pair_rules}
use Rattle.limits.specs.Refusals.{number_of}
use Rattle.message_checks.specs.declared.Fault.{Fault}

-- what may be refused with a place, by its answer number and that place: 0 and 0 where it is done. No two have the same outcome (Unique).
abbrev pub outcome_told : Result Unit Fault → Outcome
outcome_told (Ok _) = placeless 0
outcome_told (Err fault) = record { answer = number_of fault.refusal; place = fault.place }

-- 2 to 11 of a notification, which read no table
unfoldable pub check_rules : {K : Sort} → Setting → Notification K → List Rule
check_rules s n = while_open s (authorisation_rules s n ++ day_rules s n ++ entry_rules s n)

-- 12 to 14, by the number of its kind, its authorisation's type, its slot and the number of slots
unfoldable pub late_rules : ℕ → ℕ → ℕ → ℕ → List Rule
late_rules kind type slot slots =
    12 when kind =? 2 && type =? 2 else
    13 when kind =? 3 && type =? 1 else
    14 when slots ≤? slot else
    done

-- 2, 15 and 9 of a nullification, which read no table
unfoldable pub pair_check_rules : Setting → Nullification → List Rule
pair_check_rules s x = while_open s (pair_rules s x)
