-- What the calendar's functions give: 27 and zeros for a day or a date that is not in 2000 to 2099.
use Rattle.std.specs.Prelude.{not, ◌||◌, List, ℕ, ◌+◌, replicate, if◌then◌else◌}
use Rattle.words.specs.Tests.{◌<?◌, ◌=?◌, between}
use Rattle.words.specs.Lists.{build}
use Rattle.words.specs.Rules.{Rule, ◌when◌else◌, done, answer}
use Rattle.meaning.specs.Time.{evergreen}
use Rattle.calendar.specs.Calendar as Calendar
use Rattle.calendar.specs.Calendar.{is_day, some_day_outside, is_date, day_of_date, date_of_day, length_of, code_of}
use Rattle.calendar.specs.declared.Date.{Date}
use Rattle.calendar.specs.declared.Measured.{Measured}
use Rattle.calendar.specs.declared.Coded.{Coded}
use Rattle.calendar.specs.declared.Numbered.{Numbered}
use Rattle.calendar.specs.declared.Dated.{Dated}
use Rattle.calendar.specs.declared.Proposed.{Proposed}

-- "Give the length of any day"
unfoldable pub measured : ℕ → Measured
measured n = if is_day n then record { answer = 0; periods = length_of n } else record { answer = 27; periods = 0 }

unfoldable pub coded : ℕ → Coded
coded n = if is_day n then record { answer = 0; code = code_of n } else record { answer = 27; code = 0 }

-- "day number from date"
abbrev pub date_of : ℕ → ℕ → ℕ → Calendar.Date
date_of year month day = record { year = year; month = month; day = day }

unfoldable pub numbered : Calendar.Date → Numbered
numbered d = if is_date d then record { answer = 0; day = day_of_date d } else record { answer = 27; day = 0 }

-- "and back"
abbrev pub date_struct : Calendar.Date → Date
date_struct d = record { year = d.year; month = d.month; day = d.day }

unfoldable pub dated : ℕ → Dated
dated n =
    if is_day n then record { answer = 0; date = date_struct (date_of_day n) } else
    record { answer = 27; date = record { year = 0; month = 0; day = 0 } }

-- ---- proposing the codes of so many days from a first one on

-- ours: 17 where a setup of these days has it, "1 to 8 consecutive settlement days" and "last day above 65,534" (document 01)
unfoldable pub proposal_rules : ℕ → ℕ → List Rule
proposal_rules first days =
    17 when not (between 1 8 days) || evergreen <? first + days else
    27 when some_day_outside first days else
    done

-- the codes of the days, and zeros to the eighth place
unfoldable pub codes_from : ℕ → ℕ → List ℕ
codes_from first days = build 8 (λ (d : ℕ). if d <? days then code_of (first + d) else 0)

unfoldable pub proposed : ℕ → ℕ → Proposed
proposed first days =
    let number = answer (proposal_rules first days) in
    if number =? 0 then record { answer = 0; codes = codes_from first days } else record { answer = number; codes = replicate 8 0 }
