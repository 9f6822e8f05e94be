-- Document 01, "The sheet program": the lines that it prints for the bytes of its standard input.
use Rattle.std.specs.Prelude.{List, [], ◌∷◌, ◌++◌, ℕ, suc, ◌%◌, ◌^◌, ℤ, pos, length, drop, if◌then◌else◌}
use Rattle.words.specs.Tests.{◌=?◌, sameℤ}
use Rattle.words.specs.Lists.{build, join}
use Rattle.words.specs.Fields.{field_at}
use Rattle.meaning.specs.Time.{days, day_number}
use Rattle.meaning.specs.Ledgers.{contracts, places}
use Rattle.meaning.specs.Books.{Book, Setup, opened_book}
use Rattle.meaning.specs.Totals.{total}
use Rattle.meaning.specs.PackedMessages.{Reading}
use Rattle.meaning.specs.PackedSetups.{read_setup}
use Rattle.meaning.specs.PackedCalls.{Run, applied_all}
use Rattle.meaning.specs.SheetLines.{sheet_line, message_lines, total_line, end_line, setup_line}

-- ---- the setup

-- "The sheet program holds 16 slots."
abbrev pub slots : ℕ
slots = 16

-- It lends tables as long as the days of the setup ask, which are its bits 16 to 19 ("first day 16, days 4").
unfoldable pub lent_for : List ℕ → ℕ
lent_for input = places slots (field_at input 16 4)

unfoldable pub read_first : List ℕ → Reading Setup
read_first input = read_setup input slots (lent_for input) (lent_for input)

-- ---- "`t`: account, day, period, kWh, non-zero totals only, rising in that order"

unfoldable pub period_lines : ℕ → ℕ → ℕ → ℤ → List (List ℕ)
period_lines account day period kwh = if sameℤ kwh (pos 0) then [] else total_line account day period kwh ∷ []

-- No day has more than 50 periods, and the total of a period that a day lacks is zero.
unfoldable pub day_lines : Book contracts → ℕ → ℕ → List (List ℕ)
day_lines b account day = join (build 50 (λ (p : ℕ). period_lines account day (suc p) (total b account day (suc p))))

unfoldable pub total_lines : Book contracts → List (List ℕ)
total_lines b =
    join (build b.setting.accounts (λ (account : ℕ). join (build (days b.setting.time) (λ (d : ℕ). day_lines b account (day_number b.setting.time d)))))

-- ---- the sheet

-- A message takes a byte or more, so this is room for the outcomes of all of them.
unfoldable pub run_over : Book contracts → List ℕ → Run
run_over b bytes = applied_all (length bytes) b bytes

-- "`m`: message number from 1, answer" (and place, 02, A3), the totals, and "`end`: messages seen"; a number is held in 64 bits, so it wraps there
unfoldable pub lines_after_first : Run → List (List ℕ)
lines_after_first run =
    message_lines 1 run.outcomes ++ total_lines run.book ++ (end_line (length run.outcomes % 2 ^ 64) ∷ [])

-- "Line 1: first day, days, accounts"; "A refused setup prints only `setup` and the number."
unfoldable pub sheet_lines : List ℕ → List (List ℕ)
sheet_lines input =
    let r = read_first input in
    let s = r.read in
    if r.answer =? 0
    then sheet_line s.first (length s.codes) s.accounts ∷ lines_after_first (run_over (opened_book contracts s slots) (drop r.length input))
    else setup_line r.answer ∷ []

unfoldable pub sheet_text : List ℕ → List ℕ
sheet_text input = join (sheet_lines input)
