-- Document 01, "The sheet program": its lines, as ASCII bytes.
use Rattle.std.specs.Prelude.{Bool, ◌||◌, List, [], ◌∷◌, ◌++◌, ℕ, ◌+◌, ◌%◌, ◌^◌, ℤ, if◌then◌else◌}
use Rattle.words.specs.Tests.{◌=?◌}
use Rattle.words.specs.Rules.{Outcome}
use Rattle.meaning.specs.Ascii.{ascii}
use Rattle.meaning.specs.Decimals.{decimal, signed}

-- what follows in a line: a single space, and the text of a number
abbrev pub field : List ℕ → List ℕ
field text = ascii " " ++ text

abbrev pub fields : List ℕ → List ℕ
fields [] = []
fields (n ∷ ns) = field (decimal n) ++ fields ns

abbrev pub newline : List ℕ
newline = ascii "\n"

-- a word and numbers, with which every line begins, and of which all but the totals consist
abbrev pub beginning : List ℕ → List ℕ → List ℕ
beginning word numbers = word ++ fields numbers

abbrev pub line : List ℕ → List ℕ → List ℕ
line word numbers = beginning word numbers ++ newline

-- "sheet FIRST DAYS ACCOUNTS"
unfoldable pub sheet_line : ℕ → ℕ → ℕ → List ℕ
sheet_line first days accounts = line (ascii "sheet") (first ∷ days ∷ accounts ∷ [])

-- "The `m` line gains a third number only there" (02, A3): with 10 and 11
unfoldable pub carries_place : ℕ → Bool
carries_place answer = answer =? 10 || answer =? 11

-- "m NUMBER ANSWER", and "m NUMBER ANSWER PLACE"
unfoldable pub message_line : ℕ → Outcome → List ℕ
message_line number told =
    line (ascii "m") (if carries_place told.answer then number ∷ told.answer ∷ told.place ∷ [] else number ∷ told.answer ∷ [])

-- the lines of messages one after the other, the first of which has this number; a number is held in 64 bits, so it wraps there
unfoldable pub message_lines : ℕ → List Outcome → List (List ℕ)
message_lines first [] = []
message_lines first (told ∷ later) = message_line first told ∷ message_lines ((first + 1) % 2 ^ 64) later

-- "t ACCOUNT DAY PERIOD KWH", whose last number may be below zero
unfoldable pub total_line : ℕ → ℕ → ℕ → ℤ → List ℕ
total_line account day period kwh = beginning (ascii "t") (account ∷ day ∷ period ∷ []) ++ field (signed kwh) ++ newline

-- "end COUNT"
unfoldable pub end_line : ℕ → List ℕ
end_line count = line (ascii "end") (count ∷ [])

-- "setup NUMBER"
unfoldable pub setup_line : ℕ → List ℕ
setup_line number = line (ascii "setup") (number ∷ [])
