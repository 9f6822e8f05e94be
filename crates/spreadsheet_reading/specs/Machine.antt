-- The reader's tables. Nothing here is to be believed: promises of private functions cite it, and it is proved to follow the languages (proofs/TableTests.antt).
use Rattle.std.specs.Prelude.{Bool, ◌&&◌, List, [] as []ᴸ, ◌∷◌ as ◌∷ᴸ◌, ◌++◌, ℕ, ◌+◌, ◌-◌, ◌*◌, get_or, drop, if◌then◌else◌}
use Rattle.words.specs.Lists.{join}
use Rattle.words.specs.Rules.{Outcome}
use Rattle.words.specs.Tests.{◌≤?◌, ◌=?◌}
use Rattle.meaning.specs.Ascii.{ascii}
use Rattle.spreadsheets.specs.Entries.{before}

-- the column of each byte, "a" the first: the letters of the header as they come, a digit, minus, point, quote, comma, CR, LF, other text, and what no
-- file holds
unfoldable pub column_table : List ℕ
column_table =
    ascii "rrrrrrrrrrprrorr" ++
    ascii "rrrrrrrrrrrrrrrr" ++
    ascii "qqmqqqqqqqqqnklq" ++
    ascii "jjjjjjjjjjqqqqqq" ++
    ascii "qqqqqqqqqqqqqqqq" ++
    ascii "qqqqqqqqqqqqqqqq" ++
    ascii "qqqqfbqqidqqqgqe" ++
    ascii "aqcqqqqhqqqqqqqr" ++
    ascii "rrrrrrrrrrrrrrrr" ++
    ascii "rrrrrrrrrrrrrrrr" ++
    ascii "rrrrrrrrrrrrrrrr" ++
    ascii "rrrrrrrrrrrrrrrr" ++
    ascii "rrrrrrrrrrrrrrrr" ++
    ascii "rrrrrrrrrrrrrrrr" ++
    ascii "rrrrrrrrrrrrrrrr" ++
    ascii "rrrrrrrrrrrrrrrr"

-- a byte of each column
unfoldable pub samples : List ℕ
samples = ascii "periodmwh0-.\",\r\n \0"

-- A row for each state: its letter; what follows it by each column, of which the last is the end; and a beginning of a file that leads there, of all that
-- do one with the most digits. What follows is a state's letter; or 9, 0 or 1: refused by 29, 30 or 31; or a point: a file ends here.
unfoldable pub rows : List (List ℕ)
rows =
    ascii "A B00000000000H000090                             " ∷ᴸ
    ascii "B 0C00000000009000090 p                           " ∷ᴸ
    ascii "C 00D0000000009000090 pe                          " ∷ᴸ
    ascii "D 000E000000009000090 per                         " ∷ᴸ
    ascii "E 0000F00000009000090 peri                        " ∷ᴸ
    ascii "F 00000G0000009000090 perio                       " ∷ᴸ
    ascii "G 0000000000009P00090 period                      " ∷ᴸ
    ascii "H I000000000000000099 \"                           " ∷ᴸ
    ascii "I 0J00000000000000099 \"p                          " ∷ᴸ
    ascii "J 00K0000000000000099 \"pe                         " ∷ᴸ
    ascii "K 000L000000000000099 \"per                        " ∷ᴸ
    ascii "L 0000M00000000000099 \"peri                       " ∷ᴸ
    ascii "M 00000N0000000000099 \"perio                      " ∷ᴸ
    ascii "N 000000000000O000099 \"period                     " ∷ᴸ
    ascii "O 9999999999990P00990 \"period\"                    " ∷ᴸ
    ascii "P 000000Q00000T000090 period,                     " ∷ᴸ
    ascii "Q 0000000R00009000090 period,m                    " ∷ᴸ
    ascii "R 00000000S0009000090 period,mw                   " ∷ᴸ
    ascii "S 00000000000090YZ09. period,mwh                  " ∷ᴸ
    ascii "T 000000U000000000099 period,\"                    " ∷ᴸ
    ascii "U 0000000V00000000099 period,\"m                   " ∷ᴸ
    ascii "V 00000000W0000000099 period,\"mw                  " ∷ᴸ
    ascii "W 000000000000X000099 period,\"mwh                 " ∷ᴸ
    ascii "X 99999999999900YZ99. period,\"mwh\"                " ∷ᴸ
    ascii "Y 999999999999999Z999 period,mwh\n00,-00000.000\r   " ∷ᴸ
    ascii "Z 111111111[11]10019. period,mwh\n                 " ∷ᴸ
    ascii "[ 111111111\\119a00190 period,mwh\n0                " ∷ᴸ
    ascii "\\ 1111111111119a00190 period,mwh\n00               " ∷ᴸ
    ascii "] 111111111^111111199 period,mwh\n\"                " ∷ᴸ
    ascii "^ 111111111_11`111199 period,mwh\n\"0               " ∷ᴸ
    ascii "_ 111111111111`111199 period,mwh\n\"00              " ∷ᴸ
    ascii "` 9999999999991a00990 period,mwh\n\"00\"             " ∷ᴸ
    ascii "a 111111111cb1l011191 period,mwh\n00,              " ∷ᴸ
    ascii "b 111111111c119011191 period,mwh\n00,-             " ∷ᴸ
    ascii "c 111111111d1h90YZ19. period,mwh\n00,-0            " ∷ᴸ
    ascii "d 111111111e1h90YZ19. period,mwh\n00,-00           " ∷ᴸ
    ascii "e 111111111f1h90YZ19. period,mwh\n00,-000          " ∷ᴸ
    ascii "f 111111111g1h90YZ19. period,mwh\n00,-0000         " ∷ᴸ
    ascii "g 11111111111h90YZ19. period,mwh\n00,-00000        " ∷ᴸ
    ascii "h 111111111i119011191 period,mwh\n00,-00000.       " ∷ᴸ
    ascii "i 111111111j1190YZ19. period,mwh\n00,-00000.0      " ∷ᴸ
    ascii "j 111111111k1190YZ19. period,mwh\n00,-00000.00     " ∷ᴸ
    ascii "k 11111111111190YZ19. period,mwh\n00,-00000.000    " ∷ᴸ
    ascii "l 111111111nm11111199 period,mwh\n00,\"             " ∷ᴸ
    ascii "m 111111111n111111199 period,mwh\n00,\"-            " ∷ᴸ
    ascii "n 111111111o1sw111199 period,mwh\n00,\"-0           " ∷ᴸ
    ascii "o 111111111p1sw111199 period,mwh\n00,\"-00          " ∷ᴸ
    ascii "p 111111111q1sw111199 period,mwh\n00,\"-000         " ∷ᴸ
    ascii "q 111111111r1sw111199 period,mwh\n00,\"-0000        " ∷ᴸ
    ascii "r 11111111111sw111199 period,mwh\n00,\"-00000       " ∷ᴸ
    ascii "s 111111111t111111199 period,mwh\n00,\"-00000.      " ∷ᴸ
    ascii "t 111111111u11w111199 period,mwh\n00,\"-00000.0     " ∷ᴸ
    ascii "u 111111111v11w111199 period,mwh\n00,\"-00000.00    " ∷ᴸ
    ascii "v 111111111111w111199 period,mwh\n00,\"-00000.000   " ∷ᴸ
    ascii "w 99999999999910YZ99. period,mwh\n00,\"-00000.000\"  " ∷ᴸ
    []ᴸ

unfoldable pub turn_table : List ℕ
turn_table = join rows

-- States count from 0, the row of "A". A line after the header may begin in that of "Z".
abbrev pub states : ℕ
states = 55

abbrev pub fresh_state : ℕ
fresh_state = 25

-- the columns of LF and of the end
abbrev pub line_end : ℕ
line_end = 15

abbrev pub end : ℕ
end = 18

-- a row has so many places, of which the columns begin with the third, and the beginning with the one behind them and a space
abbrev pub row_length : ℕ
row_length = 50

unfoldable pub beginning_of : ℕ → List ℕ
beginning_of state = before 0x20 (drop (2 + end + 2) (get_or rows state []ᴸ))

unfoldable pub column_of : ℕ → ℕ
column_of b = get_or column_table b 0 - 97

-- what the table has for a state and a column
unfoldable pub turn_at : ℕ → ℕ → ℕ
turn_at state column = get_or turn_table (state * row_length + (2 + column)) 0

-- "A" to "w" is a state: which one
abbrev pub is_state : ℕ → Bool
is_state turn = 65 ≤? turn

abbrev pub state_in : ℕ → ℕ
state_in turn = turn - 65

-- ".": a file ends here
abbrev pub file_ends : ℕ
file_ends = 46

-- "9" and "0" refuse by 29 and 30, and else "1" by 31
abbrev pub refusal_in : ℕ → ℕ
refusal_in turn = if turn =? 57 then 29 else (if turn =? 48 then 30 else 31)

-- The reader as a definition: from this state on, with so many entries begun and at this place, the answer to the bytes that follow and its place.
unfoldable pub walk : ℕ → ℕ → ℕ → List ℕ → Outcome
walk state begun place []ᴸ =
    let turn = turn_at state end in
    if turn =? file_ends then record { answer = 0; place = place } else record { answer = refusal_in turn; place = place }
walk state begun place (b ∷ᴸ s) =
    let turn = turn_at state (column_of b) in
    let later = walk (state_in turn) (if state =? fresh_state then begun + 1 else begun) (place + 1) s in
    if is_state turn
    then (if state =? fresh_state && begun =? 50 then record { answer = 32; place = place } else later)
    else record { answer = refusal_in turn; place = place }

abbrev pub told_of : List ℕ → Outcome
told_of s = walk 0 0 0 s
