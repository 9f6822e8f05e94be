-- What the definitions say of files that a person might send: each with the lowest number whose language it is not in, and 0 for a file of numbers.
use mathlib.Core.Bool.{Bool, true, ◌&&◌}
use mathlib.Core.List.{List, [], ◌∷◌, ◌++◌}
use mathlib.Core.Path.{◌≡◌, refl}
use Prim.Native.Nat.{ℕ}
use Prim.Native.String.{String}
use native.Mathlib.Omega.{arith}
use lib.IntN.{pos, negsuc}
use Rattle.words.specs.Fields.{times}
use Rattle.words.specs.Lists.{any, every, keep}
use Rattle.std.specs.Prelude.{if◌then◌else◌}
use Rattle.words.specs.Tests.{◌=?◌}
use Rattle.meaning.specs.Ascii.{ascii}
use Rattle.patterns.specs.Patterns.{is_one_of}
use Rattle.patterns.proofs.Derivatives.{nullable, is_never, after, either, derive, derives}
use Rattle.patterns.proofs.Follows.{matches-is}
use Rattle.spreadsheets.specs.Languages.{csv_file, table_file, number_file}
use Rattle.spreadsheets.specs.Entries.{lines_after, lines_of, before, behind, with_digit, value, decimals, kwh, kwh_of, entry_of, entries}
use Rattle.spreadsheets.specs.Refusals.{valid, File}

unfoldable lowest_left : List ℕ → ℕ
lowest_left s =
    if nullable (derives s csv_file) then (if nullable (derives s table_file) then (if nullable (derives s number_file) then 0 else 31) else 30) else 29

abbrev each : ℕ → List String → Bool
each number texts = every (λ text. lowest_left (ascii text) =? number) texts

unfoldable computed : Unit {0}
unfolding lowest_left every nullable is_never after either derive derives csv_file table_file number_file is_one_of any
computed = tt

-- ---- files

files-of-numbers :
    each 0
    ("period,mwh" ∷ "period,mwh\n" ∷ "period,mwh\r\n" ∷ "\"period\",\"mwh\"" ∷ "period,\"mwh\"\n1,2" ∷
    "period,mwh\r\n1,2\n3,4\r\n" ∷ "period,mwh\n99,-99999.999\n00,0" ∷ "period,mwh\n\"1\",\"-0.5\"\n2,3.25" ∷ []) ≡
    true
unfolding computed
files-of-numbers = refl

no-numbers :
    each 31
    ("period,mwh\n1,x" ∷ "period,mwh\n1,+2" ∷ "period,mwh\n1,2." ∷ "period,mwh\n1,.5" ∷ "period,mwh\n1,-" ∷ "period,mwh\n1," ∷ "period,mwh\n,1" ∷
    "period,mwh\n1,123456" ∷ "period,mwh\n1,1.0000" ∷ "period,mwh\n100,1" ∷ "period,mwh\n 1,1" ∷ "period,mwh\n1,1e3" ∷ "period,mwh\n-1,1" ∷
    "period,mwh\n1,\"2\n\"" ∷ "period,mwh\n1,\"1,5\"" ∷ "period,mwh\n1,\"\"\"2\"\"\"" ∷ []) ≡
    true
unfolding computed
no-numbers = refl

wrong-header-or-field-count :
    each 30
    ("" ∷ "\n" ∷ "Period,mwh" ∷ "period, mwh" ∷ "mwh,period" ∷ "period" ∷ "period;mwh" ∷ "1,2" ∷ "\nperiod,mwh" ∷ "period,mwh,\n1,2," ∷
    "period,mwh\n1" ∷ "period,mwh\n1,2,3" ∷ "period,mwh\n\n" ∷ "period,mwh\n1,2\n\n" ∷ "period,mwh\n1,2\n\n3,4" ∷ "period,mwh\r\n\r\n" ∷ []) ≡
    true
unfolding computed
wrong-header-or-field-count = refl

not-well-formed :
    each 29
    ("period,mwh\r" ∷ "period,mwh\r1,2" ∷ "period,mwh\n\r1,2" ∷ "period,mwh\n1,\"2" ∷ "period,mwh\n1,2\"" ∷ "period,mwh\n1,\"2\"3" ∷ "period,mwh\n1,\" \t\"" ∷
    "period,mwh\n1\t,2" ∷ "period,mwh\n1,2\0" ∷ "period,mwh\n1,2\u{7f}" ∷ []) ≡
    true
unfolding computed
not-well-formed = refl

above-ascii : (lowest_left (ascii "period,mwh\n1,2" ++ (128 ∷ [])) =? 29) && (lowest_left (ascii "period,mwh\n1,\"" ++ (255 ∷ (34 ∷ []))) =? 29) ≡ true
unfolding computed
above-ascii = refl

-- ---- entries

unfoldable numbers : Unit {0}
unfolding lines_after lines_of before behind with_digit value decimals kwh kwh_of entry_of entries any keep
numbers = tt

-- "-0.001" is -1 kWh, "-0" is 0; quotes and zeros in front change nothing, and of decimals there may be few
some-entries :
    entries (ascii "period,mwh\r\n1,-0.001\r\n02,-0\n\"3\",\"00001.5\"\n4,7\n99,99999.999") ≡
    record { period = 1; volume = negsuc 0 } ∷ record { period = 2; volume = pos 0 } ∷ record { period = 3; volume = pos 1500 } ∷
    record { period = 4; volume = pos 7000 } ∷ record { period = 99; volume = pos 99999999 } ∷ []
unfolding numbers
some-entries = refl

no-entries : entries (ascii "period,mwh\n") ≡ []
unfolding numbers
no-entries = refl

-- "more than 50 entries": fifty are a file, and fifty-one none
abbrev so-many : ℕ → List ℕ
so-many n = ascii "period,mwh\n" ++ times n (ascii "1,1\n")

fifty : File valid (so-many 50)
unfolding computed numbers
fifty = (matches-is number_file (so-many 50) refl, omega arith)

fifty-one : File valid (so-many 51) → ⊥
unfolding numbers
fifty-one f = omega (arith, f.1)
