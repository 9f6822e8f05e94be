-- Worked lines: numbers of each length, and the sheet that document 01 shows.
use mathlib.Core.Bool.{Bool, true, false, ◌&&◌}
use mathlib.Core.List.{List, [], ◌∷◌, ◌++◌}
use mathlib.Core.Path.{◌≡◌, refl}
use Prim.Native.Nat.{ℕ}
use lib.IntN.{pos, negsuc}
use Rattle.words.specs.Tests.{◌=?◌}
use Rattle.words.specs.Rules.{placeless}
use Rattle.meaning.specs.Ascii.{ascii}
use Rattle.meaning.specs.Decimals.{digits, decimal, signed}
use Rattle.meaning.specs.SheetLines.{sheet_line, carries_place, message_line, total_line, end_line, setup_line}

abbrev pub same : List ℕ → List ℕ → Bool
same [] [] = true
same [] (y ∷ ys) = false
same (x ∷ xs) [] = false
same (x ∷ xs) (y ∷ ys) = x =? y && same xs ys

-- ---- text and numbers

pub the_bytes : same (ascii "sheet m\n") (115 ∷ 104 ∷ 101 ∷ 101 ∷ 116 ∷ 32 ∷ 109 ∷ 10 ∷ []) ≡ true
the_bytes = refl

pub nothing : same (decimal 0) (ascii "0") ≡ true
unfolding decimal digits
nothing = refl

pub one_digit : same (decimal 7) (ascii "7") ≡ true
unfolding decimal digits
one_digit = refl

pub two_digits : same (decimal 10) (ascii "10") ≡ true
unfolding decimal digits
two_digits = refl

pub four_digits : same (decimal 5000) (ascii "5000") ≡ true
unfolding decimal digits
four_digits = refl

pub the_largest_total : same (decimal 99999999999) (ascii "99999999999") ≡ true
unfolding decimal digits
the_largest_total = refl

pub the_largest_of64_bits : same (decimal 18446744073709551615) (ascii "18446744073709551615") ≡ true
unfolding decimal digits
the_largest_of64_bits = refl

pub the_least_of64_bits : same (signed (negsuc 9223372036854775807)) (ascii "-9223372036854775808") ≡ true
unfolding signed decimal digits
the_least_of64_bits = refl

-- ---- the sheet of the paper, and a refused setup

pub the_sheet : same
    (sheet_line 100 1 2 ++ message_line 1 (placeless 0) ++ message_line 2 (placeless 0) ++ message_line 3 (placeless 4) ++ message_line 4 (placeless 0) ++ message_line 5 (placeless 0) ++ total_line 0 100 1 (pos 5000) ++ total_line 1 100 1 (negsuc 4999) ++ end_line 5)
    (ascii "sheet 100 1 2\nm 1 0\nm 2 0\nm 3 4\nm 4 0\nm 5 0\nt 0 100 1 5000\nt 1 100 1 -5000\nend 5\n") ≡ true
unfolding sheet_line carries_place message_line total_line end_line signed decimal digits
the_sheet = refl

-- "The `m` line gains a third number only there" (02, A3)
pub the_third_number : same
    (message_line 3 (record { answer = 10; place = 7 }) ++ message_line 4 (record { answer = 11; place = 0 }) ++ message_line 5 (record { answer = 10; place = 50 }) ++ message_line 6 (placeless 12))
    (ascii "m 3 10 7\nm 4 11 0\nm 5 10 50\nm 6 12\n") ≡ true
unfolding carries_place message_line decimal digits
the_third_number = refl

pub the_refused_setup : same (setup_line 17) (ascii "setup 17\n") ≡ true
unfolding setup_line decimal digits
the_refused_setup = refl
