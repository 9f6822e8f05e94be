-- No line of numbers that fit their types is longer than 64 bytes, so the room asked for is always enough.
use Rattle.std.proofs.Common.{ℕ, suc, ◌^◌, ◌<◌, ◌≤◌, length, ℤ, pos, negsuc, arith, length-append}
use lib.Signed.{mag}
use Rattle.meaning.specs.Decimals.{signed}
use Rattle.words.specs.Rules.{Outcome}
use Rattle.laws.proofs.Cases.{on}
use Rattle.meaning.specs.SheetLines.{sheet_line, carries_place, message_line, total_line, end_line, setup_line}
use Rattle.sheet_lines.specs.Places.{most_bytes}
use Rattle.meaning.proofs.Decimals.{count_most, count_word}
use Rattle.sheet_lines.proofs.Sequences.{line-with-place, line-without}

pub sheet-most : (first days accounts : ℕ) → first < 65536 → days < 256 → accounts < 256 → length (sheet_line first days accounts) ≤ most_bytes
unfolding sheet_line
sheet-most first days accounts f d a =
    simp length-append (omega (arith, count_most 4 first (omega arith), count_most 2 days (omega arith), count_most 2 accounts (omega arith)))

-- the longest has a place behind its answer
pub message-most : (number : ℕ) (told : Outcome) → number < 2 ^ 64 → told.answer < 256 → told.place < 256 → length (message_line number told) ≤ 31
message-most number told n a p =
    let word = count_word number n in
    let answer = count_most 2 told.answer (omega arith) in
    let place = count_most 2 told.place (omega arith) in
    on (carries_place told.answer)
    (λ e. rw (line-with-place number told e) (simp length-append (omega (arith, word, answer, place))))
    (λ e. rw (line-without number told e) (simp length-append (omega (arith, word, answer))))

pub end-most : (count : ℕ) → count < 2 ^ 64 → length (end_line count) ≤ most_bytes
unfolding end_line
end-most count c = simp length-append (omega (arith, count_word count c))

pub setup-most : (number : ℕ) → number < 256 → length (setup_line number) ≤ most_bytes
unfolding setup_line
setup-most number n = simp length-append (omega (arith, count_most 2 number (omega arith)))

-- a sign takes a byte, and the size of a signed number has a digit fewer
pub signed-most : (z : ℤ) → mag z < 2 ^ 63 → length (signed z) ≤ 20
unfolding signed
signed-most (pos n) h = count_word n (omega arith)
signed-most (negsuc n) h = omega (arith, count_most 18 (suc n) (omega arith))

pub total-most : (account day period : ℕ) (kwh : ℤ) → account < 256 → day < 65536 → period < 256 → mag kwh < 2 ^ 63
    → length (total_line account day period kwh) ≤ most_bytes
unfolding total_line
total-most account day period kwh a d p k =
    simp length-append
    (omega (arith, count_most 2 account (omega arith), count_most 4 day (omega arith), count_most 2 period (omega arith), signed-most kwh k))
