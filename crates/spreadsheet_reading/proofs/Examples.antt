-- Bytes that a person might try, each with its answer and its place.
use mathlib.Core.Bool.{Bool, true, ◌&&◌}
use mathlib.Core.List.{List, [], ◌∷◌, ◌++◌}
use mathlib.Core.Path.{◌≡◌, refl, subst}
use Prim.Native.Nat.{ℕ}
use lib.ListN.{get_or}
use borrow.Author.Tests.{eqb-true, ltb-true}
use Rattle.words.specs.Fields.{times}
use Rattle.words.specs.Lists.{join, every_from, every_at}
use Rattle.words.specs.Tests.{◌<?◌, ◌=?◌}
use Rattle.laws.proofs.Bits.{Bytes}
use Rattle.laws.proofs.Cases.{and_left, and_right}
use Rattle.laws.proofs.Lists.{every_at-at}
use Rattle.meaning.specs.Ascii.{ascii}
use Rattle.spreadsheets.specs.Refusals.{Judged}
use Rattle.spreadsheet_reading.specs.Machine.{column_table, rows, turn_table, column_of, turn_at, walk, told_of}
use Rattle.spreadsheet_reading.proofs.Walk.{walk-judged}

unfoldable computed : Unit {0}
unfolding column_table rows turn_table join column_of turn_at walk every_at every_from
computed = tt

-- these bytes, this answer, this place
gives : List ℕ → ℕ → ℕ → Bool
gives s answer place = every_at (λ k b. b <? 256) s && ((told_of s).answer =? answer && (told_of s).place =? place)

given : (s : List ℕ) (answer place : ℕ) → gives s answer place ≡ true → Judged s answer place
unfolding gives
given s answer place e =
    let bytes = every_at (λ k b. b <? 256) s in
    let told = told_of s in
    let right = and_right bytes (told.answer =? answer && told.place =? place) e in
    let b : Bytes s = λ i h. ltb-true (get_or s i 0) 256 (every_at-at (λ k b. b <? 256) s 0 (and_left bytes (told.answer =? answer && told.place =? place) e) i h) in
    let p = eqb-true told.answer answer (and_left (told.answer =? answer) (told.place =? place) right) in
    let q = eqb-true told.place place (and_right (told.answer =? answer) (told.place =? place) right) in
    subst (λ (n : ℕ). Judged s n place) p (subst (λ (m : ℕ). Judged s told.answer m) q (walk-judged s b))

-- the header and fifty entries, each with its line end
pub fifty : List ℕ
fifty = ascii "period,mwh\n" ++ times 50 (ascii "1,1\n")

pub header-alone : Judged (ascii "period,mwh") 0 10
unfolding computed gives
header-alone = given (ascii "period,mwh") 0 10 refl

pub nothing-at-all : Judged [] 30 0
unfolding computed gives
nothing-at-all = given [] 30 0 refl

pub line-ends-mixed : Judged (ascii "period,mwh\r\n1,2\n3,4\r\n") 0 21
unfolding computed gives
line-ends-mixed = given (ascii "period,mwh\r\n1,2\n3,4\r\n") 0 21 refl

pub header-quoted : Judged (ascii "\"period\",\"mwh\"") 0 14
unfolding computed gives
header-quoted = given (ascii "\"period\",\"mwh\"") 0 14 refl

-- a bad number before a quote that is never closed
pub bad-number-first : Judged (ascii "period,mwh\n1,\"x") 31 14
unfolding computed gives
bad-number-first = given (ascii "period,mwh\n1,\"x") 31 14 refl

pub quote-never-closed : Judged (ascii "period,mwh\n1,\"2") 29 15
unfolding computed gives
quote-never-closed = given (ascii "period,mwh\n1,\"2") 29 15 refl

-- a third field where a digit should follow the point
pub third-field-first : Judged (ascii "period,mwh\n1,2.,") 30 15
unfolding computed gives
third-field-first = given (ascii "period,mwh\n1,2.,") 30 15 refl

pub fifty-are-read : Judged fifty 0 211
unfolding computed gives fifty
fifty-are-read = given fifty 0 211 refl

pub record-51-no-number : Judged (fifty ++ ascii "x") 31 211
unfolding computed gives fifty
record-51-no-number = given (fifty ++ ascii "x") 31 211 refl

pub record-51-empty : Judged (fifty ++ ascii "\n") 30 211
unfolding computed gives fifty
record-51-empty = given (fifty ++ ascii "\n") 30 211 refl

pub record-51-quoted : Judged (fifty ++ ascii "\"") 32 211
unfolding computed gives fifty
record-51-quoted = given (fifty ++ ascii "\"") 32 211 refl

pub record-51 : Judged (fifty ++ ascii "1,1\n") 32 211
unfolding computed gives fifty
record-51 = given (fifty ++ ascii "1,1\n") 32 211 refl

pub cr-at-the-end : Judged (ascii "period,mwh\n1,2\r") 29 15
unfolding computed gives
cr-at-the-end = given (ascii "period,mwh\n1,2\r") 29 15 refl

-- a CR that ends a record too early
pub cr-too-early : Judged (ascii "period,mwh\n1\r\n") 30 12
unfolding computed gives
cr-too-early = given (ascii "period,mwh\n1\r\n") 30 12 refl

pub cr-before-a-number : Judged (ascii "period,mwh\n1,\r\n") 31 13
unfolding computed gives
cr-before-a-number = given (ascii "period,mwh\n1,\r\n") 31 13 refl

pub tab : Judged (ascii "period,mwh\n1\t,2") 29 12
unfolding computed gives
tab = given (ascii "period,mwh\n1\t,2") 29 12 refl

pub blank-last-line : Judged (ascii "period,mwh\n1,2\n\n") 30 15
unfolding computed gives
blank-last-line = given (ascii "period,mwh\n1,2\n\n") 30 15 refl

pub byte-128 : Judged (ascii "period,mwh\n1,2" ++ (128 ∷ [])) 29 14
unfolding computed gives
byte-128 = given (ascii "period,mwh\n1,2" ++ (128 ∷ [])) 29 14 refl
