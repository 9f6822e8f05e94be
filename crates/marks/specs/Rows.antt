-- Document 01, "Matching, totals, marks": where the day's row lies in its side's own table, "the day's length long; it is empty exactly on a refusal".
use Rattle.std.specs.Prelude.{List, ℕ, ℤ, take, drop, Result, Ok, Err, if◌then◌else◌}
use Rattle.words.specs.Tests.{◌=?◌}
use Rattle.words.specs.Rules.{answer}
use Rattle.limits.specs.declared.refusals.Refusal.{Refusal}
use Rattle.limits.specs.Refusals.{number_of}
use Rattle.meaning.specs.Time.{periods_at, days, day_of}
use Rattle.meaning.specs.Ledgers.{contracts, index, slot_of}
use Rattle.meaning.specs.Books.{Book}
use Rattle.meaning.specs.Rows.{row_rules}
use Rattle.marks.specs.declared.RowPart.{RowPart}
use Rattle.marks.specs.declared.RowPlace.{RowPlace}

-- what C is given of a part that may be refused. Two outcomes of which C is given the same are the same (`same_part`, proofs/SameOutcomes.antt).
abbrev pub row_placed : Result RowPart Refusal → RowPlace
row_placed (Ok part) = record { answer = 0; start = part.start; length = part.length }
row_placed (Err refusal) = record { answer = number_of refusal; start = 0; length = 0 }

-- the place of the day's first period in the slot of its identifier, and the day's length; with a refusal its number alone
unfoldable pub row_place : Book contracts → ℕ → ℕ → ℕ → RowPlace
row_place b i D side =
    let number = answer (row_rules b i D side) in
    let d = day_of b.setting.time D in
    if number =? 0
    then record { answer = 0; start = index (days b.setting.time) (slot_of b.ledger.held i) d 1; length = periods_at b.setting.time.codes d }
    else record { answer = number; start = 0; length = 0 }

-- "side 1's or side 2's own table"
abbrev pub table_of : List ℤ → List ℤ → ℕ → List ℤ
table_of side1 side2 side = if side =? 1 then side1 else side2

-- the part of a table that lies there
abbrev pub part_at : RowPlace → List ℤ → List ℤ
part_at place table = take place.length (drop place.start table)
