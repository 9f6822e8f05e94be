-- What reading gives: the answer and its place, and the entries of a valid file; with a refusal none.
use Rattle.std.specs.Prelude.{List, [], ◌≡◌, ℕ, Result, Ok, Err, if◌then◌else◌}
use Rattle.words.specs.Tests.{◌=?◌}
use Rattle.limits.specs.Refusals.{number_of}
use Rattle.spreadsheets.specs.Entries.{entries}
use Rattle.spreadsheets.specs.Refusals.{Judged}
use Rattle.spreadsheets.specs.Structs.{spreadsheet_for, no_spreadsheet}
use Rattle.spreadsheets.specs.declared.Spreadsheet.{Spreadsheet}
use Rattle.spreadsheet_reading.specs.declared.SpreadsheetRead.{SpreadsheetRead}
use Rattle.spreadsheet_reading.specs.declared.Unreadable.{Unreadable}

pub record Reading (s : List ℕ) (r : SpreadsheetRead) : Type 0 where
  pub judged : Judged s r.answer r.place
  pub holds : r.spreadsheet ≡ spreadsheet_for (if r.answer =? 0 then entries s else [])

-- what C is given of an outcome of so many bytes; no two outcomes give the same (`read-tells`, proofs/Unique.antt)
abbrev pub as_spreadsheet_read : ℕ → Result Spreadsheet Unreadable → SpreadsheetRead
as_spreadsheet_read length (Ok spreadsheet) = record { answer = 0; place = length; spreadsheet = spreadsheet }
as_spreadsheet_read length (Err unreadable) = record { answer = number_of unreadable.refusal; place = unreadable.place; spreadsheet = no_spreadsheet }
