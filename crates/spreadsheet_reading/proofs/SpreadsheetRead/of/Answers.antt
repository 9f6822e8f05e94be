-- The struct of no entries is all zero.
use Rattle.std.proofs.Common.{ℕ, ap}
use Rattle.words.specs.Lists.{build}
use Rattle.spreadsheets.specs.Structs.{spreadsheet_for, no_spreadsheet}
use Rattle.spreadsheet_reading.proofs.SpreadsheetRead.of.Goals as goal

pub returns-in-Err : goal.returns-in-Err
unfolding spreadsheet_for build
returns-in-Err c = rw c.in-Err.is (ap (λ (n : ℕ). record { answer = n; place = c.in-Err.unreadable.place; spreadsheet = no_spreadsheet }) c.into.ensures)
