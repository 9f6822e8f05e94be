-- The lines left, written behind the header from where the loop stands, make the whole.
use Rattle.std.proofs.Common.{List, ℕ, ◌+◌, ◌≤◌, length}
use Rattle.spreadsheets.specs.Structs.{entries_in}
use Rattle.spreadsheets.specs.declared.Spreadsheet.{Spreadsheet}
use Rattle.spreadsheet_writing.proofs.LinesLeft.{lines_from, Left}
use Rattle.spreadsheet_writing.proofs.put_file.Given as goal

abbrev pub lines : Spreadsheet → List ℕ
lines x = lines_from 0 (entries_in x)

abbrev pub invariant-loop-e : goal.invariant-loop-e
invariant-loop-e l =
    record {
      room : l.initial.at + length (lines l.fn.x) ≤ length l.initial.out;
      left : Left (entries_in l.fn.x) l.initial.out l.initial.at l.e-index l.at l.out;
    }
