-- By the turn.
use Rattle.spreadsheet_reading.proofs.table.refusal_in.Goals as goal

pub returns-in-57 : goal.returns-in-57
returns-in-57 c = rw c.in-57.is

pub returns-in-48 : goal.returns-in-48
returns-in-48 c = rw c.in-48.is
