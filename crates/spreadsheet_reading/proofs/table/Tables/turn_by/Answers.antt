-- By the byte's column.
use mathlib.Core.Path.{ap, ◌∙◌}
use native.Mathlib.Omega.{arith}
use Rattle.spreadsheet_reading.specs.Machine.{turn_at}
use Rattle.spreadsheet_reading.proofs.RightTables.{column-small}
use Rattle.spreadsheet_reading.proofs.table.Tables.turn_by.Goals as goal

pub turn_at-requires : goal.turn_at-requires
turn_at-requires c =
    (c.requires, omega (arith, c.column_of.ensures, column-small c.args.byte (omega arith)))

pub returns : goal.returns
returns c = c.turn_at.ensures ∙ ap (turn_at c.args.state) c.column_of.ensures
