-- The tables of the code are the definition's.
use mathlib.Core.Path.{refl}
use Rattle.words.specs.Lists.{join}
use Rattle.spreadsheet_reading.specs.Machine.{column_table, turn_table, rows}
use Rattle.spreadsheet_reading.proofs.read_spreadsheet.Goals as goal

pub invariant_of-tables : goal.invariant_of-tables
unfolding column_table turn_table rows join
invariant_of-tables c = record { columns_are = refl; turns_are = refl }
