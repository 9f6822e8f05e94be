-- The table that is lent is the definition's.
use mathlib.Core.List.{List}
use mathlib.Core.Path.{◌≡◌, ap}
use Prim.Native.Nat.{ℕ, ◌-◌, ◌≤◌, ◌<◌}
use native.Mathlib.Omega.{arith}
use lib.ListN.{length, get_or}
use Rattle.spreadsheet_reading.specs.Machine.{column_table, column_of}
use Rattle.spreadsheet_reading.proofs.RightTables.{columns-length, column-range, column-small}
use Rattle.spreadsheet_reading.proofs.table.Tables.column_of.Goals as goal

module _ (lent : List ℕ) (b : ℕ) (e : lent ≡ column_table) (h : b < 256) where
  inside : b < length lent
  inside = omega (arith, ap length e, columns-length)

  least : 97 ≤ get_or lent b 0
  least = rw e (column-range b h).0

  is-column : get_or lent b 0 - 97 ≡ column_of b
  unfolding column_of
  is-column = rw e

pub bounds-self-i : goal.bounds-self-i
bounds-self-i c = inside c.args.self.columns.now c.args.byte c.args.self.columns_are (omega arith)

pub overflow_sub-result : goal.overflow_sub-result
overflow_sub-result c = least c.args.self.columns.now c.args.byte c.args.self.columns_are (omega arith)

pub overflow_cast-result : goal.overflow_cast-result
overflow_cast-result c =
    let is = is-column c.args.self.columns.now c.args.byte c.args.self.columns_are (omega arith) in
    record { fits = omega (arith, is, column-small c.args.byte (omega arith)) }

pub returns : goal.returns
returns c = is-column c.args.self.columns.now c.args.byte c.args.self.columns_are (omega arith)
