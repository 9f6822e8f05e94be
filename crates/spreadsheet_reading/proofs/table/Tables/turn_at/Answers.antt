-- The table that is lent is the definition's.
use mathlib.Core.List.{List}
use mathlib.Core.Path.{◌≡◌, ap}
use Prim.Native.Nat.{ℕ, ◌+◌, ◌*◌, ◌≤◌, ◌<◌}
use native.Mathlib.Omega.{arith}
use lib.ListN.{length, get_or}
use Rattle.spreadsheet_reading.specs.Machine.{turn_table, turn_at}
use Rattle.spreadsheet_reading.proofs.RightTables.{table-length}
use Rattle.spreadsheet_reading.proofs.table.Tables.turn_at.Goals as goal

module _ (lent : List ℕ) (state column : ℕ) (e : lent ≡ turn_table) (h : state < 55) (k : column ≤ 18) where
  inside : state * 50 + (2 + column) < length lent
  inside = omega (arith, ap length e, table-length)

  is-turn : get_or lent (state * 50 + (2 + column)) 0 ≡ turn_at state column
  unfolding turn_at
  is-turn = rw e

pub bounds-self-i : goal.bounds-self-i
bounds-self-i c =
    inside c.args.self.turns.now c.args.state c.args.column c.args.self.turns_are c.requires.0 c.requires.1

pub returns : goal.returns
returns c =
    is-turn c.args.self.turns.now c.args.state c.args.column c.args.self.turns_are c.requires.0 c.requires.1
