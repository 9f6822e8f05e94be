-- The table is tested for both sorts of year (MonthTables.antt).
use mathlib.Core.Path.{sym, ◌∙◌}
use native.Mathlib.Nat.{add-zero}
use native.Mathlib.Omega.{arith}
use Rattle.calendar.proofs.Months.{before-short}
use Rattle.calendar.proofs.MonthTables.{before-by}
use Rattle.calendar.proofs.dates.before_month.Goals as goal

pub overflow_add-result : goal.overflow_add-result
overflow_add-result c =
    let a = c.args in
    omega (arith, rw c.if-leap-month.true at (before-by a.leap a.month (omega arith)), before-short a.leap a.month (omega arith))

pub returns-then-leap-month : goal.returns-then-leap-month
returns-then-leap-month c = let a = c.args in sym (rw c.if-leap-month.true at (before-by a.leap a.month (omega arith)))

pub returns : goal.returns
returns c =
    let a = c.args in
    sym (rw c.if-leap-month.false at (before-by a.leap a.month (omega arith)) ∙ add-zero _)
