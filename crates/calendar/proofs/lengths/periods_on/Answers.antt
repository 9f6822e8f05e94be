-- A day that is no Sunday is plain; of a Sunday the year's two entries decide (Table.antt).
use mathlib.Core.Path.{sym}
use Prim.Native.Nat.{◌≤◌}
use native.Mathlib.Omega.{arith}
use Rattle.calendar.specs.ChangeDays.{change_days}
use Rattle.calendar.proofs.Table.{short-by-table, long-by-table, plain-by-table, no-sunday}
use Rattle.calendar.proofs.Steps.{step-year}
use Rattle.calendar.proofs.Years.{below-day}
use Rattle.calendar.proofs.lengths.periods_on.Goals as goal
use Rattle.calendar.proofs.lengths.periods_on.Goals.{After-year_of}

year : (c : After-year_of) → (2000 ≤ c.year_of.result) × (c.year_of.result ≤ 2099)
year c = step-year c.args.day (omega arith) c.year_of.result c.year_of.ensures

pub returns-then-day-ne-FIRST_SUNDAY : goal.returns-then-day-ne-FIRST_SUNDAY
returns-then-day-ne-FIRST_SUNDAY c = sym (no-sunday c.args.day c.if-day-ne-FIRST_SUNDAY.true)

pub overflow_sub-place : goal.overflow_sub-place
overflow_sub-place c = (year (goal.at.overflow_sub-place c).After-year_of).0

pub bounds-changes-place : goal.bounds-changes-place
bounds-changes-place c = omega (arith, year (goal.at.bounds-changes-place c).After-year_of)

pub returns-then-changes-place : goal.returns-then-changes-place
unfolding change_days
returns-then-changes-place c =
    let n = c.args.day in
    sym (short-by-table n c.year_of.result (below-day n (omega arith)) c.year_of.ensures c.if-changes-place.true)

pub bounds-changes-place-2 : goal.bounds-changes-place-2
bounds-changes-place-2 c = omega (arith, year (goal.at.bounds-changes-place-2 c).After-year_of)

pub returns-then-changes-place-2 : goal.returns-then-changes-place-2
unfolding change_days
returns-then-changes-place-2 c =
    let n = c.args.day in
    sym (long-by-table n c.year_of.result (below-day n (omega arith)) c.year_of.ensures c.if-changes-place.false c.if-changes-place-2.true)

pub returns : goal.returns
unfolding change_days
returns c =
    let n = c.args.day in
    sym (plain-by-table n c.year_of.result (below-day n (omega arith)) c.year_of.ensures c.if-changes-place.false c.if-changes-place-2.false)
