-- The open places of the day are a run from the first that is open; before the first day nothing is written.
use mathlib.Core.Path.{◌∙◌}
use Prim.Native.Nat.{◌+◌, ◌≤◌, ◌<◌}
use native.Mathlib.Omega.{arith}
use Rattle.laws.proofs.Builds.{length-build}
use Rattle.meaning.specs.Time.{periods_at}
use Rattle.meaning.proofs.Clock.{periods-le}
use Rattle.clock.specs.Structs.{time_of}
use Rattle.ledger.proofs.PlaceLaws.{index-few}
use Rattle.message_effects.specs.Placing.{laid_volume}
use Rattle.message_effects.proofs.RowRuns.{laid-from-most, open_run, length-open, open-volume}
use Rattle.message_effects.proofs.DayRuns.{closed_in, day-early, day-stored, day-blanked}
use Rattle.message_effects.proofs.write_day.Goals as goal
use Rattle.message_effects.proofs.write_day.Goals.{After-closed_on-closed, After-laid_from}

-- the place of the day's first open period fits a word
place_inside : (closed : After-closed_on-closed) → closed.place_of-base.result + closed.closed_on-closed.result < 4294967296
place_inside closed =
    let a = closed.args in
    omega (arith, closed.place_of-base.ensures, index-few a.c.days a.slot a.d 0 (omega arith) (omega arith) (omega arith) (omega arith), closed.closed_on-closed.ensures, periods-le (time_of a.c).codes a.d)

-- the day's row ends inside what is laid out, and its open periods begin in it
row_inside : (row : After-laid_from)
    → (row.laid_from.result + row.periods_at-periods.result ≤ 150) × (row.closed_on-closed.result ≤ row.periods_at-periods.result)
row_inside row =
    let few = periods-le (time_of row.args.c).codes row.args.d in
    (omega (arith, row.laid_from.ensures, laid-from-most row.periods_at-periods.result, row.periods_at-periods.ensures, few), omega (arith, row.periods_at-periods.ensures, row.closed_on-closed.ensures))

pub returns-then-day-first : goal.returns-then-day-first
returns-then-day-first c =
    let a = c.args in
    day-early (time_of a.c) a.c.days a.slot a.d a.first a.until (laid_volume a.laid.now) (length-build a.c.days _) c.requires.day-inside a.side.now c.if-day-first.true

pub overflow_add-from : goal.overflow_add-from
overflow_add-from c =
    omega (arith, row_inside (goal.at.overflow_add-from c).After-laid_from)

pub overflow_add-base : goal.overflow_add-base
overflow_add-base c =
    omega (arith, place_inside (goal.at.overflow_add-base c).After-closed_on-closed)

pub overflow_add-from-then-day-until : goal.overflow_add-from-then-day-until
overflow_add-from-then-day-until c =
    omega (arith, row_inside (goal.at.overflow_add-from-then-day-until c).After-laid_from)

pub offset_bounds-laid-from : goal.offset_bounds-laid-from
offset_bounds-laid-from c =
    omega (arith, row_inside (goal.at.offset_bounds-laid-from c).After-laid_from)

pub slice_bounds-store_run-end : goal.slice_bounds-store_run-end
slice_bounds-store_run-end c =
    omega (arith, c.requires.all-given, row_inside (goal.at.slice_bounds-store_run-end c).After-laid_from)

pub returns-then-day-until : goal.returns-then-day-until
returns-then-day-until c =
    let a = c.args in
    let t = time_of a.c in
    let periods = periods_at t.codes a.d in
    let few = periods-le t.codes a.d in
    let from = closed_in t a.d in
    c.store_run.ensures
    ∙ rw (c.place_of-base.ensures, c.laid_from.ensures, c.closed_on-closed.ensures, c.periods_at-periods.ensures)
    (day-stored t a.c.days a.slot a.d a.first a.until (laid_volume a.laid.now) (length-build a.c.days _) c.requires.day-inside a.side.now c.if-day-first.false c.if-day-until.true
    (open_run a.laid.now periods from c.requires.all-given few (omega arith))
    (length-open a.laid.now periods from c.requires.all-given few (omega arith))
    (open-volume a.laid.now periods from c.requires.all-given few (omega arith)))

pub overflow_add-base-2 : goal.overflow_add-base-2
overflow_add-base-2 c =
    omega (arith, place_inside (goal.at.overflow_add-base-2 c).After-closed_on-closed)

pub returns : goal.returns
returns c =
    let a = c.args in
    c.blank_run.ensures
    ∙ rw (c.place_of-base.ensures, c.closed_on-closed.ensures, c.periods_at-periods.ensures)
    (day-blanked (time_of a.c) a.c.days a.slot a.d a.first a.until (laid_volume a.laid.now) (length-build a.c.days _) c.requires.day-inside a.side.now c.if-day-first.false c.if-day-until.false)
