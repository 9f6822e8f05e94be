-- A day of the calendar has its length.
use mathlib.Core.Path.{ap}
use Prim.Native.Nat.{ℕ}
use native.Mathlib.Omega.{arith}
use Rattle.calendar.specs.Answers.{measured}
use Rattle.calendar.proofs.Years.{below-day, day-out}
use Rattle.calendar.proofs.lengths.day_length.Goals as goal

pub returns-then-day-gt-LAST_DAY : goal.returns-then-day-gt-LAST_DAY
unfolding measured
returns-then-day-gt-LAST_DAY c = rw (day-out c.args.day (omega arith))

pub returns : goal.returns
unfolding measured
returns c =
    rw (below-day c.args.day (omega arith)) (ap (λ (periods : ℕ). record { answer = 0; periods = periods }) c.periods_on.ensures)
