-- The guess is tested over all days of both sorts of year (MonthTables.antt).
use native.Mathlib.Omega.{arith}
use Rattle.calendar.proofs.Months.{year-short}
use Rattle.calendar.proofs.MonthTables.{month-next, month-guessed, month-last}
use Rattle.calendar.proofs.dates.month_of.Goals as goal
use Rattle.calendar.proofs.dates.month_of.Goals.{else-guess-lt12-via-then-guess-lt12+else-before_month-day, else-guess-lt12-via-else-guess-lt12}

pub overflow_add-guess : goal.overflow_add-guess
overflow_add-guess c = omega (arith, year-short c.args.leap)

pub returns-then-before_month-day : goal.returns-then-before_month-day
returns-then-before_month-day c =
    month-next c.args.leap c.args.day c.requires c.before_month.result c.before_month.ensures (omega arith) (omega arith)

pub returns : goal.returns
returns c =
    let a = c.args in
    elim c.else-guess-lt12.branch [
      | else-guess-lt12-via-then-guess-lt12+else-before_month-day w ↦
          month-guessed a.leap a.day c.requires w.before_month.result w.before_month.ensures (omega arith) (omega arith)
      | else-guess-lt12-via-else-guess-lt12 w ↦ month-last a.leap a.day c.requires (omega arith)
    ]
