-- February of a leap year by the test; any other month by the table, which is the definition's own.
use Rattle.calendar.specs.Calendar.{month_length}
use Rattle.calendar.proofs.dates.month_length.Goals as goal

pub returns-then-leap-month : goal.returns-then-leap-month
unfolding month_length
returns-then-leap-month c = rw c.if-leap-month.true

pub returns : goal.returns
unfolding month_length
returns c = rw c.if-leap-month.false
