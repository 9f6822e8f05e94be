-- By the definition.
use borrow.Author.Rules.{rules}
use Rattle.calendar.specs.Calendar.{year_of}
use Rattle.calendar.proofs.dates.year_of.Goals as goal

pub returns : goal.returns
unfolding year_of
returns c = search rules
