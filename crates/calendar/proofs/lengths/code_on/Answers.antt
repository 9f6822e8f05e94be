-- The code is that of the length.
use Rattle.std.proofs.Common.{ap, ◌∙◌}
use Rattle.calendar.specs.Calendar.{code_for, code_of}
use Rattle.calendar.proofs.lengths.code_on.Goals as goal

pub returns : goal.returns
unfolding code_of
returns c = c.code_for.ensures ∙ ap code_for c.periods_on.ensures
