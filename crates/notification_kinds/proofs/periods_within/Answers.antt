-- The last day here, the first in `periods_from`.
use mathlib.Core.Path.{sym, ◌∙◌}
use Rattle.book.specs.Structs.{time_in}
use Rattle.notification_kinds.proofs.KindLaws.{within-past, within-upto}
use Rattle.notification_kinds.proofs.periods_within.Goals as goal

pub returns-then-last-s : goal.returns-then-last-s
returns-then-last-s c =
    let a = c.args in
    sym (within-past (time_in a.b) a.first a.d a.last c.if-last-s.true)

pub returns : goal.returns
returns c =
    let a = c.args in
    c.periods_from.ensures ∙ sym (within-upto (time_in a.b) a.first a.d a.last c.if-last-s.false)
