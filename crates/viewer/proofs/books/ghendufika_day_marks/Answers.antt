-- The promise of the function that it calls, whose numbers are narrowed.
use mathlib.Core.Path.{◌∙◌}
use Rattle.viewer.proofs.Promises.{day-marks-kept}
use Rattle.viewer.proofs.books.ghendufika_day_marks.Goals as goal

pub returns : goal.returns
returns c =
    let a = c.args in
    let given = rw c.seen-view.ensures.seen at c.day_marks.ensures in
    day-marks-kept a.b a.held.now a.side1.now a.side2.now a.originator a.reference c.originator_named-originator.ensures c.at_most_65535-reference.ensures
    a.account a.day c.at_most_255-account.ensures c.at_most_65535-day.ensures a.cases.now a.firsts.now a.seconds.now _ _ _ _
    (c.answer_of.ensures ∙ given.0, given.1, given.2, given.3)
