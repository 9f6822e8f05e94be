-- The promise of the function that it calls, whose numbers are narrowed.
use mathlib.Core.Path.{◌∙◌}
use Rattle.viewer.proofs.Promises.{day-totals-kept}
use Rattle.viewer.proofs.books.ghendufika_day_totals.Goals as goal

pub returns : goal.returns
returns c =
    let given = rw c.seen-view.ensures.seen at c.day_totals.ensures in
    day-totals-kept _ _ _ _ _ _ c.at_most_255-account.ensures c.at_most_65535-day.ensures _ _ _ (c.answer_of.ensures ∙ given.0, given.1)
