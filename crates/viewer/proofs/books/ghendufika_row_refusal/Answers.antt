-- The promise of the function that it calls, whose numbers are narrowed.
use mathlib.Core.Path.{◌∙◌}
use Rattle.viewer.proofs.Promises.{row-refusal-kept}
use Rattle.viewer.proofs.books.ghendufika_row_refusal.Goals as goal

pub returns : goal.returns
returns c =
    row-refusal-kept _ _ _ _ _ _ c.originator_named-originator.ensures c.at_most_65535-reference.ensures _ _ c.at_most_65535-day.ensures c.at_most_255-side.ensures _
    (c.answer_of.ensures ∙ rw c.seen-view.ensures.seen at c.row_refusal.ensures)
