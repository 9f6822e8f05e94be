-- The promise of the function that it calls, whose numbers are narrowed.
use mathlib.Core.Path.{◌∙◌}
use Rattle.viewer.proofs.Promises.{figures-kept}
use Rattle.viewer.proofs.books.ghendufika_figures.Goals as goal

pub returns : goal.returns
returns c =
    figures-kept _ _ _ _ _ _ c.at_most_255-account.ensures c.at_most_65535-day.ensures _ (c.into.ensures ∙ rw c.seen-view.ensures.seen at c.figures.ensures)
