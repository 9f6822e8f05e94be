-- The promise of the function that it calls, of the book and its tables seen as one.
use mathlib.Core.Path.{◌∙◌}
use Rattle.viewer.proofs.books.ghendufika_close_gate.Goals as goal

pub returns : goal.returns
returns c = c.of.ensures ∙ rw (c.seen-view.ensures.seen, c.seen-view.ensures.book) at c.close_gate.ensures
