-- The place by the day's place in the book, and the period's place in the day.
use mathlib.Core.Path.{◌∙◌}
use Rattle.marks.proofs.RowLaws.{index_is}
use Rattle.marks.proofs.rows.BookDay.index_of.Goals as goal

pub returns : goal.returns
returns c =
    c.place_of.ensures ∙ index_is c.args.self.book c.args.slot c.args.period c.requires.1 c.place.ensures
