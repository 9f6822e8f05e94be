-- The clock holds the book's days.
use mathlib.Core.Path.{ap, ◌∙◌}
use Rattle.meaning.specs.Time.{Time, periods_at}
use Rattle.book.specs.Structs.{time_in}
use Rattle.book.proofs.StateLaws.{clock-time}
use Rattle.marks.proofs.rows.BookDay.periods.Goals as goal

pub returns : goal.returns
returns c =
    let b = c.args.self.book in
    c.periods_at.ensures
    ∙ ap (λ (t : Time). periods_at t.codes c.place.result) (clock-time b c.clock_of.ensures)
    ∙ ap (periods_at (time_in b).codes) c.place.ensures
