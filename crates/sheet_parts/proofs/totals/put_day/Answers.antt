-- The day's totals, asked with zero in every place, and their lines.
use Rattle.std.proofs.Common.{length, ap, ◌∙◌}
use Rattle.book.specs.Structs.{book_seen}
use Rattle.sheet_lines.specs.Places.{all_placed, place_after_all}
use Rattle.sheet_parts.specs.Parts.{kwh_lines}
use Rattle.sheet_parts.proofs.DayLaws.{day-lines}
use Rattle.sheet_parts.proofs.totals.put_day.Goals as goal

pub returns : goal.returns
returns c =
    let a = c.args in
    let lines = ap (kwh_lines a.account a.day) c.day_totals.ensures.1 ∙ day-lines (book_seen a.view) a.account a.day in
    let p = c.put_totals.ensures in
    (p.0 ∙ ap (all_placed a.out.now 0) lines, p.1 ∙ ap (place_after_all (length a.out.now) 0) lines)
