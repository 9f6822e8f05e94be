-- By whether the comma was read.
use Rattle.spreadsheet_reading.specs.Feeding.{fed}
use Rattle.spreadsheet_reading.proofs.lines.feed.Goals as goal

pub returns-then-line : goal.returns-then-line
unfolding fed
returns-then-line c = rw (c.if-line.true, ← c.with_digit.ensures, ← c.decimals_with.ensures)

pub returns : goal.returns
unfolding fed
returns c = rw (c.if-line.false, ← c.with_digit-2.ensures)
