-- By whether the byte is a line end.
use Rattle.std.proofs.Common.{ne_eqb}
use Rattle.spreadsheet_reading.specs.Feeding.{line_after}
use Rattle.spreadsheet_reading.proofs.Feeds.{all-blank}
use Rattle.spreadsheet_reading.proofs.lines.line_after.Goals as goal

pub returns-then-byte-eq10 : goal.returns-then-byte-eq10
unfolding line_after
returns-then-byte-eq10 c = rw c.if-byte-eq10.true (all-blank c.default.result c.default.ensures)

pub returns : goal.returns
unfolding line_after
returns c = rw (ne_eqb c.args.byte 10 c.if-byte-eq10.false) c.feed.ensures
