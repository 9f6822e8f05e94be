-- By whether the byte is a digit.
use Rattle.std.proofs.Common.{sym, ◌∙◌}
use Rattle.spreadsheets.specs.Entries.{with_digit}
use Rattle.spreadsheet_reading.proofs.lines.with_digit.Goals as goal

pub returns-then-is_ascii_digit : goal.returns-then-is_ascii_digit
unfolding with_digit
returns-then-is_ascii_digit c = rw (sym c.is_ascii_digit.ensures.value ∙ c.if-is_ascii_digit.true, c.from.ensures)

pub returns : goal.returns
unfolding with_digit
returns c = rw (sym c.is_ascii_digit.ensures.value ∙ c.if-is_ascii_digit.false)
