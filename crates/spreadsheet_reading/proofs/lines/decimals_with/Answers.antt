-- By the two tests.
use Rattle.spreadsheet_reading.specs.Feeding.{decimals_with}
use Rattle.spreadsheet_reading.proofs.lines.decimals_with.Goals as goal

pub returns-then-is_ascii_digit-pointed : goal.returns-then-is_ascii_digit-pointed
unfolding decimals_with
returns-then-is_ascii_digit-pointed c = rw (← c.is_ascii_digit.ensures.value, c.if-is_ascii_digit-pointed.true)

pub returns : goal.returns
unfolding decimals_with
returns c = rw (← c.is_ascii_digit.ensures.value, c.if-is_ascii_digit-pointed.false)
