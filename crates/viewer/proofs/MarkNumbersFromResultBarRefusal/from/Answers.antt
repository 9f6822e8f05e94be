-- The numbers are those of the bar; a refusal's mark is blank.
use lib.Ieee.{of_bits}
use Rattle.viewer.specs.Numbers.{mark_numbers}
use Rattle.viewer.proofs.MarkNumbersFromResultBarRefusal.from.Goals as goal

pub returns-in-Ok : goal.returns-in-Ok
unfolding mark_numbers
returns-in-Ok c = rw (c.in-Ok.is, c.case_of.ensures, c.first_of.ensures, c.second_of.ensures)

pub returns-in-Err : goal.returns-in-Err
unfolding mark_numbers of_bits
returns-in-Err c = rw (c.in-Err.is, c.into.ensures)
