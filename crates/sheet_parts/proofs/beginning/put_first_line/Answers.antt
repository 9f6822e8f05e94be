-- Each case is the promise of the function that writes its line. No refusal's number is 0.
use Rattle.std.proofs.Common.{ne_eqb}
use Rattle.limits.specs.Refusals.{number_of}
use Rattle.limits.proofs.AnswerNumbers.{never-done}
use Rattle.sheet_turns.specs.Turns.{line_for}
use Rattle.sheet_parts.proofs.beginning.put_first_line.Goals as goal

pub returns-in-Ok : goal.returns-in-Ok
unfolding line_for
returns-in-Ok c = rw c.in-Ok.is c.put_sheet_line.ensures

pub returns-in-Err : goal.returns-in-Err
unfolding line_for
returns-in-Err c =
    let refusal = c.in-Err.refusal in
    rw (c.in-Err.is, ne_eqb (number_of refusal) 0 (never-done refusal)) (rw c.into.ensures at c.put_setup_line.ensures)
