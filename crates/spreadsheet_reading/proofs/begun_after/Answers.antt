-- By whether a line after the header may begin.
use borrow.Author.Tests.{ne_eqb}
use Rattle.spreadsheet_reading.proofs.begun_after.Goals as goal

pub returns-then-state-eq-FRESH : goal.returns-then-state-eq-FRESH
returns-then-state-eq-FRESH c = rw c.if-state-eq-FRESH.true

pub returns : goal.returns
returns c = rw (ne_eqb c.args.state 25 c.if-state-eq-FRESH.false)
