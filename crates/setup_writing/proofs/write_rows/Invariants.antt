-- After k turns the rows below k are written.
use mathlib.Core.Path.{◌≡◌}
use Rattle.setup_writing.specs.Writing.{rows_into}
use Rattle.setup_writing.proofs.write_rows.Given as goal

abbrev pub invariant-loop-k : goal.invariant-loop-k
invariant-loop-k l = l.out ≡ rows_into l.s l.initial.out l.k
