-- All gates, those of the days before the day after the last.
use Rattle.laws.proofs.Builds.{length-build}
use Rattle.meaning.specs.Time.{every_gate_closed}
use Rattle.clock.proofs.every_gate_closed.Goals as goal

pub returns : goal.returns
unfolding every_gate_closed
returns c = rw (length-build, c.gates_before-gates.ensures)
