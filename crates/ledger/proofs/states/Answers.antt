-- The machine compares bits; equal bits are equal volumes.
use mathlib.Core.Bool.{not}
use mathlib.Core.Path.{ap}
use Rattle.laws.proofs.Machine.{eqb-least}
use Rattle.ledger.proofs.states.Goals as goal

pub returns : goal.returns
returns c = ap not (eqb-least c.args.v c.ranges.v)
