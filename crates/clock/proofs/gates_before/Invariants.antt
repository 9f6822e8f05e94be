-- After k turns the sum of the first k days.
use mathlib.Core.Path.{◌≡◌}
use Prim.Native.Nat.{◌*◌, ◌≤◌}
use Rattle.meaning.specs.Time.{gates_before}
use Rattle.clock.specs.Structs.{time_of}
use Rattle.clock.proofs.gates_before.Given as goal

abbrev pub invariant-loop-k : goal.invariant-loop-k
invariant-loop-k l = (l.gates ≡ gates_before (time_of l.c).codes l.k) × (l.gates ≤ 50 * l.k)
