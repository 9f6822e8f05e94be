-- Every day before d has its gates closed; the search stops at the first that has not.
use mathlib.Core.Bool.{Bool, false}
use mathlib.Core.Path.{◌≡◌}
use Prim.Native.Nat.{ℕ, suc, ◌<◌}
use lib.Dec.{ltb}
use Rattle.meaning.specs.Time.{gates_before}
use Rattle.clock.specs.declared.Clock.{Clock}
use Rattle.clock.specs.Structs.{time_of}
use Rattle.clock.proofs.current_day.Given as goal

-- the last gate of the day at place k is open
abbrev pub open-day : Clock → ℕ → Bool
open-day c k = ltb c.closed (gates_before (time_of c).codes (suc k))

abbrev pub invariant-loop-d : goal.invariant-loop-d
invariant-loop-d l = (k : ℕ) → k < l.d → open-day l.c k ≡ false
