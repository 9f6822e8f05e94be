-- With so many entries passed, from the last down, the array holds what those give.
use mathlib.Core.Path.{◌≡◌}
use Prim.Native.Nat.{◌-◌}
use lib.ListN.{length}
use Rattle.messages.specs.Structs.{entries_of}
use Rattle.message_effects.proofs.Volumes.{given_from}
use Rattle.message_effects.proofs.volumes_of.Given as goal

abbrev pub invariant-loop-e : goal.invariant-loop-e
invariant-loop-e l = l.volumes ≡ given_from (entries_of l.fn.n.count l.fn.n.entries) (l.count - length l.yielded)
