-- After k turns the first k values are stored.
use mathlib.Core.Path.{◌≡◌}
use Prim.Native.Nat.{◌-◌, min}
use lib.ListN.{length, take}
use lib.Seq.{sets}
use Rattle.ledger.proofs.store_run.Given as goal

abbrev pub invariant-loop-k : goal.invariant-loop-k
invariant-loop-k l =
    (l.n ≡ min (length l.values) (length l.initial.side - l.at)) × (l.side ≡ sets l.initial.side l.at (take l.k l.values)) × (length l.side ≡ length l.initial.side)
