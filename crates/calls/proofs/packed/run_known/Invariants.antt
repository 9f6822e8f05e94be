-- Between two turns the book is sound, and what is done and what is ahead make up the whole run.
use Prim.Native.Nat.{◌-◌}
use lib.ListN.{length}
use Rattle.calls.proofs.RunLaws.{Running}
use Rattle.calls.proofs.packed.run_known.Given as goal

abbrev pub invariant-loop-run : goal.invariant-loop-run
invariant-loop-run l =
    Running l.bytes l.initial.run.book l.initial.held l.initial.side1 l.initial.side2 l.initial.answers l.initial.places l.held l.side1 l.side2 l.answers l.places l.run.book l.run.used l.run.done

abbrev pub decreases-loop-run : goal.decreases-loop-run
decreases-loop-run l = length l.initial.answers - l.run.done
