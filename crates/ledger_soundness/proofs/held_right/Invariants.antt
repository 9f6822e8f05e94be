-- After k turns the flag says that the first k slots are right.
use mathlib.Core.Path.{◌≡◌}
use Prim.Native.Nat.{ℕ}
use lib.ListN.{get_or}
use Rattle.words.specs.Below.{every_below}
use Rattle.meaning.specs.Soundness.{slot_right}
use Rattle.ledger_soundness.specs.Parts.{below}
use Rattle.ledger_soundness.proofs.held_right.Given as goal

abbrev pub invariant-loop-k : goal.invariant-loop-k
invariant-loop-k l =
    l.ok ≡ every_below l.k (λ (j : ℕ). slot_right (below l.known) l.held j (get_or l.held j 0))
