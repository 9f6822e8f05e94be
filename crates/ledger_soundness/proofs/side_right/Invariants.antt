-- A table of another length is wrong; of a right one the flag says before each slot that those before it are right.
use mathlib.Core.Path.{◌≡◌}
use Prim.Native.Nat.{ℕ}
use lib.Dec.{ltb}
use lib.ListN.{get_or}
use Rattle.words.specs.Below.{every_below}
use Rattle.ledger_soundness.specs.Parts.{days_right}
use Rattle.ledger_soundness.proofs.side_right.Given as goal

abbrev pub invariant-loop-slot : goal.invariant-loop-slot
invariant-loop-slot l =
    l.ok ≡ every_below l.slot (λ (k : ℕ). days_right l.side k (ltb 0 (get_or l.held k 0)) l.c)
