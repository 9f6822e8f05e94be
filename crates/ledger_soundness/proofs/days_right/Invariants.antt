-- After d turns the flag says that the first d days of the slot are right.
use mathlib.Core.Path.{◌≡◌}
use Prim.Native.Nat.{ℕ}
use Rattle.words.specs.Below.{every_below}
use Rattle.meaning.specs.Time.{periods_at}
use Rattle.meaning.specs.Ledgers.{index}
use Rattle.clock.specs.Structs.{time_of}
use Rattle.ledger_soundness.specs.Parts.{row_right}
use Rattle.ledger_soundness.proofs.days_right.Given as goal

abbrev pub invariant-loop-d : goal.invariant-loop-d
invariant-loop-d l =
    l.ok ≡ every_below l.d (λ (k : ℕ). row_right l.side (index l.c.days l.slot k 1) (periods_at (time_of l.c).codes k) l.held)
