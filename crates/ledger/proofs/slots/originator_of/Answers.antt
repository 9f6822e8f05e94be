-- The entry of a held slot is one more than its identifier; there is nothing before 0.
use Prim.Native.Nat.{ℕ, ◌/◌}
use mathlib.Core.Path.{ap}
use Rattle.meaning.specs.Ledgers.{originator_of}
use Rattle.ledger.proofs.slots.originator_of.Goals as goal

pub returns : goal.returns
unfolding originator_of
returns c = ap (λ (n : ℕ). n / 65536) c.saturating_sub.ensures
