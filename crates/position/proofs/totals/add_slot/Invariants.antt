-- After p turns the first p places have what the slot counts added.
use mathlib.Core.Path.{◌≡◌}
use Prim.Native.Nat.{ℕ, ◌+◌}
use lib.IntN.{ℤ, ◌+ℤ◌}
use Rattle.words.specs.Lists.{on_front}
use Rattle.setups.specs.Structs.{row_of}
use Rattle.position.specs.Counting.{counted_at}
use Rattle.position.proofs.totals.add_slot.Given as goal

abbrev pub invariant-loop-p : goal.invariant-loop-p
invariant-loop-p l = l.out ≡ on_front l.p (λ (q : ℕ) (old : ℤ). old +ℤ counted_at (row_of l.origin) l.account l.side1 l.side2 (l.first + q)) l.initial.out
