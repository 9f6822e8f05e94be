-- After some turns the two locals hold the sums of the first periods' parts.
use mathlib.Core.Bool.{true, false}
use Prim.Native.Nat.{ℕ, ◌+◌}
use Rattle.position.proofs.Gathering.{Gathered}
use Rattle.setups.specs.Structs.{row_of}
use Rattle.position.specs.Counting.{counted_at, part_of}
use Rattle.position.proofs.day_figures.slot_sums.Given as goal

abbrev pub invariant-loop-p : goal.invariant-loop-p
invariant-loop-p l = record {
  sold_so_far : Gathered l.p 2147483648 (λ (k : ℕ). part_of false (counted_at (row_of l.origin) l.account l.side1 l.side2 (l.first + k))) l.sold;
  bought_so_far : Gathered l.p 2147483648 (λ (k : ℕ). part_of true (counted_at (row_of l.origin) l.account l.side1 l.side2 (l.first + k))) l.bought;
}
