-- After some turns the two locals hold the sums of the first slots' parts.
use mathlib.Core.Bool.{true, false}
use Prim.Native.Nat.{ℕ, suc}
use Rattle.words.specs.Below.{sum_belowℤ}
use Rattle.position.proofs.Gathering.{Gathered}
use Rattle.meaning.specs.Totals.{counted}
use Rattle.book.specs.Structs.{book_seen}
use Rattle.position.specs.Counting.{part_of}
use Rattle.position.proofs.day_figures.day_sums.Given as goal

abbrev pub invariant-loop-slot : goal.invariant-loop-slot
invariant-loop-slot l = record {
  sold_so_far : Gathered l.slot 107374182400 (λ (k : ℕ). sum_belowℤ l.periods (λ (p : ℕ). part_of false (counted (book_seen l.fn.day.view) l.account l.fn.day.place (suc p) k))) l.sold;
  bought_so_far : Gathered l.slot 107374182400 (λ (k : ℕ). sum_belowℤ l.periods (λ (p : ℕ). part_of true (counted (book_seen l.fn.day.view) l.account l.fn.day.place (suc p) k))) l.bought;
}
