-- After p turns the first p places of each buffer are written.
use mathlib.Core.Path.{◌≡◌}
use Prim.Native.Nat.{ℕ}
use lib.Ieee.{Float}
use Rattle.words.specs.Lists.{on_front}
use Rattle.setups.specs.Structs.{row_of}
use Rattle.bar.specs.Figures.{case_of, first_of, second_of}
use Rattle.marks.specs.Marks.{bar_from}
use Rattle.marks.proofs.periods.write_marks.Given as goal

abbrev pub invariant-loop-p : goal.invariant-loop-p
invariant-loop-p l = record {
  cases_so_far : l.cases ≡ on_front l.p (λ (k : ℕ) (old : ℕ). case_of (bar_from (row_of l.row) l.account l.side1 l.side2 l.start k)) l.initial.cases;
  firsts_so_far : l.firsts ≡ on_front l.p (λ (k : ℕ) (old : Float). first_of (bar_from (row_of l.row) l.account l.side1 l.side2 l.start k)) l.initial.firsts;
  seconds_so_far : l.seconds ≡ on_front l.p (λ (k : ℕ) (old : Float). second_of (bar_from (row_of l.row) l.account l.side1 l.side2 l.start k)) l.initial.seconds;
}
