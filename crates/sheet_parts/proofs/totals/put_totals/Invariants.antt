-- The lines of the totals so far stand in the buffer.
use Rattle.std.proofs.Common.{ℕ, suc, List, get_or, ℤ, pos}
use Rattle.meaning.specs.Sheet.{period_lines}
use Rattle.sheet_parts.proofs.LineLaws.{Stands}
use Rattle.sheet_parts.proofs.totals.put_totals.Given as goal

abbrev pub lines_for : ℕ → ℕ → List ℤ → ℕ → List (List ℕ)
lines_for account day kwh k = period_lines account day (suc k) (get_or kwh k (pos 0))

abbrev pub invariant-loop-p : goal.invariant-loop-p
invariant-loop-p l = Stands l.initial.out (lines_for l.account l.day l.kwh) l.p l.out l.place
