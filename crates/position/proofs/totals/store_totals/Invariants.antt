-- After some turns the day's places hold what the first slots count together.
use mathlib.Core.Path.{◌≡◌}
use Rattle.words.specs.Lists.{on_front}
use Rattle.position.proofs.DayLaws.{sums_below}
use Rattle.position.proofs.totals.store_totals.Given as goal

abbrev pub invariant-loop-slot : goal.invariant-loop-slot
invariant-loop-slot l = let day = l.fn.day in let v = day.view in l.out ≡ on_front l.periods (sums_below v.book v.held.now v.side1.now v.side2.now l.account day.place l.slot) l.initial.out
