-- After some turns the local holds what the first slots count together.
use Prim.Native.Nat.{suc}
use Rattle.position.proofs.Gathering.{Gathered}
use Rattle.meaning.specs.Totals.{counted}
use Rattle.book.specs.Structs.{book_seen}
use Rattle.position.proofs.totals.sum_of.Given as goal

abbrev pub invariant-loop-slot : goal.invariant-loop-slot
invariant-loop-slot l = let day = l.fn.day in Gathered l.slot 2147483648 (counted (book_seen day.view) l.account day.place (suc l.p)) l.kwh
