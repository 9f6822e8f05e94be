-- What the functions of `position` promise, as the theorems on totals and figures take it: read off their own promises, so that the source and the theorems
-- cannot drift apart.
use mathlib.Core.List.{List}
use mathlib.Core.Path.{◌≡◌}
use Prim.Native.Nat.{ℕ}
use contract.Lifetimes.{Lfts}
use denote.MutBor.{MutBor}
use lib.IntN.{ℤ}
use lib.ListN.{length}
use Rattle.std.specs.Prelude.{Result}
use Rattle.words.specs.Rules.{answer}
use Rattle.limits.specs.Refusals.{answer_of}
use Rattle.limits.specs.declared.refusals.Refusal.{Refusal}
use Rattle.book.specs.declared.Book.{Book}
use Rattle.book.specs.declared.BookView.{BookView}
use Rattle.book.specs.Structs.{book_of, book_seen}
use Rattle.position.specs.Totals.{totalled_of, totalled, day_total_rules, day_totals, figured_of, figured}
use Rattle.position.specs.declared.DayFigures.{DayFigures}
use Rattle.position.proofs.totals.total.Reads as total
use Rattle.position.proofs.totals.day_totals.Reads as day-totals
use Rattle.position.proofs.day_figures.figures.Reads as figures

-- what `day_totals` ensures of its answer number and of what it leaves, as a type
abbrev pub DayTotalled : Book → List ℕ → List ℤ → List ℤ → ℕ → ℕ → List ℤ → ℕ → List ℤ → Type 0
DayTotalled b held side1 side2 account day lent r left =
    (r ≡ answer (day_total_rules (book_of b held side1 side2) account day (length lent))) × (left ≡ day_totals (book_of b held side1 side2) account day lent)

module _ (view : BookView) (account day : ℕ) where
  pub total-promises : (κs : Lfts 1) (period : ℕ) (r : Result ℤ Refusal)
      → total.Post κs (view, (account, (day, (period, tt)))) r (view, (account, (day, (period, tt))))
      → totalled_of r ≡ totalled (book_seen view) account day period
  total-promises κs period r p = p

  pub day-totals-promises : (κs : Lfts 2) (lent left : MutBor (List ℤ)) (r : Result Unit Refusal)
      → day-totals.Post κs (view, (account, (day, (lent, tt)))) r (view, (account, (day, (left, tt))))
      → DayTotalled view.book view.held.now view.side1.now view.side2.now account day lent.now (answer_of r) left.now
  day-totals-promises κs lent left r p = p

  pub figures-promises : (κs : Lfts 1) (r : Result DayFigures Refusal)
      → figures.Post κs (view, (account, (day, tt))) r (view, (account, (day, tt)))
      → figured_of r ≡ figured (book_seen view) account day
  figures-promises κs r p = p
