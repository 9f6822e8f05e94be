-- What `mark` and `row` promise, as the theorems on marks and rows take it: read off their own promises, so that the source and the theorems cannot drift apart.
use mathlib.Core.List.{List}
use mathlib.Core.Path.{◌≡◌}
use Prim.Native.Nat.{ℕ}
use contract.Lifetimes.{Lfts}
use denote.Ref.{Bor}
use lib.IntN.{ℤ}
use Rattle.std.specs.Prelude.{Result}
use Rattle.limits.specs.declared.refusals.Refusal.{Refusal}
use Rattle.meaning.specs.Ledgers.{identifier_of}
use Rattle.meaning.specs.Rows as Meaning
use Rattle.book.specs.declared.Book.{Book}
use Rattle.book.specs.declared.BookView.{BookView}
use Rattle.book.specs.Structs.{book_of, book_seen}
use Rattle.bar.specs.declared.Bar.{Bar}
use Rattle.marks.specs.Marks.{marked_of, marked}
use Rattle.marks.proofs.periods.mark.Reads as mark
use Rattle.marks.proofs.rows.row.Reads as row

module _ (view : BookView) (originator reference : ℕ) where
  pub mark-promises : (κs : Lfts 1) (account day period : ℕ) (r : Result Bar Refusal)
      → mark.Post κs (view, (originator, (reference, (account, (day, (period, tt)))))) r (view, (originator, (reference, (account, (day, (period, tt))))))
      → marked_of r ≡ marked (book_seen view) (identifier_of originator reference) account day period
  mark-promises κs account day period r p = p

module _ (b : Book) (held : Bor (List ℕ)) (side1 side2 : Bor (List ℤ)) (originator reference : ℕ) where
  pub row-promises : (κs : Lfts 2) (day side : ℕ) (r : Bor (List ℤ))
      → row.Post κs (b, (held, (side1, (side2, (originator, (reference, (day, (side, tt)))))))) r (b, (held, (side1, (side2, (originator, (reference, (day, (side, tt))))))))
      → r.now ≡ Meaning.row (book_of b held.now side1.now side2.now) (identifier_of originator reference) day side
  row-promises κs day side r p = p
