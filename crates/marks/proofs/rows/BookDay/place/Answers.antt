-- The day is one of the book's, which has fewer than 256.
use native.Mathlib.Omega.{arith}
use denote.Struct.Laws.{owed, vals}
use Rattle.marks.proofs.RowLaws.{has-day}
use Rattle.marks.specs.contracts.rows.BookDay as Held
use Rattle.marks.proofs.rows.BookDay.TheLaws as HeldLaws
use Rattle.marks.proofs.rows.BookDay.place.Goals as goal

pub overflow_cast-result : goal.overflow_cast-result
overflow_cast-result c =
    let types = owed Held.the_type HeldLaws.the_laws c.args.self (vals Held.the_type HeldLaws.the_laws c.args.self) c.well_formed.0 in
    omega (arith, (has-day c.args.self.book c.args.self.day c.args.self.of_book).place, types.0.1.1.1.0.1)
