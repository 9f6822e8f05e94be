-- Where the day's row lies: the part there is meaning's row, and it is empty exactly on a refusal.
use mathlib.Core.Bool.{not}
use mathlib.Core.List.{List}
use mathlib.Core.Logic.{◌≢◌}
use mathlib.Core.Path.{◌≡◌, sym, ap, ◌∙◌}
use Prim.Native.Nat.{ℕ}
use native.Mathlib.Omega.{arith}
use lib.IntN.{ℤ}
use borrow.Author.Tests.{ne_eqb}
use Rattle.words.specs.Tests.{◌=?◌}
use Rattle.laws.proofs.Cases.{by-eq}
use Rattle.meaning.specs.Rows.{row}
use Rattle.book.specs.declared.Book.{Book}
use Rattle.marks.specs.Rows.{row_place, table_of, part_at}
use Rattle.marks.specs.declared.RowPlace.{RowPlace}
use Rattle.marks.proofs.RowLaws.{before, start, long, some-long, row_answer, shown}

module _ (b : Book) (held : List ℕ) (side1 side2 : List ℤ) (i D side : ℕ) where
  abbrev pub the_place : RowPlace
  the_place = row_place (before b held side1 side2 i D) i D side

  abbrev the_answer : ℕ
  the_answer = row_answer b held side1 side2 i D side

  pub place-refused : the_answer ≢ 0 → the_place ≡ record { answer = the_answer; start = 0; length = 0 }
  unfolding row_place
  place-refused n = rw (ne_eqb the_answer 0 n)

  pub place-done : the_answer ≡ 0 → the_place ≡ record { answer = 0; start = start b held side1 side2 i D; length = long b held side1 side2 i D }
  unfolding row_place
  place-done e = rw e

  -- what the code makes of the place that it found
  pub place_at_lem : (from n : ℕ) → the_answer ≡ 0 → from ≡ start b held side1 side2 i D → n ≡ long b held side1 side2 i D
      → ◌≡◌ {A = RowPlace} (record { answer = 0; start = from; length = n }) the_place
  place_at_lem from n e f l = rw (f, l) (sym (place-done e))

  pub part-is-row : part_at the_place (table_of side1 side2 side) ≡ row (before b held side1 side2 i D) i D side
  unfolding row_place row
  part-is-row = by-eq the_answer 0 (λ e. rw e) (λ n. rw (ne_eqb the_answer 0 n))

  pub empty-exactly : (the_place.length =? 0) ≡ not (the_place.answer =? 0)
  empty-exactly =
      by-eq the_answer 0
      (λ e.
      let s = shown b held side1 side2 i D side e in
      let some = some-long b held side1 side2 i D s.is-sound s.of-book in
      rw (place-done e) (ne_eqb (long b held side1 side2 i D) 0 (λ z. omega (arith, some, z))))
      (λ n. rw (place-refused n, ne_eqb the_answer 0 n))

  -- all that is promised of a place
  abbrev pub Placed : RowPlace → Type 0
  Placed r =
      (r ≡ the_place)
      × (part_at r (table_of side1 side2 side) ≡ row (before b held side1 side2 i D) i D side)
      × ((r.length =? 0) ≡ not (r.answer =? 0))

  pub placed : (r : RowPlace) → r ≡ the_place → Placed r
  placed r e = (
    e,
    ap (λ (p : RowPlace). part_at p (table_of side1 side2 side)) e ∙ part-is-row,
    rw e empty-exactly,
  )
