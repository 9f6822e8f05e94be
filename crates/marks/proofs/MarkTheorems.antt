-- Rows and marks of a book by value and its lent tables: a row is empty exactly on a refusal, a day of marks is refused exactly, a refused mark is
-- blank, no figure is negative zero, and what account 1 is shown as agreed account 2 is shown as agreed, negated.
use mathlib.Core.Bool.{true}
use mathlib.Core.List.{List, []}
use mathlib.Core.Logic.{◌≢◌, ◌↔◌}
use mathlib.Core.Path.{◌≡◌, refl, sym, ap, ◌∙◌}
use Prim.Native.Nat.{ℕ, zero, suc, ◌+◌, ◌≤◌}
use native.Mathlib.Omega.{arith}
use lib.Dec.{eqb}
use lib.Ieee.{Float, fin, neg}
use lib.IntN.{ℤ, pos, negsuc, neg_ℤ}
use lib.ListN.{length, take, drop, length-take, length-drop}
use Rattle.laws.proofs.Cases.{on}
use Rattle.laws.proofs.Rules.{number_at, Exactly, exactly}
use Rattle.meaning.specs.Ledgers.{contracts, one, two}
use Rattle.meaning.specs.Books as Meaning
use Rattle.meaning.specs.Rows.{row}
use Rattle.meaning.specs.Totals.{mwh}
use Rattle.meaning.specs.Bars as Bars
use Rattle.meaning.proofs.Bars.{row_for, agreed-other-side, agreed-first-side}
use Rattle.meaning.proofs.Figures.{zero-positive}
use Rattle.book.specs.declared.Book.{Book}
use Rattle.book.specs.Structs.{book_of}
use Rattle.bar.specs.Figures.{bar_for, no_figure, first_of, second_of}
use Rattle.marks.specs.Marks.{Marked, marked, day_mark_rules}
use Rattle.bar.specs.declared.Bar.TheVariants.{Blank, Agreed}
use Rattle.marks.proofs.RowLaws.{before, start, long, some-long, row_inside, row_answer, Shown, shown, row-refused}
use Rattle.marks.proofs.MarkLaws.{mark-refused}
use Rattle.figures.proofs.MwhLaws.{mwh-negated, some-not-zero, zero-not-negative, no-negative-zero}

-- ---- rows

part-long : (side : List ℤ) (k n : ℕ) → k + n ≤ length side → length (take n (drop k side)) ≡ n
part-long side k n h = simp (length-take, length-drop) (omega arith)

module _ (b : Book) (held : List ℕ) (side1 side2 : List ℤ) (i D side : ℕ) where
  abbrev whole : Meaning.Book contracts
  whole = before b held side1 side2 i D

  -- "the day's length long"
  pub row-long : row_answer b held side1 side2 i D side ≡ 0 → length (row whole i D side) ≡ long b held side1 side2 i D
  unfolding row
  row-long e =
      let s : Shown b held side1 side2 i D side = shown b held side1 side2 i D side e in
      let k = start b held side1 side2 i D in
      let n = long b held side1 side2 i D in
      let inside = row_inside b held side1 side2 i D s.is-sound s.is-held s.of-book in
      rw e
      (on (eqb side 1)
      (λ q. rw q (part-long side1 k n (inside one)))
      (λ q. rw q (part-long side2 k n (inside two))))

  -- "it is empty exactly on a refusal"
  pub row-empty-exactly : (row whole i D side ≡ []) ↔ (row_answer b held side1 side2 i D side ≢ 0)
  row-empty-exactly = (
    λ none e.
        let s : Shown b held side1 side2 i D side = shown b held side1 side2 i D side e in
        omega (arith, sym (row-long e) ∙ ap length none, some-long b held side1 side2 i D s.is-sound s.of-book),
    row-refused b held side1 side2 i D side,
  )

-- ---- marks

-- what an enum says of meaning's bar
agreed-is : (x : Bars.Bar ℤ) (v : Float) → bar_for (Bars.map_bar mwh x) ≡ Agreed v → (kwh : ℤ) × (x ≡ Bars.Agreed kwh) × (v ≡ mwh kwh)
agreed-is Bars.Blank v e = let z : ◌≡◌ {A = ℕ} 0 1 = cc in absurd (omega arith)
agreed-is (Bars.OneSide u) v e = let z : ◌≡◌ {A = ℕ} 0 1 = cc in absurd (omega arith)
agreed-is (Bars.Agreed u) v e = (u, refl, cc)
agreed-is (Bars.Disagreed u w) v e = let z : ◌≡◌ {A = ℕ} 0 1 = cc in absurd (omega arith)

none-negative : (x : Bars.Bar ℤ) (e : ℤ) → let bar = bar_for (Bars.map_bar mwh x) in (first_of bar ≢ fin true 0 e) × (second_of bar ≢ fin true 0 e)
none-negative Bars.Blank e = (zero-not-negative e, zero-not-negative e)
none-negative (Bars.OneSide u) e = (no-negative-zero u e, zero-not-negative e)
none-negative (Bars.Agreed u) e = (no-negative-zero u e, zero-not-negative e)
none-negative (Bars.Disagreed u w) e = (no-negative-zero u e, no-negative-zero w e)

-- the other account's mark, where one is shown v as agreed: zero is agreed as zero, and any other figure as its negation
pub record Opposite (r : Marked) (v : Float) : Type 0 where
  pub zero-stays : v ≡ no_figure → r.bar ≡ Agreed no_figure
  pub other-negated : v ≢ no_figure → r.bar ≡ Agreed (neg v)

opposite : (r : Marked) (v : Float) (kwh : ℤ) → v ≡ mwh kwh → r.bar ≡ Agreed (mwh (neg_ℤ kwh)) → Opposite r v
opposite r v (pos zero) e q = record { zero-stays = λ z. q ∙ ap Agreed zero-positive; other-negated = λ n. absurd (n (e ∙ zero-positive)) }
opposite r v (pos (suc n)) e q =
    record {
      zero-stays = λ z. absurd (some-not-zero (pos (suc n)) (λ w. let o : ◌≡◌ {A = ℕ} (suc n) 0 = cc in omega arith) (sym e ∙ z));
      other-negated = λ m. q ∙ ap Agreed (mwh-negated (pos (suc n)) (λ w. let o : ◌≡◌ {A = ℕ} (suc n) 0 = cc in omega arith) ∙ ap neg (sym e));
    }
opposite r v (negsuc n) e q =
    record {
      zero-stays = λ z. absurd (some-not-zero (negsuc n) (λ w. let o : ◌≡◌ {A = ℕ} 0 1 = cc in omega arith) (sym e ∙ z));
      other-negated = λ m. q ∙ ap Agreed (mwh-negated (negsuc n) (λ w. let o : ◌≡◌ {A = ℕ} 0 1 = cc in omega arith) ∙ ap neg (sym e));
    }

module _ (b : Book) (held : List ℕ) (side1 side2 : List ℤ) (i D period : ℕ) where
  abbrev tables : Meaning.Book contracts
  tables = book_of b held side1 side2

  -- demand 2, "exactly", as for each question that document 01 names (meaning, Exactly.antt): answer k of a day of marks comes if and only if its
  -- condition holds and no earlier one of 1, 25, 15, 16, 24 does
  pub day-marks-exactly : (account cases firsts seconds : ℕ) → Exactly (day_mark_rules tables i account D cases firsts seconds)
  unfolding day_mark_rules
  day-marks-exactly account cases firsts seconds = exactly (day_mark_rules tables i account D cases firsts seconds) refl

  -- the five numbers themselves, in their order
  pub day-marks-order : (account cases firsts seconds : ℕ) → let rules = day_mark_rules tables i account D cases firsts seconds in
      (number_at rules 0 ≡ 1) × (number_at rules 1 ≡ 25) × (number_at rules 2 ≡ 15) × (number_at rules 3 ≡ 16) × (number_at rules 4 ≡ 24)
  unfolding day_mark_rules
  day-marks-order account cases firsts seconds = (refl, refl, refl, refl, refl)

  -- a refusal's "other results are .. the blank mark"
  pub refused-blank : (account : ℕ) (r : Marked) → r ≡ marked tables i account D period → r.answer ≢ 0 → r.bar ≡ Blank
  unfolding marked
  refused-blank account r e n =
      ap (λ (m : Marked). m.bar) e ∙ mark-refused tables i account D period (λ z. n (ap (λ (m : Marked). m.answer) e ∙ z))

  -- "Zero is positive zero": no figure of a mark is negative zero
  pub marked-no-negative-zero : (account : ℕ) (r : Marked) → r ≡ marked tables i account D period → (e : ℤ)
      → (first_of r.bar ≢ fin true 0 e) × (second_of r.bar ≢ fin true 0 e)
  unfolding marked Bars.mark
  marked-no-negative-zero account r q e =
      let w = none-negative (Bars.seen_bar tables i account D period) e in
      (λ z. w.0 (sym (ap (λ (m : Marked). first_of m.bar) q) ∙ z), λ z. w.1 (sym (ap (λ (m : Marked). second_of m.bar) q) ∙ z))

  -- what account 1 is shown as agreed account 2 is shown as agreed, with the kWh negated as a whole number; and the other way round
  pub agreed-for-second : (r r' : Marked) → r ≡ marked tables i (row_for tables i).account1 D period → r' ≡ marked tables i (row_for tables i).account2 D period
      → (v : Float) → r.bar ≡ Agreed v → Opposite r' v
  unfolding marked Bars.mark
  agreed-for-second r r' e e' v q =
      let w = agreed-is (Bars.seen_bar tables i (row_for tables i).account1 D period) v (sym (ap (λ (m : Marked). m.bar) e) ∙ q) in
      opposite r' v w.0 w.2 (ap (λ (m : Marked). m.bar) e' ∙ ap (λ (x : Bars.Bar ℤ). bar_for (Bars.map_bar mwh x)) (agreed-other-side tables i D period w.0 w.1))

  pub agreed-for-first : (r r' : Marked) → r ≡ marked tables i (row_for tables i).account2 D period → r' ≡ marked tables i (row_for tables i).account1 D period
      → (v : Float) → r.bar ≡ Agreed v → Opposite r' v
  unfolding marked Bars.mark
  agreed-for-first r r' e e' v q =
      let w = agreed-is (Bars.seen_bar tables i (row_for tables i).account2 D period) v (sym (ap (λ (m : Marked). m.bar) e) ∙ q) in
      opposite r' v w.0 w.2 (ap (λ (m : Marked). m.bar) e' ∙ ap (λ (x : Bars.Bar ℤ). bar_for (Bars.map_bar mwh x)) (agreed-first-side tables i D period w.0 w.1))
