-- Where the code reads a mark: the place of a period in the row of its day, and what it makes of the two volumes there.
use mathlib.Core.Bool.{true}
use mathlib.Core.List.{List}
use mathlib.Core.Path.{◌≡◌, sym, ap, ◌∙◌}
use Prim.Native.Nat.{ℕ, suc, ◌+◌, ◌<◌}
use lib.IntN.{ℤ}
use lib.ListN.{get_or}
use Rattle.words.specs.Rules.{answer}
use Rattle.meaning.specs.Time.{periods_at, days, day_of, has_day}
use Rattle.meaning.specs.Authorisations.{row_at}
use Rattle.meaning.specs.Ledgers.{the_mark, index, at, identifier_of, slot_of}
use Rattle.meaning.specs.Bars.{mark}
use Rattle.ledger.proofs.PlaceLaws.{index-next}
use Rattle.book.specs.declared.Book.{Book}
use Rattle.book.specs.Structs.{time_in, rows_in}
use Rattle.bar.specs.Figures.{bar_for, bar_seen}
use Rattle.marks.specs.Marks.{asking_rules, bar_from}
use Rattle.marks.proofs.RowLaws.{before, start, origin-of, period-of-day}
use Rattle.marks.proofs.MarkLaws.{mark_answer, mark-done, mark-answered}

module _ (b : Book) (held : List ℕ) (side1 side2 : List ℤ) (originator reference account D period : ℕ) (fits : reference < 65536) where
  abbrev pub identifier : ℕ
  identifier = identifier_of originator reference

  pub mark-at : (place : ℕ) → place ≡ index (days (time_in b)) (slot_of held identifier) (day_of (time_in b) D) period
      → mark_answer (before b held side1 side2 identifier D) identifier account D period ≡ 0
      → bar_seen (row_at (rows_in b.setup) originator) account (get_or side1 place the_mark) (get_or side2 place the_mark) ≡ bar_for (mark (before b held side1 side2 identifier D) identifier account D period)
  unfolding at
  mark-at place q e =
      sym (mark-answered (before b held side1 side2 identifier D) identifier account D period e ∙ rw (origin-of originator reference fits, q))

-- every period of a day that is answered for
module _ (b : Book) (held : List ℕ) (side1 side2 : List ℤ) (originator reference account D : ℕ) (fits : reference < 65536) where
  pub day-marks-at : (from : ℕ) → from ≡ start b held side1 side2 (identifier_of originator reference) D
      → answer (asking_rules (before b held side1 side2 (identifier_of originator reference) D) (identifier_of originator reference) account) ≡ 0
      → has_day (time_in b) D ≡ true
      → (p : ℕ) → p < periods_at (time_in b).codes (day_of (time_in b) D)
      → bar_from (row_at (rows_in b.setup) originator) account side1 side2 from p
      ≡ bar_for (mark (before b held side1 side2 (identifier_of originator reference) D) (identifier_of originator reference) account D (suc p))
  unfolding bar_from
  day-marks-at from q e h p l =
      let i = identifier_of originator reference in
      let whole = before b held side1 side2 i D in
      let d = day_of (time_in b) D in
      let place : from + p ≡ index (days (time_in b)) (slot_of held i) d (suc p) = ap (λ (k : ℕ). k + p) q ∙ index-next (days (time_in b)) (slot_of held i) d p in
      mark-at b held side1 side2 originator reference account D (suc p) fits (from + p) place
      (sym (mark-done whole i account D (suc p) e (period-of-day b D p h l)))
