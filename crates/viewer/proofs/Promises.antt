-- What the exports that narrow their numbers ensure, as types. Each holds at the caller's numbers where it holds at the narrowed ones; the exports
-- are proved by that, so that uniqueness speaks of the very promise in the source.
use mathlib.Core.List.{List}
use mathlib.Core.Path.{◌≡◌, ap, subst, ◌∙◌}
use Prim.Native.Nat.{ℕ, min}
use lib.Ieee.{Float}
use lib.IntN.{ℤ}
use lib.ListN.{length}
use Rattle.std.specs.Prelude.{if◌then◌else◌}
use Rattle.words.specs.Tests.{◌<?◌}
use Rattle.words.specs.Rules.{answer}
use Rattle.meaning.specs.Ledgers.{contracts, identifier_of}
use Rattle.meaning.specs.Messages.{nullification}
use Rattle.meaning.specs.Books as Meaning
use Rattle.meaning.specs.Calls.{Call, message, refusal}
use Rattle.meaning.specs.Rows.{row_rules}
use Rattle.book.specs.declared.Book.{Book}
use Rattle.book.specs.Structs.{book_of}
use Rattle.calls.specs.Answers.{after_call}
use Rattle.position.specs.Totals.{totalled, figured}
use Rattle.position.specs.declared.Totalled.{Totalled}
use Rattle.position.specs.declared.Figured.{Figured}
use Rattle.position.proofs.Promises.{DayTotalled}
use Rattle.bar.specs.Figures.{case_of, first_of, second_of}
use Rattle.marks.specs.Marks.{Marked, marked, day_mark_rules, day_marked}
use Rattle.marks.specs.declared.RowPlace.{RowPlace}
use Rattle.marks.proofs.PlaceLaws.{the_place, Placed, placed}
use Rattle.viewer.specs.Asked.{named}
use Rattle.viewer.specs.Numbers.{mark_numbers}
use Rattle.viewer.specs.declared.MarkNumbers.{MarkNumbers}
use Rattle.viewer.proofs.NarrowedTotals.{total-narrowed, day-totals-narrowed, figures-narrowed}
use Rattle.viewer.proofs.NarrowedMarks.{mark-narrowed, day-marks-narrowed, row-narrowed}
use Rattle.viewer.proofs.NarrowedNullification.{nullified-narrowed}

module _ (b : Book) (held : List ℕ) (side1 side2 : List ℤ) where
  abbrev before : Meaning.Book contracts
  before = book_of b held side1 side2

  -- ---- a nullification: the answer, and both tables left

  abbrev pub Nullified : ℕ → ℕ → ℕ → ℕ → List ℤ → List ℤ → Type 0
  Nullified account other first r l1 l2 =
      let call : Call contracts = message (nullification (record { account = account; other = other; first = first })) in
      (r ≡ refusal before call) × (l1 ≡ (after_call before call).ledger.side1) × (l2 ≡ (after_call before call).ledger.side2)

  pub nullified-kept : (account other first : ℕ) {a o f : ℕ} → a ≡ min account 255 → o ≡ min other 255 → f ≡ min first 65535
      → (r : ℕ) (l1 l2 : List ℤ) → Nullified a o f r l1 l2 → Nullified account other first r l1 l2
  nullified-kept account other first ea eo ef r l1 l2 =
      subst (λ (m : ℕ × Meaning.Book contracts). (r ≡ m.0) × (l1 ≡ m.1.ledger.side1) × (l2 ≡ m.1.ledger.side2))
      (nullified-narrowed before account other first ea eo ef)

  -- ---- a total, the day's figures; the totals of a day: the answer, and the buffer left

  abbrev pub TotalShown : ℕ → ℕ → ℕ → Totalled → Type 0
  TotalShown account day period r = r ≡ totalled before account day period

  pub total_kept : (account day period : ℕ) {a d p : ℕ} → a ≡ min account 255 → d ≡ min day 65535 → p ≡ min period 255
      → (r : Totalled) → TotalShown a d p r → TotalShown account day period r
  total_kept account day period ea ed ep r e = e ∙ total-narrowed before account day period ea ed ep

  abbrev pub FiguresShown : ℕ → ℕ → Figured → Type 0
  FiguresShown account day r = r ≡ figured before account day

  pub figures-kept : (account day : ℕ) {a d : ℕ} → a ≡ min account 255 → d ≡ min day 65535 → (r : Figured) → FiguresShown a d r → FiguresShown account day r
  figures-kept account day ea ed r e = e ∙ figures-narrowed before account day ea ed

  pub day-totals-kept : (account day : ℕ) {a d : ℕ} → a ≡ min account 255 → d ≡ min day 65535
      → (lent : List ℤ) (r : ℕ) (left : List ℤ) → DayTotalled b held side1 side2 a d lent r left → DayTotalled b held side1 side2 account day lent r left
  day-totals-kept account day ea ed lent r left =
      subst (λ (m : ℕ × List ℤ). (r ≡ m.0) × (left ≡ m.1)) (day-totals-narrowed before lent account day ea ed)

  -- ---- the marks of a day: the answer, and the three buffers left

  abbrev pub DayMarks : ℕ → ℕ → ℕ → List ℕ → List Float → List Float → ℕ → List ℕ → List Float → List Float → Type 0
  DayMarks i account day cases firsts seconds r c f s =
      let a = answer (day_mark_rules before i account day (length cases) (length firsts) (length seconds)) in
      (r ≡ a)
      × (c ≡ day_marked case_of before i account day a cases)
      × (f ≡ day_marked first_of before i account day a firsts)
      × (s ≡ day_marked second_of before i account day a seconds)

  abbrev pub MarkShown : ℕ → ℕ → ℕ → ℕ → MarkNumbers → Type 0
  MarkShown i account day period r = r ≡ mark_numbers (marked before i account day period)

  abbrev pub RowRefusal : ℕ → ℕ → ℕ → ℕ → Type 0
  RowRefusal i day side r = r ≡ answer (row_rules before i day side)

  module _ (originator reference : ℕ) {o n : ℕ} (eo : o ≡ (if reference <? 65536 then min originator 255 else 255)) (en : n ≡ min reference 65535) where
    pub day-marks-kept : (account day : ℕ) {a d : ℕ} → a ≡ min account 255 → d ≡ min day 65535
        → (cases : List ℕ) (firsts seconds : List Float) (r : ℕ) (c : List ℕ) (f s : List Float)
        → DayMarks (identifier_of o n) a d cases firsts seconds r c f s → DayMarks (named originator reference) account day cases firsts seconds r c f s
    day-marks-kept account day ea ed cases firsts seconds r c f s =
        subst (λ (m : ℕ × List ℕ × List Float × List Float). (r ≡ m.0) × (c ≡ m.1) × (f ≡ m.2) × (s ≡ m.3))
        (day-marks-narrowed before originator reference eo en cases firsts seconds account day ea ed)

    -- ---- one mark, as its numbers

    pub mark-kept : (account day period : ℕ) {a d p : ℕ} → a ≡ min account 255 → d ≡ min day 65535 → p ≡ min period 255
        → (m : Marked) (r : MarkNumbers) → r ≡ mark_numbers m → m ≡ marked before (identifier_of o n) a d p
        → MarkShown (named originator reference) account day period r
    mark-kept account day period ea ed ep m r f e =
        f ∙ ap mark_numbers (e ∙ mark-narrowed before originator reference eo en account day period ea ed ep)

    -- ---- why a row is refused, and where it lies

    module _ (day side : ℕ) {d k : ℕ} (ed : d ≡ min day 65535) (ek : k ≡ min side 255) where
      pub row-refusal-kept : (r : ℕ) → RowRefusal (identifier_of o n) d k r → RowRefusal (named originator reference) day side r
      row-refusal-kept r e = e ∙ ap (λ (m : ℕ × RowPlace). m.0) (row-narrowed before originator reference eo en day side ed ek)

      pub placed-kept : (r : RowPlace) → r ≡ the_place b held side1 side2 (identifier_of o n) d k → Placed b held side1 side2 (named originator reference) day side r
      placed-kept r e =
          placed b held side1 side2 (named originator reference) day side r
          (e ∙ ap (λ (m : ℕ × RowPlace). m.1) (row-narrowed before originator reference eo en day side ed ek))
