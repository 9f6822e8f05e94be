-- What is promised of the viewer's questions leaves no choice: two answers that both keep the promise are the same. Of the other exports of books.rt,
-- and of those of days.rt, checked.rt and volumes.rt: UniqueStructs.antt.
use mathlib.Core.List.{List}
use mathlib.Core.Path.{◌≡◌}
use Prim.Native.Nat.{ℕ}
use lib.Ieee.{Float}
use lib.IntN.{ℤ}
use Rattle.laws.proofs.Cases.{one-outcome}
use Rattle.messages.specs.declared.Message.{Message}
use Rattle.message_reading.specs.declared.MessageRead.{MessageRead}
use Rattle.fields.specs.declared.WrittenBytes.{WrittenBytes}
use Rattle.setups.specs.declared.Setup.{Setup}
use Rattle.book.specs.declared.Book.{Book}
use Rattle.position.specs.declared.Totalled.{Totalled}
use Rattle.position.specs.declared.Figured.{Figured}
use Rattle.position.proofs.Promises.{DayTotalled}
use Rattle.marks.specs.declared.RowPlace.{RowPlace}
use Rattle.marks.proofs.PlaceLaws.{Placed}
use Rattle.viewer.specs.Asked.{named}
use Rattle.viewer.specs.declared.MarkNumbers.{MarkNumbers}
use Rattle.viewer.proofs.PackedPromises.{MessageRefusal, MessageLength, MessageField, ReadsMessage, WritesMessage, WritesSetup}
use Rattle.viewer.proofs.Promises.{Nullified, TotalShown, FiguresShown, MarkShown, DayMarks, RowRefusal}

-- ---- about message bytes

pub unique-message-refusal : (bytes : List ℕ) (r r' : ℕ) → MessageRefusal bytes r → MessageRefusal bytes r' → r ≡ r'
unique-message-refusal bytes r r' = one-outcome

pub unique-message-length : (bytes : List ℕ) (r r' : ℕ) → MessageLength bytes r → MessageLength bytes r' → r ≡ r'
unique-message-length bytes r r' = one-outcome

pub unique-message-field : (bytes : List ℕ) (field : ℕ) (r r' : ℤ) → MessageField bytes field r → MessageField bytes field r' → r ≡ r'
unique-message-field bytes field r r' = one-outcome

-- ---- packed bytes, each buffer left included

pub unique-read-message : (bytes : List ℕ) (r r' : MessageRead) → ReadsMessage bytes r → ReadsMessage bytes r' → r ≡ r'
unique-read-message bytes r r' = one-outcome

pub unique-write-message : (m : Message) (out : List ℕ) (r r' : WrittenBytes) (left left' : List ℕ)
    → WritesMessage m out r left → WritesMessage m out r' left' → (r ≡ r') × (left ≡ left')
unique-write-message m out r r' left left' p q = (one-outcome p.0 q.0, one-outcome p.1 q.1)

pub unique-write-setup : (s : Setup) (out : List ℕ) (r r' : WrittenBytes) (left left' : List ℕ)
    → WritesSetup s out r left → WritesSetup s out r' left' → (r ≡ r') × (left ≡ left')
unique-write-setup s out r r' left left' p q = (one-outcome p.0 q.0, one-outcome p.1 q.1)

-- ---- what a caller names by numbers of 32 bits

module _ (b : Book) (held : List ℕ) (side1 side2 : List ℤ) where
  pub unique-nullify : (account other first r r' : ℕ) (l1 l1' l2 l2' : List ℤ)
      → Nullified b held side1 side2 account other first r l1 l2 → Nullified b held side1 side2 account other first r' l1' l2' → (r ≡ r') × (l1 ≡ l1') × (l2 ≡ l2')
  unique-nullify account other first r r' l1 l1' l2 l2' p q = (one-outcome p.0 q.0, one-outcome p.1 q.1, one-outcome p.2 q.2)

  pub unique-total : (account day period : ℕ) (r r' : Totalled) → TotalShown b held side1 side2 account day period r → TotalShown b held side1 side2 account day period r' → r ≡ r'
  unique-total account day period r r' = one-outcome

  pub unique-day-totals : (account day : ℕ) (lent : List ℤ) (r r' : ℕ) (left left' : List ℤ)
      → DayTotalled b held side1 side2 account day lent r left → DayTotalled b held side1 side2 account day lent r' left' → (r ≡ r') × (left ≡ left')
  unique-day-totals account day lent r r' left left' p q = (one-outcome p.0 q.0, one-outcome p.1 q.1)

  pub unique-figures : (account day : ℕ) (r r' : Figured) → FiguresShown b held side1 side2 account day r → FiguresShown b held side1 side2 account day r' → r ≡ r'
  unique-figures account day r r' = one-outcome

  module _ (originator reference : ℕ) where
    abbrev identifier : ℕ
    identifier = named originator reference

    pub unique-mark : (account day period : ℕ) (r r' : MarkNumbers)
        → MarkShown b held side1 side2 identifier account day period r → MarkShown b held side1 side2 identifier account day period r' → r ≡ r'
    unique-mark account day period r r' = one-outcome

    pub unique-day-marks : (account day : ℕ) (cases : List ℕ) (firsts seconds : List Float) (r r' : ℕ) (c c' : List ℕ) (f f' s s' : List Float)
        → DayMarks b held side1 side2 identifier account day cases firsts seconds r c f s
        → DayMarks b held side1 side2 identifier account day cases firsts seconds r' c' f' s'
        → (r ≡ r') × (c ≡ c') × (f ≡ f') × (s ≡ s')
    unique-day-marks account day cases firsts seconds r r' c c' f f' s s' p q =
        (one-outcome p.0 q.0, one-outcome p.1 q.1, one-outcome p.2 q.2, one-outcome p.3 q.3)

    pub unique-row-refusal : (day side r r' : ℕ) → RowRefusal b held side1 side2 identifier day side r → RowRefusal b held side1 side2 identifier day side r' → r ≡ r'
    unique-row-refusal day side r r' = one-outcome

    -- where a row lies; of `rows::row` only what it holds is promised, here its place is too
    pub unique-row : (day side : ℕ) (r r' : RowPlace)
        → Placed b held side1 side2 identifier day side r → Placed b held side1 side2 identifier day side r' → r ≡ r'
    unique-row day side r r' p q = one-outcome p.0 q.0
