-- What each call on a book ensures of its result and of what it leaves, as a type: for uniqueness, and for runs of calls.
use mathlib.Core.List.{List}
use mathlib.Core.Path.{◌≡◌}
use Prim.Native.Nat.{ℕ, min}
use lib.IntN.{ℤ}
use lib.ListN.{length}
use lib.Seq.{sets}
use Rattle.meaning.specs.Messages.{notification, nullification}
use Rattle.meaning.specs.Notifications.{notified}
use Rattle.meaning.specs.Calls.{message, refusal}
use Rattle.meaning.specs.PackedCalls.{applied, stepped, answers_in, places_in, run_answer, run_on}
use Rattle.messages.specs.declared.Notification.{Notification}
use Rattle.messages.specs.declared.Nullification.{Nullification}
use Rattle.messages.specs.Structs.{notification_of, nullification_of}
use Rattle.book.specs.declared.Book.{Book}
use Rattle.book.specs.Structs.{book_of}
use Rattle.calls.specs.Answers.{after_call, notified_of, applied_of, StepDone, stepped_of, ran_of}
use Rattle.calls.specs.declared.Notified.{Notified}
use Rattle.calls.specs.declared.Applied.{Applied}
use Rattle.calls.specs.declared.AppliedAll.{AppliedAll}

module _ (b : Book) (held : List ℕ) (side1 side2 : List ℤ) where
  abbrev pub Notifies : Notification → Notified → List ℕ → List ℤ → List ℤ → Type 0
  Notifies n r h l1 l2 =
      let before = book_of b held side1 side2 in
      let call = message (notification (notification_of n)) in
      (r ≡ notified_of (notified before (notification_of n))) × (h ≡ (after_call before call).ledger.held) × (l1 ≡ (after_call before call).ledger.side1) × (l2 ≡ (after_call before call).ledger.side2)

  abbrev pub Nullifies : Nullification → ℕ → List ℤ → List ℤ → Type 0
  Nullifies x r l1 l2 =
      let before = book_of b held side1 side2 in
      let call = message (nullification (nullification_of x)) in
      (r ≡ refusal before call) × (l1 ≡ (after_call before call).ledger.side1) × (l2 ≡ (after_call before call).ledger.side2)

  abbrev pub Applies : List ℕ → Applied → List ℕ → List ℤ → List ℤ → Type 0
  Applies bytes r h l1 l2 =
      let whole = applied (book_of b held side1 side2) bytes in
      (r ≡ applied_of b whole) × (h ≡ whole.book.ledger.held) × (l1 ≡ whole.book.ledger.side1) × (l2 ≡ whole.book.ledger.side2)

  -- a step of a run, on a book that is known to be sound
  abbrev pub Steps : List ℕ → StepDone → List ℕ → List ℤ → List ℤ → Type 0
  Steps bytes r h l1 l2 =
      let whole = stepped (book_of b held side1 side2) bytes in
      (r ≡ stepped_of b whole) × (h ≡ whole.book.ledger.held) × (l1 ≡ whole.book.ledger.side1) × (l2 ≡ whole.book.ledger.side2)

  abbrev pub AppliesAll : List ℕ → List ℕ → List ℕ → AppliedAll → List ℕ → List ℤ → List ℤ → List ℕ → List ℕ → Type 0
  AppliesAll bytes answers places r h l1 l2 answers-left places-left =
      let before = book_of b held side1 side2 in
      let whole = run_on (min (length answers) (length places)) before bytes in
      (r ≡ ran_of b (run_answer before) whole) × (h ≡ whole.book.ledger.held) × (l1 ≡ whole.book.ledger.side1) × (l2 ≡ whole.book.ledger.side2) × (answers-left ≡ sets answers 0 (answers_in whole.outcomes)) × (places-left ≡ sets places 0 (places_in whole.outcomes))
