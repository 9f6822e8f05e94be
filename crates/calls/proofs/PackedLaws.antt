-- Calls on tables that are no sound book, and a packed message by its reading.
use mathlib.Core.Bool.{true, false}
use mathlib.Core.List.{List}
use mathlib.Core.Logic.{◌≢◌}
use mathlib.Core.Path.{◌≡◌, refl, sym, ap, ◌∙◌}
use Prim.Native.Nat.{ℕ}
use native.Mathlib.Omega.{arith}
use lib.IntN.{ℤ}
use Rattle.words.specs.Rules.{answer, Outcome, placeless}
use Rattle.meaning.specs.Ledgers.{contracts}
use Rattle.meaning.specs.Messages as Meant
use Rattle.meaning.specs.Books as Meaning
use Rattle.meaning.specs.Soundness.{sound}
use Rattle.meaning.specs.Calls.{message}
use Rattle.meaning.specs.PackedMessages.{Packed, read_message}
use Rattle.meaning.specs.PackedCalls.{message_rules}
use Rattle.meaning.proofs.PackedCalls.{stepped-read, stepped-unread}
use Rattle.meaning.proofs.Applied.{unsound-refused, message-refused, applied-unsound, applied-unread, applied-refused, applied-done}
use Rattle.messages.specs.declared.Notification.{Notification}
use Rattle.messages.specs.declared.Nullification.{Nullification}
use Rattle.messages.specs.Structs.{notification_of, nullification_of, message_of}
use Rattle.message_reading.specs.declared.MessageRead.{MessageRead}
use Rattle.message_reading.specs.Structs.{message_read}
use Rattle.message_reading.proofs.ReadAgain.{read-message-again}
use Rattle.book.specs.declared.Book.{Book}
use Rattle.book.specs.Structs.{book_of}
use Rattle.calls.specs.Answers.{notified_of, MessageDone}
use Rattle.calls.specs.declared.Applied.{Applied}
use Rattle.calls.proofs.CallLaws.{unsound-stays}
use Rattle.calls.proofs.NotifyLaws.{unsound-outcome, notified-refused}
use Rattle.calls.proofs.MessageLaws.{Does}
use Rattle.calls.proofs.Promises.{Notifies, Nullifies, Applies, Steps}

-- ---- what was read

module _ (bytes : List ℕ) {r : MessageRead} (e : r ≡ message_read (read_message bytes)) where
  pub read_answer : r.answer ≡ (read_message bytes).answer
  unfolding message_read
  read_answer = ap (λ (x : MessageRead). x.answer) e

  pub read_length : r.length ≡ (read_message bytes).length
  unfolding message_read
  read_length = ap (λ (x : MessageRead). x.length) e

  pub read-meant : (read_message bytes).answer ≡ 0 → message_of r.message ≡ (read_message bytes).read
  read-meant z = ap (λ (x : MessageRead). message_of x.message) e ∙ read-message-again bytes z

-- ---- tables that are no sound book

module _ (b : Book) (held : List ℕ) (side1 side2 : List ℤ) where
  abbrev whole : Meaning.Book contracts
  whole = book_of b held side1 side2

  pub unsound-notifies : (n : Notification) → sound whole ≡ false → Notifies b held side1 side2 n (record { answer = 1; kind = 0; slot = 0; place = 0 }) held side1 side2
  unsound-notifies n e =
      let m = notification_of n in
      let stays = sym (unsound-stays whole (message (Meant.notification m)) e) in (
        ap notified_of (sym (notified-refused whole m (placeless 1) (unsound-outcome whole m e) (λ z. omega (arith, z)))),
        ap (λ (w : Meaning.Book contracts). w.ledger.held) stays,
        ap (λ (w : Meaning.Book contracts). w.ledger.side1) stays,
        ap (λ (w : Meaning.Book contracts). w.ledger.side2) stays,
      )

  pub unsound-nullifies : (x : Nullification) → sound whole ≡ false → Nullifies b held side1 side2 x 1 side1 side2
  unsound-nullifies x e =
      let call = message (Meant.nullification (nullification_of x)) in
      let stays = sym (unsound-stays whole call e) in (
        sym (unsound-refused whole e call),
        ap (λ (w : Meaning.Book contracts). w.ledger.side1) stays,
        ap (λ (w : Meaning.Book contracts). w.ledger.side2) stays,
      )

  module _ (bytes : List ℕ) where
    abbrev read : Packed
    read = (read_message bytes).read

    -- ---- a packed message: no sound book, unreadable, refused by the book, or done

    abbrev refused_by : Outcome → Applied
    refused_by told = record { answer = told.answer; kind = 0; slot = 0; place = told.place; length = 0; book = b }

    pub unsound-applies : sound whole ≡ false → Applies b held side1 side2 bytes (refused_by (placeless 1)) held side1 side2
    unsound-applies e = rw (applied-unsound whole bytes e) (refl, refl, refl, refl)

    module _ (s : sound whole ≡ true) where
      pub unread-applies : (read_message bytes).answer ≢ 0 → Applies b held side1 side2 bytes (refused_by (placeless (read_message bytes).answer)) held side1 side2
      unread-applies n = rw (applied-unread whole bytes s n) (refl, refl, refl, refl)

      module _ (e : (read_message bytes).answer ≡ 0) (d : MessageDone) (h : List ℕ) (l1 l2 : List ℤ) (does : Does b whole read d h l1 l2) where
        number : d.answer ≡ answer (message_rules whole read)
        number = ap (λ (x : MessageDone). x.answer) does.0

        abbrev told : Outcome
        told = record { answer = d.answer; place = d.place }

        pub refused-applies : d.answer ≢ 0 → Applies b held side1 side2 bytes (refused_by told) h l1 l2
        refused-applies n =
            let no : answer (message_rules whole read) ≢ 0 = λ z. n (number ∙ z) in
            let stays = message-refused whole read no in
            rw (applied-refused whole bytes s e no) (
              ap (λ (x : MessageDone). refused_by (record { answer = x.answer; place = x.place })) does.0,
              does.1 ∙ ap (λ (w : Meaning.Book contracts). w.ledger.held) stays,
              does.2 ∙ ap (λ (w : Meaning.Book contracts). w.ledger.side1) stays,
              does.3 ∙ ap (λ (w : Meaning.Book contracts). w.ledger.side2) stays,
            )

        pub done-applies : d.answer ≡ 0
            → Applies b held side1 side2 bytes (record { answer = 0; kind = d.kind; slot = d.slot; place = 0; length = (read_message bytes).length; book = d.book }) h l1 l2
        done-applies z =
            rw (applied-done whole bytes s e (sym number ∙ z)) (
              ap (λ (x : MessageDone). record { answer = 0; kind = x.kind; slot = x.slot; place = 0; length = (read_message bytes).length; book = x.book }) does.0,
              does.1,
              does.2,
              does.3,
            )

    -- ---- a step of a run: unreadable, or read

    pub unread-steps : (read_message bytes).answer ≢ 0
        → Steps b held side1 side2 bytes (record { answer = (read_message bytes).answer; place = 0; length = 0; book = b }) held side1 side2
    unread-steps n = rw (stepped-unread bytes whole n) (refl, refl, refl, refl)

    pub read-steps : (read_message bytes).answer ≡ 0 → (d : MessageDone) (h : List ℕ) (l1 l2 : List ℤ) → Does b whole read d h l1 l2
        → Steps b held side1 side2 bytes (record { answer = d.answer; place = d.place; length = (read_message bytes).length; book = d.book }) h l1 l2
    read-steps e d h l1 l2 does =
        rw (stepped-read bytes whole e)
        (ap (λ (x : MessageDone). record { answer = x.answer; place = x.place; length = (read_message bytes).length; book = x.book }) does.0, does.1, does.2, does.3)
