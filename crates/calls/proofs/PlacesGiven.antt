-- Document 02, A3, of what the code gives: with 10 and 11 the place in the result is the least offending entry's, and with every other answer 0.
use mathlib.Core.List.{List, map}
use mathlib.Core.Logic.{◌≢◌}
use mathlib.Core.Path.{◌≡◌, refl, sym, ap, ◌∙◌}
use Prim.Native.Nat.{ℕ, ◌≤◌, ◌<◌, min}
use native.Mathlib.Omega.{arith}
use lib.IntN.{ℤ}
use lib.ListN.{length, get_or, drop, length-map}
use lib.Seq.{sets}
use Rattle.words.specs.Rules.{answer, place, Outcome, placeless}
use Rattle.laws.proofs.Cases.{on}
use Rattle.laws.proofs.Lists.{get_d_map}
use Rattle.laws.proofs.Stores.{get_d_front}
use Rattle.meaning.specs.Ledgers.{contracts}
use Rattle.meaning.specs.Messages as Messages
use Rattle.meaning.specs.Books as Meaning
use Rattle.meaning.specs.Soundness.{sound}
use Rattle.meaning.specs.Notifications.{notification_rules}
use Rattle.meaning.specs.PackedMessages.{read_message}
use Rattle.meaning.specs.PackedCalls.{applied, Run, answers_in, places_in, applied_all, run_on}
use Rattle.meaning.proofs.PackedCalls.{few-outcomes, run-unsound, run_sound}
use Rattle.meaning.proofs.PlacesTold.{PeriodAt, VolumeAt, ten-tells, eleven-tells, others-tell-none, at-most-50, Tells, applied-ten, applied-eleven, applied-others, Beside, run-beside}
use Rattle.messages.specs.declared.Notification.{Notification}
use Rattle.messages.specs.Structs.{notification_of}
use Rattle.book.specs.declared.Book.{Book}
use Rattle.book.specs.Structs.{setting_in, book_of}
use Rattle.calls.specs.declared.Notified.{Notified}
use Rattle.calls.specs.declared.Applied.{Applied}
use Rattle.calls.specs.declared.AppliedAll.{AppliedAll}
use Rattle.calls.proofs.NotifyLaws.{notified-number, notified-place}
use Rattle.calls.proofs.Promises.{Notifies, Applies, AppliesAll}

module _ (b : Book) (held : List ℕ) (side1 side2 : List ℤ) where
  abbrev whole : Meaning.Book contracts
  whole = book_of b held side1 side2

  -- ---- a notification

  module _ (n : Notification) (r : Notified) (h : List ℕ) (l1 l2 : List ℤ) (promise : Notifies b held side1 side2 n r h l1 l2) where
    abbrev sent : Messages.Notification contracts
    sent = notification_of n

    number : r.answer ≡ answer (notification_rules whole sent)
    number = ap (λ (x : Notified). x.answer) promise.0 ∙ notified-number whole sent

    given : r.place ≡ place (notification_rules whole sent)
    given = ap (λ (x : Notified). x.place) promise.0 ∙ notified-place whole sent

    pub notify-ten : r.answer ≡ 10 → PeriodAt (setting_in b) sent r.place
    notify-ten e = rw given (ten-tells whole sent (sym number ∙ e))

    pub notify-eleven : r.answer ≡ 11 → VolumeAt (setting_in b) sent r.place
    notify-eleven e = rw given (eleven-tells whole sent (sym number ∙ e))

    pub notify-others : r.answer ≢ 10 → r.answer ≢ 11 → r.place ≡ 0
    notify-others p q = given ∙ others-tell-none whole sent (λ z. p (number ∙ z)) (λ z. q (number ∙ z))

    pub notify-at-most-50 : r.place ≤ 50
    notify-at-most-50 = rw given (at-most-50 whole sent)

  -- ---- a packed message

  module _ (bytes : List ℕ) (r : Applied) (h : List ℕ) (l1 l2 : List ℤ) (promise : Applies b held side1 side2 bytes r h l1 l2) where
    told : r.answer ≡ (applied whole bytes).answer
    told = ap (λ (x : Applied). x.answer) promise.0

    placed : r.place ≡ (applied whole bytes).place
    placed = ap (λ (x : Applied). x.place) promise.0

    pub apply-ten : r.answer ≡ 10 → Tells (read_message bytes).read (PeriodAt (setting_in b)) r.place
    apply-ten e = rw placed (applied-ten whole bytes (sym told ∙ e))

    pub apply-eleven : r.answer ≡ 11 → Tells (read_message bytes).read (VolumeAt (setting_in b)) r.place
    apply-eleven e = rw placed (applied-eleven whole bytes (sym told ∙ e))

    pub apply-others : r.answer ≢ 10 → r.answer ≢ 11 → r.place ≡ 0
    apply-others p q = placed ∙ applied-others whole bytes (λ z. p (told ∙ z)) (λ z. q (told ∙ z))

  -- ---- a run of packed messages: what stands in the two lent buffers is told of each message by itself, on the book that those before it left

  module _ (bytes answers places : List ℕ) (r : AppliedAll) (h : List ℕ) (l1 l2 : List ℤ) (answers-left places-left : List ℕ)
      (promise : AppliesAll b held side1 side2 bytes answers places r h l1 l2 answers-left places-left) where
    abbrev room : ℕ
    room = min (length answers) (length places)

    abbrev outcomes : List Outcome
    outcomes = (applied_all room whole bytes).outcomes

    -- one of the outcomes' two numbers, in a buffer with room for all of them
    stored_at : (f : Outcome → ℕ) (lent left : List ℕ) (k : ℕ) → length outcomes ≤ length lent → k < length outcomes
        → left ≡ sets lent 0 (map f outcomes) → f (placeless 0) ≡ 0 → get_or left k 0 ≡ f (get_or outcomes k (placeless 0))
    stored_at f lent left k fits l e z =
        let count = length-map outcomes f in
        ap (λ (x : List ℕ). get_or x k 0) e
        ∙ get_d_front lent (map f outcomes) k 0 (omega (arith, count)) (omega (arith, count))
        ∙ ap (get_or (map f outcomes) k) (sym z)
        ∙ get_d_map f outcomes k (placeless 0)

    module _ (k : ℕ) (done : k < r.done) where
      same-run : run_on room whole bytes ≡ applied_all room whole bytes
      same-run =
          on (sound whole)
          (λ s. (run_sound whole room bytes s).1)
          (λ u. absurd (omega (arith, done, ap (λ (x : AppliedAll). x.done) promise.0, ap (λ (x : Run). length x.outcomes) (run-unsound whole room bytes u).1)))

      told_here : k < length outcomes
      told_here = omega (arith, done, ap (λ (x : AppliedAll). x.done) promise.0, ap (λ (x : Run). length x.outcomes) same-run)

      -- what those before it left
      abbrev earlier : Run
      earlier = applied_all k whole bytes

      pub apply-all-beside : Beside earlier.book (drop earlier.used bytes) (record { answer = get_or answers-left k 0; place = get_or places-left k 0 })
      apply-all-beside =
          let few = few-outcomes room whole bytes in
          let answered = stored_at (λ (o : Outcome). o.answer) answers answers-left k (omega (arith, few)) told_here (promise.4 ∙ ap (λ (x : Run). sets answers 0 (answers_in x.outcomes)) same-run) refl in
          let placed = stored_at (λ (o : Outcome). o.place) places places-left k (omega (arith, few)) told_here (promise.5 ∙ ap (λ (x : Run). sets places 0 (places_in x.outcomes)) same-run) refl in
          rw (answered, placed) (run-beside room k whole bytes told_here)
