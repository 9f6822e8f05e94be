-- THE BRIDGE: calls made one after another on a book by value and its lent tables follow meaning's run, so that the history speaks of what the
-- tables hold.
use mathlib.Core.Bool.{true}
use mathlib.Core.List.{List, [], ◌∷◌, ◌++◌}
use mathlib.Core.Path.{◌≡◌, refl, sym, ap, subst, ◌∙◌}
use Prim.Native.Nat.{ℕ, min}
use lib.IntN.{ℤ}
use lib.ListN.{length}
use Rattle.words.specs.Rules.{answer}
use Rattle.words.specs.Runs.{run}
use Rattle.laws.proofs.Cases.{on}
use Rattle.meaning.specs.Time.{is_period, periods_on}
use Rattle.meaning.specs.Settings.{Setting}
use Rattle.meaning.specs.Ledgers.{contracts, Side}
use Rattle.meaning.specs.Messages.{Message, notification, nullification}
use Rattle.meaning.specs.Books.{opening_rules, opened_book}
use Rattle.meaning.specs.Books as Meaning
use Rattle.meaning.specs.Soundness.{sound}
use Rattle.meaning.specs.Calls.{Call, gate, message, gate_rules}
use Rattle.meaning.specs.History.{standing, decides, after, events_of}
use Rattle.meaning.specs.PackedCalls.{applied, Run, calls_in, run_on}
use Rattle.meaning.proofs.Contracts.{contracts-lawful}
use Rattle.meaning.proofs.History.{after-sound, history}
use Rattle.meaning.proofs.OnlyClock.{run-moves-clock}
use Rattle.meaning.proofs.PackedCalls.{after-append, run-is-calls, run_sound, run-unsound}
use Rattle.meaning.proofs.Applied.{unsound-after, applied-is-calls}
use Rattle.setups.specs.declared.Setup.{Setup}
use Rattle.setups.specs.Structs.{setup_of}
use Rattle.messages.specs.declared.Notification.{Notification}
use Rattle.messages.specs.declared.Nullification.{Nullification}
use Rattle.messages.specs.Structs.{notification_of, nullification_of}
use Rattle.book.specs.declared.Book.{Book}
use Rattle.book.specs.declared.Opened.{Opened}
use Rattle.book.specs.Answers.{opened}
use Rattle.book.specs.Structs.{book_of}
use Rattle.book.proofs.OpeningLaws.{opening_answer, opened-book}
use Rattle.book.proofs.UniqueState.{Opens}
use Rattle.calls.specs.Answers.{after_call, gated}
use Rattle.calls.specs.declared.Gated.{Gated}
use Rattle.calls.specs.declared.Notified.{Notified}
use Rattle.calls.specs.declared.Applied as Structs
use Rattle.calls.specs.declared.AppliedAll.{AppliedAll}
use Rattle.calls.proofs.CallLaws.{message-setting, nullification-held}
use Rattle.calls.proofs.GateLaws.{gated-steps}
use Rattle.calls.proofs.Promises.{Notifies, Nullifies, Applies, AppliesAll}
use Rattle.calls.proofs.RunLaws.{holds-book}

-- a book by value and its lent tables, and the book that they hold
pub record State : Type 0 where
  pub book : Book
  pub held : List ℕ
  pub side1 : List ℤ
  pub side2 : List ℤ

abbrev pub whole : State → Meaning.Book contracts
whole s = book_of s.book s.held s.side1 s.side2

-- Calls made one after another. Each is given the book and the tables that the one before left, and all that is known of it is its promise.
pub data Made : State → List (Call contracts) → State → Type 0 where
  nothing-made : {s : State} → Made s [] s
  close-gate-made : {s t : State} {calls : List (Call contracts)} (r : Gated)
      → r ≡ gated s.book (answer (gate_rules (whole s)))
      → Made (record { book = r.book; held = s.held; side1 = s.side1; side2 = s.side2 }) calls t
      → Made s (gate ∷ calls) t
  notify-made : {s t : State} {calls : List (Call contracts)} (n : Notification) (r : Notified) (h : List ℕ) (l1 l2 : List ℤ)
      → Notifies s.book s.held s.side1 s.side2 n r h l1 l2
      → Made (record { book = s.book; held = h; side1 = l1; side2 = l2 }) calls t
      → Made s (message (notification (notification_of n)) ∷ calls) t
  nullify-made : {s t : State} {calls : List (Call contracts)} (x : Nullification) (r : ℕ) (l1 l2 : List ℤ)
      → Nullifies s.book s.held s.side1 s.side2 x r l1 l2
      → Made (record { book = s.book; held = s.held; side1 = l1; side2 = l2 }) calls t
      → Made s (message (nullification (nullification_of x)) ∷ calls) t
  apply-made : {s t : State} {calls : List (Call contracts)} (bytes : List ℕ) (r : Structs.Applied) (h : List ℕ) (l1 l2 : List ℤ)
      → Applies s.book s.held s.side1 s.side2 bytes r h l1 l2
      → Made (record { book = r.book; held = h; side1 = l1; side2 = l2 }) calls t
      → Made s (calls_in 1 bytes ++ calls) t
  apply-all-made : {s t : State} {calls : List (Call contracts)} (bytes answers places : List ℕ) (r : AppliedAll) (h : List ℕ) (l1 l2 : List ℤ) (answers-left places-left : List ℕ)
      → AppliesAll s.book s.held s.side1 s.side2 bytes answers places r h l1 l2 answers-left places-left
      → Made (record { book = r.book; held = h; side1 = l1; side2 = l2 }) calls t
      → Made s (calls_in (min (length answers) (length places)) bytes ++ calls) t

-- ---- each call leaves the book that meaning has after it

module _ (s : State) where
  gate-leaves : (r : Gated) → r ≡ gated s.book (answer (gate_rules (whole s))) → book_of r.book s.held s.side1 s.side2 ≡ after_call (whole s) gate
  gate-leaves r p = ap (λ (x : Gated). book_of x.book s.held s.side1 s.side2) p ∙ gated-steps s.book s.held s.side1 s.side2

  -- a message changes the tables alone
  message-leaves : (m : Message contracts) (h : List ℕ) (l1 l2 : List ℤ) → let w = after_call (whole s) (message m) in
      h ≡ w.ledger.held → l1 ≡ w.ledger.side1 → l2 ≡ w.ledger.side2 → book_of s.book h l1 l2 ≡ w
  message-leaves m h l1 l2 p q r =
      let w = after_call (whole s) (message m) in
      rw (p, q, r) (ap (λ (x : Setting). record { setting = x; ledger = w.ledger }) (sym (message-setting (whole s) m)))

  applied-leaves : (bytes : List ℕ) (r : Structs.Applied) (h : List ℕ) (l1 l2 : List ℤ) → Applies s.book s.held s.side1 s.side2 bytes r h l1 l2
      → book_of r.book h l1 l2 ≡ after (whole s) (calls_in 1 bytes)
  applied-leaves bytes r h l1 l2 p =
      let w = (applied (whole s) bytes).book in
      let e = applied-is-calls (whole s) bytes in
      rw (ap (λ (x : Structs.Applied). x.book) p.0, p.1, p.2, p.3)
      (holds-book s.book w (rw e (run-moves-clock 1 (whole s) bytes)) ∙ e)

  run-calls : (room : ℕ) (bytes : List ℕ) → (run_on room (whole s) bytes).book ≡ after (whole s) (calls_in room bytes)
  run-calls room bytes =
      on (sound (whole s))
      (λ e. ap (λ (x : Run). x.book) (run_sound (whole s) room bytes e).1 ∙ run-is-calls room (whole s) bytes)
      (λ e. ap (λ (x : Run). x.book) (run-unsound (whole s) room bytes e).1 ∙ sym (unsound-after (whole s) e (calls_in room bytes)))

  run-leaves : (bytes answers places : List ℕ) (r : AppliedAll) (h : List ℕ) (l1 l2 : List ℤ) (answers-left places-left : List ℕ)
      → AppliesAll s.book s.held s.side1 s.side2 bytes answers places r h l1 l2 answers-left places-left
      → book_of r.book h l1 l2 ≡ after (whole s) (calls_in (min (length answers) (length places)) bytes)
  run-leaves bytes answers places r h l1 l2 answers-left places-left p =
      let room = min (length answers) (length places) in
      let w = (run_on room (whole s) bytes).book in
      let e = run-calls room bytes in
      rw (ap (λ (x : AppliedAll). x.book) p.0, p.1, p.2, p.3)
      (holds-book s.book w (rw e (run-moves-clock room (whole s) bytes)) ∙ e)

-- ---- so do calls one after another

pub follows : {s t : State} {calls : List (Call contracts)} → Made s calls t → whole t ≡ after (whole s) calls
unfolding after run
follows nothing-made = refl
follows {s} (close-gate-made {calls} r p m) = follows m ∙ ap (λ (w : Meaning.Book contracts). after w calls) (gate-leaves s r p)
follows {s} (notify-made {calls} n r h l1 l2 p m) =
    follows m ∙ ap (λ (w : Meaning.Book contracts). after w calls) (message-leaves s (notification (notification_of n)) h l1 l2 p.1 p.2 p.3)
follows {s} (nullify-made {calls} x r l1 l2 p m) =
    follows m
    ∙ ap (λ (w : Meaning.Book contracts). after w calls)
    (message-leaves s (nullification (nullification_of x)) s.held l1 l2 (sym (nullification-held (whole s) (nullification_of x))) p.1 p.2)
follows {s} (apply-made {calls} bytes r h l1 l2 p m) =
    follows m ∙ ap (λ (w : Meaning.Book contracts). after w calls) (applied-leaves s bytes r h l1 l2 p) ∙ sym (after-append (whole s) (calls_in 1 bytes) calls)
follows {s} (apply-all-made {calls} bytes answers places r h l1 l2 answers-left places-left p m) =
    follows m
    ∙ ap (λ (w : Meaning.Book contracts). after w calls) (run-leaves s bytes answers places r h l1 l2 answers-left places-left p)
    ∙ sym (after-append (whole s) (calls_in (min (length answers) (length places)) bytes) calls)

-- ---- from an opened book

-- Opening has begun the book: no rule of opening refuses the setup with these lengths, and the tables hold the book that meaning opens from it.
pub record Begins (start : State) (setup : Meaning.Setup) (slots lent1 lent2 : ℕ) : Type 0 where
  pub unrefused : answer (opening_rules setup slots lent1 lent2) ≡ 0
  pub holds : whole start ≡ opened_book contracts setup slots

module _ {start : State} {setup : Meaning.Setup} {slots lent1 lent2 : ℕ} (begins : Begins start setup slots lent1 lent2)
    (t : State) (calls : List (Call contracts)) (made : Made start calls t) where
  pub begun-holds : whole t ≡ after (opened_book contracts setup slots) calls
  begun-holds = follows made ∙ ap (λ (w : Meaning.Book contracts). after w calls) begins.holds

  -- the tables are a sound book after every call, so no call is refused by 1
  pub begun-sound : sound (whole t) ≡ true
  begun-sound = ap sound begun-holds ∙ after-sound contracts-lawful setup slots lent1 lent2 begins.unrefused calls

  -- what stands in the tables is what the last call that concerns it gives
  pub begun-history : (i : ℕ) (σ : Side) (D period : ℕ) → is_period (whole t).setting.time D period ≡ true
      → standing (whole t) i σ D period ≡ decides (events_of (opened_book contracts setup slots) calls) i σ D (periods_on (whole t).setting.time D) period
  begun-history i σ D period p =
      subst
      (λ (w : Meaning.Book contracts).
      is_period w.setting.time D period ≡ true
      → standing w i σ D period ≡ decides (events_of (opened_book contracts setup slots) calls) i σ D (periods_on w.setting.time D) period)
      (sym begun-holds)
      (history contracts-lawful setup slots lent1 lent2 begins.unrefused calls i σ D period)
      p

-- by `open`
module _ (setup : Setup) (held : List ℕ) (side1 side2 : List ℤ) (r : Opened) (h : List ℕ) (l1 l2 : List ℤ)
    (opening : Opens setup held side1 side2 r h l1 l2) (accepted : r.answer ≡ 0) where
  abbrev start : State
  start = record { book = r.book; held = h; side1 = l1; side2 = l2 }

  answered : opening_answer setup held side1 side2 ≡ 0
  unfolding opened
  answered = sym (ap (λ (x : Opened). x.answer) opening.0) ∙ accepted

  abbrev begun : Meaning.Book contracts
  begun = opened_book contracts (setup_of setup) (length held)

  opens-whole : whole start ≡ begun
  opens-whole =
      rw (opening.0, opening.1, opening.2, opening.3, answered) (opened-book setup held side1 side2 answered)

  pub opens-begins : Begins start (setup_of setup) (length held) (length side1) (length side2)
  opens-begins = record { unrefused = answered; holds = opens-whole }

  module _ (t : State) (calls : List (Call contracts)) (made : Made start calls t) where
    pub holds_after : whole t ≡ after begun calls
    holds_after = begun-holds opens-begins t calls made

    pub stays-sound : sound (whole t) ≡ true
    stays-sound = begun-sound opens-begins t calls made

    pub tables-follow-history : (i : ℕ) (σ : Side) (D period : ℕ) → is_period (whole t).setting.time D period ≡ true
        → standing (whole t) i σ D period ≡ decides (events_of begun calls) i σ D (periods_on (whole t).setting.time D) period
    tables-follow-history = begun-history opens-begins t calls made
