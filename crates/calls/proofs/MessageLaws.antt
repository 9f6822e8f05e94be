-- A message by its kind: each kind's own promise is what `do_message` promises of it.
use mathlib.Core.Bool.{true, false}
use mathlib.Core.List.{List}
use mathlib.Core.Path.{◌≡◌, refl, sym, ap, ap₂, ◌∙◌}
use Prim.Native.Nat.{ℕ, ◌-◌, ◌≤◌}
use native.Mathlib.Omega.{arith}
use lib.Dec.{eqb}
use lib.IntN.{ℤ}
use borrow.Author.Tests.{lt-ltb, le-ltb, ne_eqb}
use Rattle.words.specs.Rules.{answer, place}
use Rattle.laws.proofs.Cases.{on, by-eq}
use Rattle.laws.proofs.Rules.{place_none}
use Rattle.words.specs.Runs.{run}
use Rattle.meaning.specs.Settings.{Setting}
use Rattle.meaning.specs.Ledgers.{contracts}
use Rattle.meaning.specs.Messages as Meant
use Rattle.meaning.specs.Books as Meaning
use Rattle.meaning.specs.Soundness.{sound}
use Rattle.meaning.specs.Notifications.{notified}
use Rattle.meaning.specs.Calls as Calls
use Rattle.meaning.specs.Calls.{gate_rules, nullification_rules, rules_for, accepted, act}
use Rattle.meaning.specs.History.{after}
use Rattle.meaning.specs.PackedMessages.{Packed, gate, message, other_kind}
use Rattle.meaning.specs.PackedCalls.{calls_of, message_rules, kind_given, slot_given}
use Rattle.messages.specs.declared.Message.{Message}
use Rattle.messages.specs.Structs.{notification_of, nullification_of, message_of}
use Rattle.messages.specs.Parts.{kind_refusal}
use Rattle.book.specs.declared.Book.{Book}
use Rattle.book.specs.Structs.{book_of}
use Rattle.calls.specs.Answers.{after_call, after_message, next_answer, one_closed, gated, MessageDone, message_done}
use Rattle.calls.specs.declared.Gated.{Gated}
use Rattle.calls.specs.declared.Notified.{Notified}
use Rattle.calls.proofs.CallLaws.{after_one, message-setting, nullification-held}
use Rattle.calls.proofs.GateLaws.{gate-sound, gated-steps}
use Rattle.calls.proofs.NotifyLaws.{notified-number, notified-place, notification-answer, notification-place}
use Rattle.calls.proofs.Promises.{Notifies, Nullifies}

-- ---- the message that a struct holds, by its kind

module _ (m : Message) where
  pub kind-gate : m.kind ≡ 0 → message_of m ≡ gate
  unfolding message_of
  kind-gate e = rw e

  pub kind-notification : m.kind ≡ 1 → message_of m ≡ message (Meant.notification (notification_of m.notification))
  unfolding message_of
  kind-notification e = rw e

  pub kind-nullification : m.kind ≡ 2 → message_of m ≡ message (Meant.nullification (nullification_of m.nullification))
  unfolding message_of
  kind-nullification e = rw e

  pub kind-other : 3 ≤ m.kind → message_of m ≡ other_kind (m.kind - 3)
  unfolding message_of
  kind-other l = rw (ne_eqb m.kind 0 (λ e. omega arith), ne_eqb m.kind 1 (λ e. omega arith), ne_eqb m.kind 2 (λ e. omega arith))

-- ---- what a message leaves, as `do_message` promises it

abbrev pub Does : Book → Meaning.Book contracts → Packed → MessageDone → List ℕ → List ℤ → List ℤ → Type 0
Does b before m r h l1 l2 =
    let left = (after_message before m).ledger in
    (r ≡ message_done b before m) × (h ≡ left.held) × (l1 ≡ left.side1) × (l2 ≡ left.side2)

-- by the answer with kind, slot and place, the gates closed and the tables
done-by : (b : Book) (before w : Meaning.Book contracts) (m : Packed) (told : Notified) (h : List ℕ) (l1 l2 : List ℤ)
    → after_message before m ≡ w → told ≡ record { answer = answer (message_rules before m); kind = kind_given before m; slot = slot_given before m; place = place (message_rules before m) }
    → w.setting.time.closed ≡ b.closed → h ≡ w.ledger.held → l1 ≡ w.ledger.side1 → l2 ≡ w.ledger.side2
    → Does b before m (record { answer = told.answer; place = told.place; kind = told.kind; slot = told.slot; book = b }) h l1 l2
done-by b before w m told h l1 l2 e p q r s t = rw (e, q) (rw p refl, r, s, t)

module _ (b : Book) (held : List ℕ) (side1 side2 : List ℤ) where
  abbrev whole : Meaning.Book contracts
  whole = book_of b held side1 side2

  -- closing the next gate changes the clock alone
  gated-book : (a : ℕ) → gated b a ≡ record { answer = a; book = record { setup = b.setup; closed = (gated b a).book.closed } }
  unfolding gated one_closed
  gated-book a = on (eqb a 0) (λ e. rw e) (λ e. rw e)

  gate-tables : (after_call whole Calls.gate).ledger ≡ whole.ledger
  unfolding act
  gate-tables = on (accepted whole Calls.gate) (λ e. rw e) (λ e. rw e)

  gate-number : sound whole ≡ true → next_answer b ≡ answer (gate_rules whole)
  gate-number s = sym (gate-sound b held side1 side2 s)

  gate-clock : (gated b (answer (gate_rules whole))).book.closed ≡ (after_call whole Calls.gate).setting.time.closed
  gate-clock = ap (λ (w : Meaning.Book contracts). w.setting.time.closed) (gated-steps b held side1 side2)

  -- no rule but a notification's carries a place
  gate-placeless : place (gate_rules whole) ≡ 0
  unfolding gate_rules
  gate-placeless = place_none (λ (k : ℕ). false) (gate_rules whole) refl refl

  nullification-placeless : (x : Meant.Nullification) → place (rules_for whole (Calls.message (Meant.nullification x))) ≡ 0
  unfolding rules_for nullification_rules
  nullification-placeless x = place_none (λ (k : ℕ). false) (nullification_rules whole x) refl refl

  other-placeless : (k : ℕ) → place (message_rules whole (other_kind k)) ≡ 0
  unfolding message_rules
  other-placeless k = place_none (λ (j : ℕ). false) (message_rules whole (other_kind k)) refl refl

  pub does-gate : sound whole ≡ true → (g : Gated) → g ≡ gated b (next_answer b)
      → Does b whole gate (record { answer = g.answer; place = 0; kind = 0; slot = 0; book = g.book }) held side1 side2
  unfolding message_rules kind_given slot_given calls_of rules_for
  does-gate s g p =
      let number = answer (gate_rules whole) in
      let closed : g ≡ record { answer = number; book = record { setup = b.setup; closed = (after_call whole Calls.gate).setting.time.closed } } =
      p ∙ ap (gated b) (gate-number s) ∙ gated-book number ∙ ap (λ (k : ℕ). record { answer = number; book = record { setup = b.setup; closed = k } }) gate-clock in
      rw (after_one whole Calls.gate, gate-tables, gate-placeless)
      (ap (λ (x : Gated). record { answer = x.answer; place = 0; kind = 0; slot = 0; book = x.book }) closed, refl, refl, refl)

  module _ (m : Message) where
    pub does-notification : (r : Notified) (h : List ℕ) (l1 l2 : List ℤ) → Notifies b held side1 side2 m.notification r h l1 l2
        → Does b whole (message (Meant.notification (notification_of m.notification))) (record { answer = r.answer; place = r.place; kind = r.kind; slot = r.slot; book = b }) h l1 l2
    unfolding message_rules kind_given slot_given calls_of
    does-notification r h l1 l2 p =
        let n = notification_of m.notification in
        done-by b whole (after_call whole (Calls.message (Meant.notification n))) (message (Meant.notification n)) r h l1 l2
        (after_one whole (Calls.message (Meant.notification n)))
        (p.0
        ∙ ap₂ (λ (number at : ℕ). record { answer = number; kind = (notified whole n).kind; slot = (notified whole n).slot; place = at })
        (notified-number whole n ∙ notification-answer whole n)
        (notified-place whole n ∙ notification-place whole n))
        (ap (λ (s : Setting). s.time.closed) (message-setting whole (Meant.notification n)))
        p.1 p.2 p.3

    pub does-nullification : (r : ℕ) (l1 l2 : List ℤ) → Nullifies b held side1 side2 m.nullification r l1 l2
        → Does b whole (message (Meant.nullification (nullification_of m.nullification))) (record { answer = r; place = 0; kind = 0; slot = 0; book = b }) held l1 l2
    unfolding message_rules kind_given slot_given calls_of
    does-nullification r l1 l2 p =
        let x = nullification_of m.nullification in
        done-by b whole (after_call whole (Calls.message (Meant.nullification x))) (message (Meant.nullification x)) (record { answer = r; kind = 0; slot = 0; place = 0 }) held l1 l2
        (after_one whole (Calls.message (Meant.nullification x)))
        (ap₂ (λ (number at : ℕ). record { answer = number; kind = 0; slot = 0; place = at }) p.0 (sym (nullification-placeless x)))
        (ap (λ (s : Setting). s.time.closed) (message-setting whole (Meant.nullification x)))
        (sym (nullification-held whole x)) p.1 p.2

  -- a message of another kind does nothing: 20 for the fourth, 23 for those above it
  other-answer : (kind : ℕ) → 3 ≤ kind → sound whole ≡ true → kind_refusal kind ≡ answer (message_rules whole (other_kind (kind - 3)))
  unfolding answer message_rules
  other-answer kind l s =
      by-eq kind 3
      (λ e. rw (e, s))
      (λ n. rw (le-ltb kind 3 l, ne_eqb kind 3 n, s, ne_eqb (kind - 3) 0 (omega arith), lt-ltb 0 (kind - 3) (omega arith)))

  pub does-nothing : (kind number : ℕ) → 3 ≤ kind → sound whole ≡ true → number ≡ kind_refusal kind
      → Does b whole (other_kind (kind - 3)) (record { answer = number; place = 0; kind = 0; slot = 0; book = b }) held side1 side2
  unfolding kind_given slot_given calls_of after run
  does-nothing kind number l s e = (
    ap₂ (λ (k at : ℕ). record { answer = k; place = at; kind = 0; slot = 0; book = b }) (e ∙ other-answer kind l s) (sym (other-placeless (kind - 3))),
    refl,
    refl,
    refl,
  )
