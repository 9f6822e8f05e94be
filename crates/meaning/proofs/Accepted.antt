-- What an accepted call has shown: the conditions of the refusals that did not come.
use mathlib.Core.Bool.{true, false, not, ◌&&◌}
use mathlib.Core.List.{List}
use mathlib.Core.Path.{◌≡◌, refl, sym, ◌∙◌}
use Prim.Native.Nat.{◌<◌}
use lib.Dec.{eqb}
use lib.ListN.{length}
use borrow.Author.Tests.{eqb-true, leb-false, not-false}
use Rattle.words.specs.Lists.{find, any}
use Rattle.words.specs.Rules.{Rule, done, answer}
use Rattle.laws.proofs.Cases.{on, and_left}
use Rattle.laws.proofs.Rules.{numbered, answer-none}
use Rattle.meaning.specs.Time.{next_day, all_gates, every_gate_closed, current_day}
use Rattle.meaning.specs.Authorisations.{row_at, same_accounts}
use Rattle.meaning.specs.Ledgers.{Sort, originator_of, is_held, every_slot_held}
use Rattle.meaning.specs.Messages.{Entry, Notification, Nullification, notification, nullification}
use Rattle.meaning.specs.Settings.{known, expired}
use Rattle.meaning.specs.Books.{Book}
use Rattle.meaning.specs.Soundness.{sound}
use Rattle.meaning.specs.Refusals.{arriving}
use Rattle.meaning.specs.Notifications.{under, originator_right, notification_rules}
use Rattle.meaning.specs.Calls.{Call, gate, message, gate_rules, nullification_rules, rules_for, accepted}
use Rattle.meaning.proofs.Held.{Room, unheld-is}
use Rattle.meaning.proofs.Entries.{volumes-any}

module _ {K : Sort} (b : Book K) where
  -- every call tests first that the book is sound, and then that a gate is open
  pub record Passes : Type 0 where
    pub book : sound b ≡ true
    pub open-gate : b.setting.time.closed < all_gates b.setting.time.codes

  some-gate : every_gate_closed b.setting.time ≡ false → b.setting.time.closed < all_gates b.setting.time.codes
  unfolding every_gate_closed
  some-gate e = leb-false (all_gates b.setting.time.codes) b.setting.time.closed e

  -- whatever rules of its own a call has
  arriving-passes : (rules : List Rule) → numbered rules ≡ true → answer (arriving b rules) ≡ 0 → Passes
  arriving-passes rules nz e =
      record {
        book = not-false (sound b) (answer-none (arriving b rules) nz e 0);
        open-gate = some-gate (answer-none (arriving b rules) nz e 1);
      }

  pub gate-passes : answer (gate_rules b) ≡ 0 → Passes
  unfolding gate_rules
  gate-passes e = arriving-passes done refl e

  pub nullification-passes : (x : Nullification) → answer (nullification_rules b x) ≡ 0 → Passes × (x.first < next_day b.setting.time)
  unfolding nullification_rules
  nullification-passes x e =
      (arriving-passes _ refl e, leb-false (next_day b.setting.time) x.first (answer-none (nullification_rules b x) refl e 3))

  module _ (n : Notification K) where
    pub record NotificationPasses : Type 0 where
      pub call : Passes
      pub authorisation : known b.setting n.authorisation ≡ true
      pub originator : known b.setting (originator_of n.identifier) ≡ true
      pub start : n.first < next_day b.setting.time
      pub volumes : any (λ (e : Entry K). not (K.in_range e.volume)) n.entries ≡ false
      pub room : Room b.ledger.held n.identifier

    originator-known : known b.setting n.authorisation ≡ true → originator_right b.setting n ≡ true → known b.setting (originator_of n.identifier) ≡ true
    unfolding originator_right
    originator-known h e =
        let o = originator_of n.identifier in
        let a = known b.setting o in
        let x = expired b.setting o (current_day b.setting.time) in
        let s = same_accounts (row_at b.setting.rows o) (under b.setting n) in
        on (eqb o n.authorisation)
        (λ q. rw (eqb-true o n.authorisation q) h)
        (λ q. and_left a x (and_left (a && x) s (rw q at e)))

    room-left : not (is_held b.ledger.held n.identifier) && every_slot_held b.ledger.held ≡ false → Room b.ledger.held n.identifier
    room-left e h = leb-false (length b.ledger.held) (find 0 b.ledger.held) (rw (unheld-is b.ledger.held n.identifier h) at e)

    pub notification-passes : answer (notification_rules b n) ≡ 0 → NotificationPasses
    unfolding notification_rules
    notification-passes e =
        let no = answer-none (notification_rules b n) refl e in
        let h = not-false (known b.setting n.authorisation) (no 2) in
        record {
          call = arriving-passes _ refl e;
          authorisation = h;
          originator = originator-known h (not-false (originator_right b.setting n) (no 5));
          start = leb-false (next_day b.setting.time) n.first (no 8);
          volumes = sym (volumes-any n) ∙ no 10;
          room = room-left (no 13);
        }

  -- what is asked of an accepted call
  abbrev pub CallPasses : Call K → Type 0
  CallPasses gate = Passes
  CallPasses (message (notification n)) = NotificationPasses n
  CallPasses (message (nullification x)) = Passes × (x.first < next_day b.setting.time)

  pub call_passes : (c : Call K) → accepted b c ≡ true → CallPasses c
  unfolding accepted rules_for
  call_passes gate e = gate-passes (eqb-true (answer (gate_rules b)) 0 e)
  call_passes (message (notification n)) e = notification-passes n (eqb-true (answer (notification_rules b n)) 0 e)
  call_passes (message (nullification x)) e = nullification-passes x (eqb-true (answer (nullification_rules b x)) 0 e)
