-- A notification's answer from its parts, and the tables that an accepted one leaves.
use mathlib.Core.Bool.{Bool, true, false, not, cond, ◌&&◌}
use mathlib.Core.List.{List, ◌++◌}
use mathlib.Core.Logic.{◌≢◌}
use mathlib.Core.Path.{◌≡◌, refl, sym, ap, ◌∙◌}
use Prim.Native.Nat.{ℕ, suc}
use native.Mathlib.Omega.{arith}
use lib.Dec.{leb, ltb, eqb}
use lib.IntN.{ℤ}
use lib.ListN.{length, set}
use borrow.Author.Tests.{ltb-true, lt-leb, eqb-true, ne_eqb}
use Rattle.std.specs.Prelude.{Option, Some, None, IsSome}
use Rattle.words.specs.Lists.{find, map_at}
use Rattle.words.specs.Rules.{Rule, answer, place, Outcome, outcome, placeless}
use Rattle.laws.proofs.Cases.{on}
use Rattle.laws.proofs.Rules.{numbered, earlier-answers, later-answers, place_none, place-done, earlier-places, later-places}
use Rattle.meaning.specs.Time.{Time}
use Rattle.meaning.specs.Ledgers.{contracts, is_held, every_slot_held, slot_for, Side, one, two, side, places}
use Rattle.meaning.specs.Messages as Messages
use Rattle.meaning.specs.Messages.{notification, writes, held_after, rewritten, written}
use Rattle.meaning.specs.Books as Meaning
use Rattle.meaning.specs.Soundness.{sound}
use Rattle.meaning.specs.Notifications.{under, is_replacement, is_additional, kind_of, kind_number, kind_rules, slot_rules, notification_rules, notified, Kind, initial, replacement, additional}
use Rattle.limits.specs.declared.kinds.Kind as Kinds
use Rattle.limits.specs.Kinds.{number_found}
use Rattle.meaning.specs.Calls.{Call, message, rules_for, refusal, act}
use Rattle.meaning.proofs.SetupRules.{opens}
use Rattle.meaning.proofs.Sound.{parts}
use Rattle.calls.specs.Answers.{after_call}
use Rattle.message_checks.specs.Checks.{check_rules, late_rules}
use Rattle.message_effects.specs.Effects.{slot_rule}
use Rattle.notification_kinds.specs.Kinds.{Fits, kind_answer}
use Rattle.notification_kinds.proofs.KindLaws.{kind-fitting}
use Rattle.book.specs.Structs.{book_of}
use Rattle.book.specs.declared.Book.{Book}
use Rattle.laws.proofs.RuleByRule.{first-passed, same_outcome}
use Rattle.book.proofs.SoundParts.{codes-count}
use Rattle.calls.proofs.CallLaws.{call-accepted}
use Rattle.message_effects.proofs.EffectLaws.{volumes_given, accepted-side, unwritten-side}

-- ---- its slot

slot-full : (held : List ℕ) (i : ℕ) → not (is_held held i) && every_slot_held held ≡ leb (length held) (slot_for held i)
unfolding slot_for is_held
slot-full held i =
    on (ltb (find (suc i) held) (length held))
    (λ e. rw e (sym (lt-leb (length held) (find (suc i) held) (ltb-true (find (suc i) held) (length held) e))))
    (λ e. rw e)

-- ---- its answer

module _ (b : Meaning.Book contracts) (n : Messages.Notification contracts) where
  kind-two : eqb (kind_number (kind_of b n)) 2 ≡ is_replacement b n
  unfolding kind_of
  kind-two = on (is_replacement b n) (λ e. rw e) (λ e. on (is_additional b n) (λ q. rw (e, q)) (λ q. rw (e, q)))

  replacement-alone : is_replacement b n ≡ true → is_additional b n ≡ false
  unfolding is_additional
  replacement-alone e = rw e

  kind-three : eqb (kind_number (kind_of b n)) 3 ≡ is_additional b n
  unfolding kind_of
  kind-three = on (is_replacement b n) (λ e. rw (e, replacement-alone e)) (λ e. on (is_additional b n) (λ q. rw (e, q)) (λ q. rw (e, q)))

  abbrev pub late_answer : ℕ
  late_answer = answer (late_rules (kind_number (kind_of b n)) (under b.setting n).type (slot_for b.ledger.held n.identifier) (length b.ledger.held))

  -- the rules that read a table
  abbrev last_three : List Rule
  last_three = kind_rules b n ++ slot_rules b.ledger n

  last-three : answer last_three ≡ late_answer
  unfolding answer late_rules
  last-three = rw (kind-two, kind-three, slot-full b.ledger.held n.identifier)

  pub unsound-outcome : sound b ≡ false → outcome (notification_rules b n) ≡ placeless 1
  unfolding answer place notification_rules
  unsound-outcome e = rw e

  split : sound b ≡ true → outcome (notification_rules b n) ≡ outcome (check_rules b.setting n ++ last_three)
  unfolding notification_rules check_rules
  split e = first-passed _ _ (ap not e)

  pub early-outcome : sound b ≡ true → answer (check_rules b.setting n) ≢ 0 → outcome (notification_rules b n) ≡ outcome (check_rules b.setting n)
  early-outcome e q =
      split e ∙ same_outcome (earlier-answers (check_rules b.setting n) last_three q) (earlier-places (check_rules b.setting n) last_three q)

  numbered-checks : numbered (check_rules b.setting n) ≡ true
  unfolding check_rules
  numbered-checks = refl

  -- the rules that read a table carry no place
  pub late-outcome : sound b ≡ true → answer (check_rules b.setting n) ≡ 0 → outcome (notification_rules b n) ≡ placeless late_answer
  late-outcome e q =
      split e
      ∙ same_outcome
      (later-answers (check_rules b.setting n) last_three numbered-checks q ∙ last-three)
      (later-places (check_rules b.setting n) last_three numbered-checks q ∙ place_none (λ (k : ℕ). false) last_three refl refl)

  pub late-same : (k t s : ℕ) → k ≡ kind_number (kind_of b n) → t ≡ (under b.setting n).type → s ≡ slot_for b.ledger.held n.identifier
      → answer (late_rules k t s (length b.ledger.held)) ≡ late_answer
  late-same k t s p q r = rw (p, q, r)

  pub notified-refused : (told : Outcome) → outcome (notification_rules b n) ≡ told → told.answer ≢ 0
      → notified b n ≡ record { answer = told.answer; place = told.place; kind = 0; slot = 0 }
  unfolding notified
  notified-refused told e ne =
      rw (ne_eqb (answer (notification_rules b n)) 0 (λ z. ne (sym (ap (λ (o : Outcome). o.answer) e) ∙ z)))
      (ap (λ (o : Outcome). record { answer = o.answer; place = o.place; kind = 0; slot = 0 }) e)

  pub notified-done : answer (notification_rules b n) ≡ 0
      → notified b n ≡ record { answer = 0; place = 0; kind = kind_number (kind_of b n); slot = slot_for b.ledger.held n.identifier }
  unfolding notified
  notified-done e = rw e

  pub notified-number : (notified b n).answer ≡ answer (notification_rules b n)
  unfolding notified
  notified-number = on (eqb (answer (notification_rules b n)) 0) (λ e. rw e (sym (eqb-true (answer (notification_rules b n)) 0 e))) (λ e. rw e)

  numbered-rules : numbered (notification_rules b n) ≡ true
  unfolding notification_rules
  numbered-rules = refl

  pub notified-place : (notified b n).place ≡ place (notification_rules b n)
  unfolding notified
  notified-place =
      on (eqb (answer (notification_rules b n)) 0)
      (λ e. rw e (sym (place-done (notification_rules b n) numbered-rules (eqb-true (answer (notification_rules b n)) 0 e))))
      (λ e. rw e)

  abbrev pub notification_call : Call contracts
  notification_call = message (notification n)

  pub notification-answer : answer (notification_rules b n) ≡ refusal b notification_call
  unfolding rules_for
  notification-answer = refl

  pub notification-place : place (notification_rules b n) ≡ place (rules_for b notification_call)
  unfolding rules_for
  notification-place = refl

  -- ---- the tables that it leaves

  module _ (e : answer (notification_rules b n) ≡ 0) where
    pub held-notified : (slot entry : ℕ) → slot ≡ slot_for b.ledger.held n.identifier → entry ≡ suc n.identifier
        → set b.ledger.held slot entry ≡ (after_call b notification_call).ledger.held
    unfolding act written held_after
    held-notified slot entry p q =
        rw (p, q) (sym (ap (λ (w : Meaning.Book contracts). w.ledger.held) (call-accepted b notification_call (sym notification-answer ∙ e))))

    acts-side : (σ : Side)
        → rewritten {K = contracts} b.setting.rows b.setting.time (notification n) (held_after (notification n) b.ledger.held) σ (side b.ledger σ)
        ≡ side (act b notification_call).ledger σ
    unfolding act written
    acts-side one = refl
    acts-side two = refl

    written_or_not : (σ : Side) (w : Bool) → w ≡ writes b.setting.rows n σ
        → cond w (map_at (slot_rule b.setting.time (slot_for b.ledger.held n.identifier) n.first (suc n.last) (volumes_given n)) (side b.ledger σ)) (side b.ledger σ)
        ≡ rewritten {K = contracts} b.setting.rows b.setting.time (notification n) (held_after (notification n) b.ledger.held) σ (side b.ledger σ)
    written_or_not σ true p = sym (accepted-side b n e σ (side b.ledger σ) (sym p))
    written_or_not σ false p =
        sym (unwritten-side b.setting.rows b.setting.time n b.ledger.held σ (side b.ledger σ) (held_after (notification n) b.ledger.held) (sym p))

    pub side-notified : (σ : Side) (w : Bool) (t : Time) (slot : ℕ) → w ≡ writes b.setting.rows n σ → t ≡ b.setting.time → slot ≡ slot_for b.ledger.held n.identifier
        → cond w (map_at (slot_rule t slot n.first (suc n.last) (volumes_given n)) (side b.ledger σ)) (side b.ledger σ)
        ≡ side (after_call b notification_call).ledger σ
    side-notified σ w t slot p q r =
        rw (q, r)
        (written_or_not σ w p ∙ acts-side σ ∙ sym (ap (λ (z : Meaning.Book contracts). side z.ledger σ) (call-accepted b notification_call (sym notification-answer ∙ e))))

-- ---- a sound book's tables fit it

pub sound-fits : (b : Book) (held : List ℕ) (side1 side2 : List ℤ) → sound (book_of b held side1 side2) ≡ true → Fits b held side1 side2
sound-fits b held side1 side2 s =
    let whole = book_of b held side1 side2 in
    let o = opens (Meaning.setup_of whole.setting) (length held) (length side1) (length side2) (parts whole s).setup in
    record {
      days-few = omega (arith, o.few-days, codes-count b);
      slots-few = o.few-slots;
      table1 = o.side1 ∙ ap (places (length held)) (codes-count b);
      table2 = o.side2 ∙ ap (places (length held)) (codes-count b);
    }

-- so its kind is found
pub sound-kind : (b : Book) (held : List ℕ) (side1 side2 : List ℤ) (n : Messages.Notification contracts) → sound (book_of b held side1 side2) ≡ true
    → kind_answer b held side1 side2 n ≡ kind_number (kind_of (book_of b held side1 side2) n)
sound-kind b held side1 side2 n s = kind-fitting b held side1 side2 n (sound-fits b held side1 side2 s)

pub kind-found : (found : Option Kinds.Kind) (k : Kind) → number_found found ≡ kind_number k → IsSome found
kind-found None initial e = cc
kind-found None replacement e = cc
kind-found None additional e = cc
kind-found (Some _) k e = refl
