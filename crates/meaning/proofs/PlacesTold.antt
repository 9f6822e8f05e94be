-- Document 02, A3: the place that an answer carries. With 10 and 11 it is the least offending entry's, and with every other answer 0.
use mathlib.Core.Bool.{true, false, true≢false}
use mathlib.Core.List.{List}
use mathlib.Core.Logic.{◌≢◌}
use mathlib.Core.Path.{◌≡◌, refl, sym, ap, subst, ◌∙◌}
use Prim.Native.Nat.{ℕ, zero, suc, ◌≤◌, ◌<◌}
use native.Mathlib.Omega.{arith}
use lib.ListN.{length, get_or, drop}
use lib.Seq.{drop-drop}
use borrow.Author.Tests.{ne_eqb}
use Rattle.words.specs.Rules.{answer, place, Outcome, outcome, placeless}
use Rattle.laws.proofs.Cases.{on, by-eq, by-lt, neither}
use Rattle.laws.proofs.Rules.{FirstMet, answer-why, counted-number, without, never-answers, place_at_lem, place_none, carried_by}
use Rattle.meaning.specs.Ledgers.{Sort, contracts}
use Rattle.meaning.specs.Messages as Messages
use Rattle.meaning.specs.Messages.{Notification}
use Rattle.meaning.specs.Settings.{Setting}
use Rattle.meaning.specs.Books.{Book}
use Rattle.meaning.specs.Soundness.{sound}
use Rattle.meaning.specs.Notifications.{period_offends, volume_offends, notification_rules}
use Rattle.meaning.specs.Calls.{gate_rules, nullification_rules, rules_for}
use Rattle.meaning.specs.PackedMessages.{Packed, gate, message, other_kind, reading_rules, read_message}
use Rattle.meaning.specs.PackedCalls.{message_rules, apply_rules, applied, Step, stepped, Run, applied_all}
use Rattle.meaning.specs.SheetLines.{carries_place}
use Rattle.meaning.proofs.Entries.{Least, first-is-least, no-entry, past-the-50th, ten-at-most-50}
use Rattle.meaning.proofs.PackedMessageRules.{reading-answer}
use Rattle.meaning.proofs.PackedCalls.{stepped-read, stepped-unread, no_room, bytes-ended, unreadable, one_more}
use Rattle.meaning.proofs.Applied.{applied_outcome, applied-tells, apply-unsound, apply-unread, apply-read}

-- ---- what a place says, and which answers carry none

module _ {K : Sort} where
  -- of 10: the least entry whose period offends
  abbrev pub PeriodAt : Setting → Notification K → ℕ → Type 0
  PeriodAt s n k = Least n (period_offends s n) k

  -- of 11: the least whose volume does, and no period offends
  abbrev pub VolumeAt : Setting → Notification K → ℕ → Type 0
  VolumeAt s n k = Least n (volume_offends n) k × ((j : ℕ) → j < length n.entries → period_offends s n j ≡ false)

others : (a : ℕ) → a ≢ 10 → a ≢ 11 → carries_place a ≡ false
unfolding carries_place
others a p q = neither (ne_eqb a 10 p) (ne_eqb a 11 q)

-- ---- A NOTIFICATION

module _ {K : Sort} (b : Book K) (n : Notification K) where
  -- the rules are numbered 1, 2, 3 .., so the number says which one was met
  met_by : (k : ℕ) → answer (notification_rules b n) ≡ suc k → FirstMet (notification_rules b n) k
  unfolding notification_rules
  met_by k e =
      let w = answer-why (notification_rules b n) (λ z. omega (arith, sym e ∙ z)) in
      let same : w.0 ≡ k = omega (arith, sym w.2 ∙ e, counted-number (notification_rules b n) 1 w.0 refl w.1.there) in
      subst (λ (j : ℕ). FirstMet (notification_rules b n) j) same w.1

  pub ten-tells : answer (notification_rules b n) ≡ 10 → PeriodAt b.setting n (place (notification_rules b n))
  unfolding notification_rules
  ten-tells e =
      let met = met_by 9 e in
      rw (place_at_lem (notification_rules b n) 9 met) (first-is-least n (period_offends b.setting n) met.met)

  pub eleven-tells : answer (notification_rules b n) ≡ 11 → VolumeAt b.setting n (place (notification_rules b n))
  unfolding notification_rules
  eleven-tells e =
      let met = met_by 10 e in
      (rw (place_at_lem (notification_rules b n) 10 met) (first-is-least n (volume_offends n) met.met), no-entry n (period_offends b.setting n) (met.earlier 9 (omega arith)))

  pub others-tell-none : answer (notification_rules b n) ≢ 10 → answer (notification_rules b n) ≢ 11 → place (notification_rules b n) ≡ 0
  unfolding carries_place notification_rules
  others-tell-none p q = place_none carries_place (notification_rules b n) refl (others (answer (notification_rules b n)) p q)

  -- under 11 there are at most 50 entries: a 51st would offend under 10
  volume-below : (k : ℕ) → VolumeAt b.setting n k → k ≤ 50
  volume-below k at-fault =
      by-lt 50 (length n.entries)
      (λ l. absurd (true≢false (sym (past-the-50th b.setting n 50 (omega arith)) ∙ at-fault.1 50 l)))
      (λ l. omega (arith, at-fault.0.there))

  -- whatever is answered, no place is above 50
  pub at-most-50 : place (notification_rules b n) ≤ 50
  unfolding notification_rules
  at-most-50 =
      by-eq (answer (notification_rules b n)) 10
      (λ e.
      let met = met_by 9 e in
      rw (place_at_lem (notification_rules b n) 9 met) (ten-at-most-50 b.setting n met.met))
      (λ t. by-eq (answer (notification_rules b n)) 11
      (λ e. volume-below (place (notification_rules b n)) (eleven-tells e))
      (λ u. rw (others-tell-none t u) (omega arith)))

-- ---- A MESSAGE: only a notification is answered so, and the place is that of one of its entries

-- of the notification that a message is
pub record Tells (m : Packed) (says : Notification contracts → ℕ → Type 0) (k : ℕ) : Type 1 where
  pub sent : Notification contracts
  pub same : m ≡ message (Messages.notification sent)
  pub told : says sent k

module _ (b : Book contracts) where
  pub message-ten : (m : Packed) → answer (message_rules b m) ≡ 10 → Tells m (PeriodAt b.setting) (place (message_rules b m))
  unfolding message_rules rules_for gate_rules nullification_rules
  message-ten gate e = absurd (never-answers 10 (message_rules b gate) (λ z. omega (arith, z)) refl e)
  message-ten (message (Messages.notification n)) e = record { sent = n; same = refl; told = ten-tells b n e }
  message-ten (message (Messages.nullification x)) e = absurd (never-answers 10 (message_rules b (message (Messages.nullification x))) (λ z. omega (arith, z)) refl e)
  message-ten (other_kind k) e = absurd (never-answers 10 (message_rules b (other_kind k)) (λ z. omega (arith, z)) refl e)

  pub message-eleven : (m : Packed) → answer (message_rules b m) ≡ 11 → Tells m (VolumeAt b.setting) (place (message_rules b m))
  unfolding message_rules rules_for gate_rules nullification_rules
  message-eleven gate e = absurd (never-answers 11 (message_rules b gate) (λ z. omega (arith, z)) refl e)
  message-eleven (message (Messages.notification n)) e = record { sent = n; same = refl; told = eleven-tells b n e }
  message-eleven (message (Messages.nullification x)) e = absurd (never-answers 11 (message_rules b (message (Messages.nullification x))) (λ z. omega (arith, z)) refl e)
  message-eleven (other_kind k) e = absurd (never-answers 11 (message_rules b (other_kind k)) (λ z. omega (arith, z)) refl e)

  carried-message : (m : Packed) → carried_by carries_place (message_rules b m) ≡ true
  unfolding carries_place message_rules rules_for gate_rules notification_rules nullification_rules
  carried-message gate = refl
  carried-message (message (Messages.notification n)) = refl
  carried-message (message (Messages.nullification x)) = refl
  carried-message (other_kind k) = refl

  message-others : (m : Packed) → answer (message_rules b m) ≢ 10 → answer (message_rules b m) ≢ 11 → place (message_rules b m) ≡ 0
  message-others m p q = place_none carries_place (message_rules b m) (carried-message m) (others (answer (message_rules b m)) p q)

-- ---- BYTES: one packed message applied, and a step of a run

abbrev answer_of : Outcome → ℕ
answer_of o = o.answer

abbrev place_of : Outcome → ℕ
place_of o = o.place

module _ (b : Book contracts) (bytes : List ℕ) where
  abbrev read : Packed
  read = (read_message bytes).read

  without-10 : without 10 (reading_rules bytes) ≡ true
  unfolding reading_rules
  without-10 = refl

  without-11 : without 11 (reading_rules bytes) ≡ true
  unfolding reading_rules
  without-11 = refl

  module _ (n : ℕ) (more : 1 < n) (w : without n (reading_rules bytes) ≡ true) where
    unread : (read_message bytes).answer ≢ n
    unread e = never-answers n (reading_rules bytes) (λ z. omega (arith, z)) w (sym (reading-answer bytes) ∙ e)

    -- a number that neither soundness nor reading has is the message's own, and so is its place
    own-outcome : (applied b bytes).answer ≡ n → applied_outcome (applied b bytes) ≡ outcome (message_rules b read)
    own-outcome e =
        let told = applied-tells b bytes in
        let number : answer (apply_rules b bytes) ≡ n = sym (ap answer_of told) ∙ e in
        told
        ∙ on (sound b)
        (λ s. by-eq (read_message bytes).answer 0
        (λ z. apply-read b bytes s z)
        (λ u. absurd (unread (sym (ap answer_of (apply-unread b bytes s u)) ∙ number))))
        (λ u. absurd (omega (arith, more, sym (ap answer_of (apply-unsound b bytes u)) ∙ number)))

    own-step : (stepped b bytes).outcome.answer ≡ n → (stepped b bytes).outcome ≡ outcome (message_rules b read)
    own-step e =
        by-eq (read_message bytes).answer 0
        (λ z. ap (λ (s : Step). s.outcome) (stepped-read bytes b z))
        (λ u. absurd (unread (sym (ap (λ (s : Step). s.outcome.answer) (stepped-unread bytes b u)) ∙ e)))

  pub applied-ten : (applied b bytes).answer ≡ 10 → Tells read (PeriodAt b.setting) (applied b bytes).place
  applied-ten e = let own = own-outcome 10 (omega arith) without-10 e in rw (ap place_of own) (message-ten b read (sym (ap answer_of own) ∙ e))

  pub applied-eleven : (applied b bytes).answer ≡ 11 → Tells read (VolumeAt b.setting) (applied b bytes).place
  applied-eleven e = let own = own-outcome 11 (omega arith) without-11 e in rw (ap place_of own) (message-eleven b read (sym (ap answer_of own) ∙ e))

  carried-apply : carried_by carries_place (apply_rules b bytes) ≡ true
  unfolding carries_place apply_rules reading_rules
  carried-apply = carried-message b read

  pub applied-others : (applied b bytes).answer ≢ 10 → (applied b bytes).answer ≢ 11 → (applied b bytes).place ≡ 0
  applied-others p q =
      let told = applied-tells b bytes in
      ap place_of told
      ∙ place_none carries_place (apply_rules b bytes) carried-apply (others (answer (apply_rules b bytes)) (λ z. p (ap answer_of told ∙ z)) (λ z. q (ap answer_of told ∙ z)))

  step-others : (stepped b bytes).outcome.answer ≢ 10 → (stepped b bytes).outcome.answer ≢ 11 → (stepped b bytes).outcome.place ≡ 0
  step-others p q =
      by-eq (read_message bytes).answer 0
      (λ z.
      let own = ap (λ (s : Step). s.outcome) (stepped-read bytes b z) in
      ap place_of own ∙ message-others b read (λ t. p (ap answer_of own ∙ t)) (λ t. q (ap answer_of own ∙ t)))
      (λ u. ap (λ (s : Step). s.outcome.place) (stepped-unread bytes b u))

  -- what the place beside an answer says of the message at the front of the bytes
  pub record Beside (told : Outcome) : Type 1 where
    pub ten : told.answer ≡ 10 → Tells read (PeriodAt b.setting) told.place
    pub eleven : told.answer ≡ 11 → Tells read (VolumeAt b.setting) told.place
    pub any-other : told.answer ≢ 10 → told.answer ≢ 11 → told.place ≡ 0

  pub step-beside : Beside (stepped b bytes).outcome
  step-beside =
      record {
        ten = λ e. let own = own-step 10 (omega arith) without-10 e in rw (ap place_of own) (message-ten b read (sym (ap answer_of own) ∙ e));
        eleven = λ e. let own = own-step 11 (omega arith) without-11 e in rw (ap place_of own) (message-eleven b read (sym (ap answer_of own) ∙ e));
        any-other = step-others;
      }

-- ---- A RUN: its k-th outcome is that of the step after k messages, on the book and the bytes that these leave

-- the outcome told at a place, and that of the step there
abbrev AtOf : ℕ → ℕ → Book contracts → List ℕ → Type 0
AtOf room k b bytes =
    k < length (applied_all room b bytes).outcomes
    → get_or (applied_all room b bytes).outcomes k (placeless 0) ≡ (stepped (applied_all k b bytes).book (drop (applied_all k b bytes).used bytes)).outcome

module _ (room : ℕ) (b : Book contracts) (bytes : List ℕ) (some : length bytes ≢ 0) where
  at_once : (stepped b bytes).outcome ≡ (stepped (applied_all 0 b bytes).book (drop (applied_all 0 b bytes).used bytes)).outcome
  at_once = rw (no_room b bytes 0 refl) refl

  unread-at : (k : ℕ) → (stepped b bytes).length ≡ 0 → AtOf (suc room) k b bytes
  unread-at zero e h = rw (unreadable b bytes room some e) at_once
  unread-at (suc k) e h = absurd (omega (arith, h, ap (λ (r : Run). length r.outcomes) (unreadable b bytes room some e)))

  read_at : (k : ℕ) → (stepped b bytes).length ≢ 0
      → ((j : ℕ) → AtOf room j (stepped b bytes).book (drop (stepped b bytes).length bytes)) → AtOf (suc room) k b bytes
  read_at zero m rest h = rw (one_more b bytes room some m) at_once
  read_at (suc k) m rest h =
      let first = stepped b bytes in
      let later = drop first.length bytes in
      let behind = rest k (omega (arith, h, ap (λ (r : Run). length r.outcomes) (one_more b bytes room some m))) in
      rw (one_more b bytes room some m, one_more b bytes k some m, ← drop-drop (applied_all k first.book later).used first.length bytes) behind

pub run_at : (room k : ℕ) (b : Book contracts) (bytes : List ℕ) → AtOf room k b bytes
run_at zero k b bytes h = absurd (omega (arith, h, ap (λ (r : Run). length r.outcomes) (no_room b bytes 0 refl)))
run_at (suc room) k b bytes h =
    by-eq (length bytes) 0
    (λ e. absurd (omega (arith, h, ap (λ (r : Run). length r.outcomes) (bytes-ended b bytes (suc room) e))))
    (λ n. by-eq (stepped b bytes).length 0
    (λ e. unread-at room b bytes n k e h)
    (λ m. read_at room b bytes n k m (λ j. run_at room j (stepped b bytes).book (drop (stepped b bytes).length bytes)) h))

-- so beside each answer of a run stands what its own message is told
pub run-beside : (room k : ℕ) (b : Book contracts) (bytes : List ℕ) → k < length (applied_all room b bytes).outcomes
    → Beside (applied_all k b bytes).book (drop (applied_all k b bytes).used bytes) (get_or (applied_all room b bytes).outcomes k (placeless 0))
run-beside room k b bytes h = rw (run_at room k b bytes h) (step-beside (applied_all k b bytes).book (drop (applied_all k b bytes).used bytes))
