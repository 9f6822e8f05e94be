-- One packed message done to a book: which rule answers, what is given then, and that it is the step of a run on a sound book.
use mathlib.Core.Bool.{true, false}
use mathlib.Core.List.{List, [], ◌∷◌, ◌++◌}
use mathlib.Core.Logic.{◌≢◌}
use mathlib.Core.Path.{◌≡◌, refl, sym, ap, ◌∙◌}
use Prim.Native.Nat.{ℕ}
use native.Mathlib.Omega.{arith}
use borrow.Author.Tests.{ne_eqb}
use Rattle.words.specs.Rules.{answer, place, Outcome, outcome, placeless}
use Rattle.words.specs.Runs.{run}
use Rattle.laws.proofs.Cases.{on, by-eq}
use Rattle.laws.proofs.Rules.{numbered, earlier-answers, later-answers, place_none, place-done, earlier-places, later-places}
use Rattle.laws.proofs.RuleByRule.{same_outcome}
use Rattle.meaning.specs.Ledgers.{contracts}
use Rattle.meaning.specs.Messages as Messages
use Rattle.meaning.specs.Books.{Book}
use Rattle.meaning.specs.Soundness.{sound}
use Rattle.meaning.specs.Notifications.{notification_rules}
use Rattle.meaning.specs.Calls as Calls
use Rattle.meaning.specs.Calls.{Call, gate_rules, nullification_rules, rules_for, refusal, accepted}
use Rattle.meaning.specs.History.{after}
use Rattle.meaning.specs.PackedMessages.{Packed, gate, message, other_kind, reading_rules, read_message}
use Rattle.meaning.specs.PackedCalls.{calls_of, message_rules, kind_given, slot_given, apply_rules, Applied, not_applied, applied, stepped, calls_in}
use Rattle.meaning.proofs.PackedMessageRules.{reading-answer}
use Rattle.meaning.proofs.PackedCalls.{stepped-read, stepped-unread, calls-unread, calls-one, after_none}

-- ---- tables that are no sound book refuse every call by 1, and stay

module _ (b : Book contracts) (unsound : sound b ≡ false) where
  pub unsound-refused : (c : Call contracts) → refusal b c ≡ 1
  unfolding answer rules_for gate_rules notification_rules nullification_rules
  unsound-refused Calls.gate = rw unsound
  unsound-refused (Calls.message (Messages.notification n)) = rw unsound
  unsound-refused (Calls.message (Messages.nullification x)) = rw unsound

  pub unsound-after : (calls : List (Call contracts)) → after b calls ≡ b
  unfolding after run accepted
  unsound-after [] = refl
  unsound-after (c ∷ calls) = rw (unsound-refused c) (unsound-after calls)

-- ---- a message, by the rules that the book has for it

module _ (b : Book contracts) where
  pub numbered-message : (m : Packed) → numbered (message_rules b m) ≡ true
  unfolding message_rules rules_for gate_rules notification_rules nullification_rules
  numbered-message gate = refl
  numbered-message (message (Messages.notification n)) = refl
  numbered-message (message (Messages.nullification x)) = refl
  numbered-message (other_kind k) = refl

  -- one that is refused leaves the book
  pub message-refused : (m : Packed) → answer (message_rules b m) ≢ 0 → after b (calls_of m) ≡ b
  unfolding message_rules calls_of after run accepted
  message-refused gate n = rw (ne_eqb (refusal b Calls.gate) 0 n)
  message-refused (message m) n = rw (ne_eqb (refusal b (Calls.message m)) 0 n)
  message-refused (other_kind k) n = refl

-- ---- which rule answers

numbered-reading : (bytes : List ℕ) → numbered (reading_rules bytes) ≡ true
unfolding reading_rules
numbered-reading bytes = refl

reading-placeless : (bytes : List ℕ) → place (reading_rules bytes) ≡ 0
unfolding reading_rules
reading-placeless bytes = place_none (λ (n : ℕ). false) (reading_rules bytes) refl refl

-- the answer that is given, with its place
abbrev pub applied_outcome : Applied → Outcome
applied_outcome a = record { answer = a.answer; place = a.place }

module _ (b : Book contracts) (bytes : List ℕ) where
  abbrev read : Packed
  read = (read_message bytes).read

  numbered-apply : numbered (apply_rules b bytes) ≡ true
  unfolding apply_rules reading_rules
  numbered-apply = numbered-message b read

  pub apply-unsound : sound b ≡ false → outcome (apply_rules b bytes) ≡ placeless 1
  unfolding answer place apply_rules
  apply-unsound e = rw e

  apply-sound : sound b ≡ true → outcome (apply_rules b bytes) ≡ outcome (reading_rules bytes ++ message_rules b read)
  unfolding answer place apply_rules
  apply-sound e = rw e

  pub apply-unread : sound b ≡ true → (read_message bytes).answer ≢ 0 → outcome (apply_rules b bytes) ≡ placeless (read_message bytes).answer
  apply-unread s n =
      let refused : answer (reading_rules bytes) ≢ 0 = λ z. n (reading-answer bytes ∙ z) in
      apply-sound s
      ∙ same_outcome
      (earlier-answers (reading_rules bytes) (message_rules b read) refused ∙ sym (reading-answer bytes))
      (earlier-places (reading_rules bytes) (message_rules b read) refused ∙ reading-placeless bytes)

  pub apply-read : sound b ≡ true → (read_message bytes).answer ≡ 0 → outcome (apply_rules b bytes) ≡ outcome (message_rules b read)
  apply-read s e =
      let passed : answer (reading_rules bytes) ≡ 0 = sym (reading-answer bytes) ∙ e in
      apply-sound s
      ∙ same_outcome
      (later-answers (reading_rules bytes) (message_rules b read) (numbered-reading bytes) passed)
      (later-places (reading_rules bytes) (message_rules b read) (numbered-reading bytes) passed)

  -- ---- what is given then

  refused-by : (told : Outcome) → outcome (apply_rules b bytes) ≡ told → told.answer ≢ 0 → applied b bytes ≡ not_applied b told
  unfolding applied
  refused-by told e n =
      rw (ne_eqb (answer (apply_rules b bytes)) 0 (λ z. n (sym (ap (λ (o : Outcome). o.answer) e) ∙ z))) (ap (not_applied b) e)

  done-by : answer (apply_rules b bytes) ≡ 0
      → applied b bytes ≡ record { answer = 0; place = 0; kind = kind_given b read; slot = slot_given b read; length = (read_message bytes).length; book = after b (calls_of read) }
  unfolding applied
  done-by e = rw e

  pub applied-unsound : sound b ≡ false → applied b bytes ≡ not_applied b (placeless 1)
  applied-unsound e = refused-by (placeless 1) (apply-unsound e) (λ z. omega (arith, z))

  pub applied-unread : sound b ≡ true → (read_message bytes).answer ≢ 0 → applied b bytes ≡ not_applied b (placeless (read_message bytes).answer)
  applied-unread s n = refused-by (placeless (read_message bytes).answer) (apply-unread s n) n

  module _ (s : sound b ≡ true) (e : (read_message bytes).answer ≡ 0) where
    pub applied-refused : answer (message_rules b read) ≢ 0 → applied b bytes ≡ not_applied b (outcome (message_rules b read))
    applied-refused n = refused-by (outcome (message_rules b read)) (apply-read s e) n

    pub applied-done : answer (message_rules b read) ≡ 0
        → applied b bytes ≡ record { answer = 0; place = 0; kind = kind_given b read; slot = slot_given b read; length = (read_message bytes).length; book = after b (calls_of read) }
    applied-done z = done-by (ap (λ (o : Outcome). o.answer) (apply-read s e) ∙ z)

    -- either way the outcome and the book are those of the message
    applied-outcome : applied_outcome (applied b bytes) ≡ outcome (message_rules b read)
    applied-outcome =
        by-eq (answer (message_rules b read)) 0
        (λ z. ap applied_outcome (applied-done z) ∙ same_outcome (sym z) (sym (place-done (message_rules b read) (numbered-message b read) z)))
        (λ n. ap applied_outcome (applied-refused n))

    applied-book : (applied b bytes).book ≡ after b (calls_of read)
    applied-book =
        by-eq (answer (message_rules b read)) 0
        (λ z. ap (λ (x : Applied). x.book) (applied-done z))
        (λ n. ap (λ (x : Applied). x.book) (applied-refused n) ∙ sym (message-refused b read n))

  -- whatever refuses it, and where nothing does
  pub applied-tells : applied_outcome (applied b bytes) ≡ outcome (apply_rules b bytes)
  applied-tells =
      by-eq (answer (apply_rules b bytes)) 0
      (λ z. ap applied_outcome (done-by z) ∙ same_outcome (sym z) (sym (place-done (apply_rules b bytes) numbered-apply z)))
      (λ n. ap applied_outcome (refused-by (outcome (apply_rules b bytes)) refl n))

  -- ONE PACKED MESSAGE IS ITS CALL: the book after it is the book after the call that the bytes hold
  pub applied-is-calls : (applied b bytes).book ≡ after b (calls_in 1 bytes)
  applied-is-calls =
      on (sound b)
      (λ s. by-eq (read_message bytes).answer 0
      (λ e. applied-book s e ∙ ap (after b) (sym (calls-one bytes e)))
      (λ n. ap (λ (x : Applied). x.book) (applied-unread s n) ∙ sym (ap (after b) (calls-unread bytes 0 n) ∙ after_none b)))
      (λ u. ap (λ (x : Applied). x.book) (applied-unsound u) ∙ sym (unsound-after b u (calls_in 1 bytes)))

  no_length : (read_message bytes).answer ≢ 0 → (read_message bytes).length ≡ 0
  unfolding read_message
  no_length n = by-eq (answer (reading_rules bytes)) 0 (λ e. absurd (n (reading-answer bytes ∙ e))) (λ m. rw (ne_eqb (answer (reading_rules bytes)) 0 m))

  -- A caller who goes on after every message by its length makes the run: on a sound book each step is what is applied, and takes that many bytes.
  pub step-is-applied : sound b ≡ true
      → stepped b bytes ≡ record { outcome = applied_outcome (applied b bytes); length = (read_message bytes).length; book = (applied b bytes).book }
  step-is-applied s =
      by-eq (read_message bytes).answer 0
      (λ e. stepped-read bytes b e ∙ rw (applied-outcome s e, applied-book s e) refl)
      (λ n. stepped-unread bytes b n ∙ rw (applied-unread s n, no_length n) refl)
