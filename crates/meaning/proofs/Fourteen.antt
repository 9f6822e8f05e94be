-- "No slot is freed within a book, so 14 comes exactly when that many different identifiers have been accepted": after any calls on an opened book,
-- of a notification that none of 1 to 13 refuses and whose identifier was not accepted before.
use mathlib.Core.Bool.{Bool, true, false, not, ◌&&◌}
use mathlib.Core.List.{List}
use mathlib.Core.Logic.{◌↔◌}
use mathlib.Core.Path.{◌≡◌, refl, sym, ap, ◌∙◌}
use Prim.Native.Nat.{ℕ, ◌<◌}
use native.Mathlib.Omega.{arith}
use lib.ListN.{length, get_or-eq_default}
use borrow.Author.Tests.{leb-true, le-leb, not-true}
use Rattle.words.specs.Lists.{find}
use Rattle.words.specs.Rules.{Rule, answer}
use Rattle.laws.proofs.Cases.{on, by-lt, by-eq, and_left, and_right, both}
use Rattle.laws.proofs.Rules.{passed, met_at, answer_at, answer-zero, answer-why, counted-number}
use Rattle.meaning.specs.Ledgers.{Sort, is_held, every_slot_held}
use Rattle.meaning.specs.Messages.{Notification}
use Rattle.meaning.specs.Books.{Setup, Book, opened_book}
use Rattle.meaning.specs.Notifications.{notification_rules}
use Rattle.meaning.specs.Calls.{Call}
use Rattle.meaning.specs.History.{Event, after, events_of}
use Rattle.meaning.specs.FromHistory.{was_accepted, identifiers_in, accepted_identifiers}
use Rattle.meaning.proofs.Corollaries.{held-when-accepted}
use Rattle.meaning.proofs.Filled.{lowest-free}
use Rattle.meaning.proofs.HeldFromHistory.{after-slots, after_filled}

module _ {K : Sort} (b : Book K) (n : Notification K) where
  -- none of the refusals 1 to 13 comes
  abbrev pub PassesThirteen : Type 0
  PassesThirteen = (k : ℕ) → k < 13 → met_at (notification_rules b n) k ≡ false

  abbrev no_room : Bool
  no_room = not (is_held b.ledger.held n.identifier) && every_slot_held b.ledger.held

  answer-fourteen : PassesThirteen → no_room ≡ true → answer (notification_rules b n) ≡ 14
  unfolding notification_rules
  answer-fourteen h e = answer_at (notification_rules b n) 13 (record { there = omega arith; met = e; earlier = h })

  answer-done : PassesThirteen → no_room ≡ false → answer (notification_rules b n) ≡ 0
  unfolding notification_rules
  answer-done h e =
      answer-zero (notification_rules b n) (λ k.
      by-lt k 13
      (λ l. h k l)
      (λ l. by-eq k 13
      (λ q. rw q e)
      (λ q. ap (λ (r : Rule). r.met) (get_or-eq_default (notification_rules b n) passed {n = k} (omega arith)))))

  -- the rules are numbered 1, 2, 3 .., so 14 says which one was met
  fourteen-passes : answer (notification_rules b n) ≡ 14 → PassesThirteen
  unfolding notification_rules
  fourteen-passes e k l =
      let w = answer-why (notification_rules b n) (λ z. omega (arith, sym e ∙ z)) in
      w.1.earlier k (omega (arith, sym w.2 ∙ e, counted-number (notification_rules b n) 1 w.0 refl w.1.there))

module _ {K : Sort} (setup : Setup) (slots : ℕ) (calls : List (Call K)) where
  abbrev book : Book K
  book = after (opened_book K setup slots) calls

  abbrev events : List (Event K)
  events = events_of (opened_book K setup slots) calls

  full-when : length (accepted_identifiers events) ≡ slots → every_slot_held book.ledger.held ≡ true
  unfolding accepted_identifiers
  full-when e =
      le-leb (length book.ledger.held) (find 0 book.ledger.held)
      (omega (arith, e, after-slots {K = K} setup slots calls, lowest-free book.ledger.held (identifiers_in events) (after_filled setup slots calls)))

  when-full : every_slot_held book.ledger.held ≡ true → length (accepted_identifiers events) ≡ slots
  unfolding accepted_identifiers
  when-full e =
      let f = after_filled setup slots calls in
      omega (arith, leb-true (length book.ledger.held) (find 0 book.ledger.held) e, f.fits, after-slots {K = K} setup slots calls, lowest-free book.ledger.held (identifiers_in events) f)

  -- every slot is held exactly when as many different identifiers have been accepted as there are slots
  pub full-exactly : (every_slot_held book.ledger.held ≡ true) ↔ (length (accepted_identifiers events) ≡ slots)
  full-exactly = (when-full, full-when)

  module _ (n : Notification K) where
    -- the identifier is new, and that many have been accepted
    abbrev pub NewAndFull : Type 0
    NewAndFull = (was_accepted events n.identifier ≡ false) × (length (accepted_identifiers events) ≡ slots)

    -- of a notification that none of 1 to 13 refuses
    pub fourteen-exactly : PassesThirteen book n → (answer (notification_rules book n) ≡ 14) ↔ NewAndFull
    fourteen-exactly h =
        let held = is_held book.ledger.held n.identifier in
        let full = every_slot_held book.ledger.held in
        let known = held-when-accepted setup slots calls n.identifier in (
          λ e.
              on (no_room book n)
              (λ q. (sym known ∙ not-true held (and_left (not held) full q), when-full (and_right (not held) full q)))
              (λ q. absurd (omega (arith, sym e ∙ answer-done book n h q))),
          λ w. answer-fourteen book n h (both (ap not (known ∙ w.0)) (full-when w.1)),
        )

    -- and of any notification
    pub fourteen-always : (answer (notification_rules book n) ≡ 14) ↔ (PassesThirteen book n × NewAndFull)
    fourteen-always = (
      λ e. let h = fourteen-passes book n e in (h, (fourteen-exactly h).0 e),
      λ w. (fourteen-exactly w.0).1 w.1,
    )
