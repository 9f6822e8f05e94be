-- The slots follow from the history alone: from the first on they hold the different identifiers that were accepted, in the order of their first
-- acceptance, and the others are unheld.
use mathlib.Core.Bool.{Bool, true, false, cond, ◌||◌}
use mathlib.Core.List.{List, [], ◌∷◌, ◌++◌, append-nil, append_assoc}
use mathlib.Core.Path.{◌≡◌, refl, sym, ap, ◌∙◌}
use Prim.Native.Nat.{ℕ, suc, ◌*◌, ◌≤◌, ◌<◌}
use native.Mathlib.Omega.{arith}
use lib.Dec.{eqb}
use lib.IntN.{pos}
use lib.ListN.{length, get_or, length-set, length-replicate}
use borrow.Author.Tests.{ltb-true}
use Rattle.words.specs.Below.{sum_belowℤ}
use Rattle.words.specs.Lists.{any, different, once}
use Rattle.words.specs.Rules.{answer}
use Rattle.words.specs.Runs.{run, trace}
use Rattle.laws.proofs.Lists.{get_or-replicate-same}
use Rattle.laws.proofs.Once.{once-any, once-different, count-among}
use Rattle.laws.proofs.Runs.{run-keeps, run-tracks}
use Rattle.laws.proofs.Sums.{sum-ext}
use Rattle.meaning.specs.Ledgers.{Sort, originator_of, is_held, empty_ledger}
use Rattle.meaning.specs.Messages.{notification, nullification, held_after, written}
use Rattle.meaning.specs.Books.{Setup, opening_rules, Book, opened_book}
use Rattle.meaning.specs.Calls.{Call, gate, message, accepted, act}
use Rattle.meaning.specs.History.{Event, event, after, events_of}
use Rattle.meaning.specs.FromHistory.{notifies, was_accepted, identifier_in, identifiers_in, accepted_identifiers}
use Rattle.meaning.proofs.Sound.{Lawful}
use Rattle.meaning.proofs.Accepted.{call_passes}
use Rattle.meaning.proofs.History.{after-Sound}
use Rattle.meaning.proofs.Corollaries.{held-when-accepted}
use Rattle.meaning.proofs.Filled.{Filled, filled_more}

-- ---- what the events notify

module _ {K : Sort} where
  identifiers-snoc : (es : List (Event K)) (e : Event K) → identifiers_in (es ++ (e ∷ [])) ≡ identifiers_in es ++ identifier_in e.call
  unfolding identifiers_in
  identifiers-snoc [] e = append-nil (identifier_in e.call)
  identifiers-snoc (x ∷ xs) e =
      ap (λ (l : List ℕ). identifier_in x.call ++ l) (identifiers-snoc xs e)
      ∙ sym (append_assoc (identifier_in x.call) (identifiers_in xs) (identifier_in e.call))

  first-notifies : (i : ℕ) (c : Call K) (rest : List ℕ) → any (eqb i) (identifier_in c ++ rest) ≡ notifies i c || any (eqb i) rest
  unfolding any
  first-notifies i gate rest = refl
  first-notifies i (message (notification n)) rest = refl
  first-notifies i (message (nullification x)) rest = refl

  some-notifies : (i : ℕ) (es : List (Event K)) → any (eqb i) (identifiers_in es) ≡ was_accepted es i
  unfolding identifiers_in any
  some-notifies i [] = refl
  some-notifies i (e ∷ es) = first-notifies i e.call (identifiers_in es) ∙ ap (λ (t : Bool). notifies i e.call || t) (some-notifies i es)

  -- the list says what it should: an identifier stands in it exactly when a notification of it was accepted, and none stands twice
  pub listed-exactly : (i : ℕ) (es : List (Event K)) → any (eqb i) (accepted_identifiers es) ≡ was_accepted es i
  unfolding accepted_identifiers
  listed-exactly i es = once-any i (identifiers_in es) ∙ some-notifies i es

  pub listed-once : (es : List (Event K)) → different (accepted_identifiers es) ≡ true
  unfolding accepted_identifiers
  listed-once es = once-different (identifiers_in es)

  -- ---- a call, and a run

  act-filled : (b : Book K) (c : Call K) (identifiers : List ℕ) → accepted b c ≡ true → Filled b.ledger.held identifiers
      → Filled (act b c).ledger.held (identifiers ++ identifier_in c)
  unfolding act written held_after
  act-filled b gate identifiers a f = rw append-nil f
  act-filled b (message (notification n)) identifiers a f =
      filled_more b.ledger.held identifiers n.identifier (call_passes b (message (notification n)) a).room f
  act-filled b (message (nullification x)) identifiers a f = rw append-nil f

  act-slots : (b : Book K) (c : Call K) (slots : ℕ) → length b.ledger.held ≡ slots → length (act b c).ledger.held ≡ slots
  unfolding act written held_after
  act-slots b gate slots e = e
  act-slots b (message (notification n)) slots e = length-set b.ledger.held _ _ ∙ e
  act-slots b (message (nullification x)) slots e = e

module _ {K : Sort} (setup : Setup) (slots : ℕ) (calls : List (Call K)) where
  abbrev opened : Book K
  opened = opened_book K setup slots

  opened-slots : length opened.ledger.held ≡ slots
  unfolding opened_book empty_ledger
  opened-slots = length-replicate {A = ℕ} slots 0

  -- no call changes the number of slots
  pub after-slots : length (after opened calls).ledger.held ≡ slots
  unfolding after
  after-slots =
      run-keeps accepted act event (λ (b : Book K). length b.ledger.held ≡ slots) (λ b c a e. act-slots b c slots e) calls opened opened-slots

  opened-unheld : (i : ℕ) → is_held opened.ledger.held i ≡ false
  unfolding after events_of run trace any
  opened-unheld i = held-when-accepted setup slots [] i

  opened-filled : Filled opened.ledger.held []
  unfolding opened_book empty_ledger once any
  opened-filled =
      record {
        fits = omega arith;
        entry = λ k l. absurd (omega arith);
        free = λ k l. get_or-replicate-same slots k 0;
        seen = λ i. opened-unheld i;
      }

  pub after_filled : Filled (after opened calls).ledger.held (identifiers_in (events_of opened calls))
  unfolding after events_of identifiers_in
  after_filled =
      run-tracks accepted act event (λ (b : Book K) (es : List (Event K)). Filled b.ledger.held (identifiers_in es))
      (λ b c es a f. rw (identifiers-snoc es (event b c)) (act-filled b c (identifiers_in es) a f))
      calls opened opened-filled

  -- the first slots hold the accepted identifiers, one after the other, and the others are unheld
  pub slot-holds-next : (k : ℕ) → k < length (accepted_identifiers (events_of opened calls))
      → get_or (after opened calls).ledger.held k 0 ≡ suc (get_or (accepted_identifiers (events_of opened calls)) k 0)
  unfolding accepted_identifiers
  slot-holds-next k l = after_filled.entry k l

  pub slot-unheld : (k : ℕ) → length (accepted_identifiers (events_of opened calls)) ≤ k → get_or (after opened calls).ledger.held k 0 ≡ 0
  unfolding accepted_identifiers
  slot-unheld k l = after_filled.free k l

  -- there are never more of them than slots
  pub accepted-fit : length (accepted_identifiers (events_of opened calls)) ≤ slots
  unfolding accepted_identifiers
  accepted-fit = omega (arith, after_filled.fits, after-slots)

-- ---- each of them is an identifier that the setup's authorisations can originate

-- one whose originator is one of n is below n * 65,536
below_all : (i n : ℕ) → originator_of i < n → i < n * 65536
unfolding originator_of
below_all i n h = omega arith

module _ {K : Sort} (lawful : Lawful K) (setup : Setup) (slots lent1 lent2 : ℕ) (opening : answer (opening_rules setup slots lent1 lent2) ≡ 0)
    (calls : List (Call K)) where
  abbrev book : Book K
  book = after (opened_book K setup slots) calls

  abbrev events : List (Event K)
  events = events_of (opened_book K setup slots) calls

  pub accepted-below : (k : ℕ) → k < length (accepted_identifiers events) → get_or (accepted_identifiers events) k 0 < length book.setting.rows * 65536
  accepted-below k l =
      let i = get_or (accepted_identifiers events) k 0 in
      let inside : k < length book.ledger.held = omega (arith, accepted-fit {K = K} setup slots calls, after-slots {K = K} setup slots calls) in
      let known = ((after-Sound lawful setup slots lent1 lent2 opening calls).slots k i inside (slot-holds-next setup slots calls k l)).originator in
      below_all i (length book.setting.rows) (ltb-true (originator_of i) (length book.setting.rows) known)

  -- how many they are, counted over every identifier that can be
  pub accepted-counted : sum_belowℤ (length book.setting.rows * 65536) (λ (i : ℕ). cond (was_accepted events i) (pos 1) (pos 0)) ≡ pos (length (accepted_identifiers events))
  accepted-counted =
      let ids = accepted_identifiers events in
      sum-ext (length book.setting.rows * 65536) (λ (i : ℕ). cond (was_accepted events i) (pos 1) (pos 0)) (λ (i : ℕ). cond (any (eqb i) ids) (pos 1) (pos 0))
      (λ i l. rw (listed-exactly i events))
      ∙ count-among (length book.setting.rows * 65536) ids (listed-once events) accepted-below
