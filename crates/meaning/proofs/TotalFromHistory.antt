-- THE TOTAL FROM THE HISTORY: after any calls on an opened book an account's total is the sum, over the identifiers, of what the history gives on
-- both sides where both stand and are equal, plus for account 1 of the originating authorisation, minus for account 2.
use mathlib.Core.Bool.{true, false, cond}
use mathlib.Core.List.{List}
use mathlib.Core.Path.{◌≡◌, sym, ap, ◌∙◌}
use Prim.Native.Nat.{ℕ, suc, ◌*◌, ◌≤◌, ◌<◌}
use native.Mathlib.Omega.{arith}
use lib.Dec.{eqb}
use lib.IntN.{ℤ, pos}
use lib.ListN.{length, get_or}
use Rattle.words.specs.Lists.{any, find, sum_over}
use Rattle.words.specs.Rules.{answer}
use Rattle.laws.proofs.Cases.{on}
use Rattle.laws.proofs.Sums.{sum-ext, sum-cut, sum_over_lem}
use Rattle.laws.proofs.Once.{sum-among}
use Rattle.meaning.specs.Time.{day_of, is_period, periods_on}
use Rattle.meaning.specs.Authorisations.{Authorisation, row_at}
use Rattle.meaning.specs.Settings.{has_account}
use Rattle.meaning.specs.Ledgers.{contracts, originator_of, origin_in, one, two}
use Rattle.meaning.specs.Books.{Setup, opening_rules, Book, opened_book}
use Rattle.meaning.specs.Calls.{Call}
use Rattle.meaning.specs.History.{Event, decides, after, events_of}
use Rattle.meaning.specs.Totals.{matches, seen_by, counted, sum_of, total_rules, total}
use Rattle.meaning.specs.FromHistory.{was_accepted, accepted_identifiers, counted_from_history, total_from_history}
use Rattle.meaning.proofs.Contracts.{contracts-lawful}
use Rattle.meaning.proofs.Held.{is-unheld}
use Rattle.meaning.proofs.Moves.{stands-unheld}
use Rattle.meaning.proofs.History.{after-sound, history}
use Rattle.meaning.proofs.Corollaries.{stored-held, stored-unheld, held-when-accepted}
use Rattle.meaning.proofs.Counted.{volume1, volume2, counted-unmatched}
use Rattle.meaning.proofs.Totals.{total-answer, total-is-sum}
use Rattle.meaning.proofs.HeldFromHistory.{listed-exactly, listed-once, accepted-fit, slot-holds-next, slot-unheld, after-slots, accepted-below}

-- where nothing stands nothing matches
nothing-matches : (v w : ℤ) → v ≡ contracts.nothing → matches v w ≡ false
unfolding matches
nothing-matches v w e = rw e

-- a choice by its parts
same_count : (v v' w w' : ℤ) (a a' : Authorisation) (account : ℕ) → v ≡ v' → w ≡ w' → a ≡ a'
    → cond {A = ℤ} (matches v w) (seen_by a account v) (pos 0) ≡ cond (matches v' w') (seen_by a' account v') (pos 0)
same_count v v' w w' a a' account p q r = rw (p, q, r)

module _ (setup : Setup) (slots lent1 lent2 : ℕ) (opening : answer (opening_rules setup slots lent1 lent2) ≡ 0) (calls : List (Call contracts))
    (account D period : ℕ) (p : is_period (after (opened_book contracts setup slots) calls).setting.time D period ≡ true) where
  abbrev book : Book contracts
  book = after (opened_book contracts setup slots) calls

  abbrev events : List (Event contracts)
  events = events_of (opened_book contracts setup slots) calls

  abbrev d : ℕ
  d = day_of book.setting.time D

  abbrev periods : ℕ
  periods = periods_on book.setting.time D

  abbrev counts : ℕ → ℤ
  counts = counted_from_history book.setting events account D period

  -- ---- what a slot counts

  unheld-counts : (k : ℕ) → k < length book.ledger.held → get_or book.ledger.held k 0 ≡ 0 → counted book account d period k ≡ pos 0
  unheld-counts k l e =
      counted-unmatched book d period k
      (nothing-matches (volume1 book d period k) (volume2 book d period k) (stored-unheld contracts-lawful setup slots lent1 lent2 opening calls k one D period l p e))
      account

  held-counts : (k i : ℕ) → k < length book.ledger.held → get_or book.ledger.held k 0 ≡ suc i → counted book account d period k ≡ counts i
  unfolding counted counted_from_history
  held-counts k i l e =
      same_count (volume1 book d period k) (decides events i one D periods period) (volume2 book d period k) (decides events i two D periods period)
      (origin_in book.setting.rows (get_or book.ledger.held k 0)) (row_at book.setting.rows (originator_of i)) account
      (stored-held contracts-lawful setup slots lent1 lent2 opening calls k one D period l p i e)
      (stored-held contracts-lawful setup slots lent1 lent2 opening calls k two D period l p i e)
      (ap (origin_in book.setting.rows) e)

  -- so the slots together count what the accepted identifiers do
  sum-over-accepted : sum_of book account d period ≡ sum_over (accepted_identifiers events) counts
  unfolding sum_of
  sum-over-accepted =
      let ids = accepted_identifiers events in
      let fit : length ids ≤ length book.ledger.held = omega (arith, accepted-fit {K = contracts} setup slots calls, after-slots {K = contracts} setup slots calls) in
      sum-cut (length book.ledger.held) (length ids) (counted book account d period) fit (λ k l m. unheld-counts k l (slot-unheld setup slots calls k m))
      ∙ sum-ext (length ids) (counted book account d period) (λ (k : ℕ). counts (get_or ids k 0))
      (λ k l. held-counts k (get_or ids k 0) (omega (arith, fit)) (slot-holds-next setup slots calls k l))
      ∙ sym (sum_over_lem ids counts)

  -- ---- over every identifier

  -- one that was never accepted counts nothing
  never-accepted-counts : (i : ℕ) → was_accepted events i ≡ false → counts i ≡ pos 0
  unfolding counted_from_history
  never-accepted-counts i e =
      let away : length book.ledger.held ≤ find (suc i) book.ledger.held = is-unheld book.ledger.held i (held-when-accepted setup slots calls i ∙ e) in
      let none : decides events i one D periods period ≡ contracts.nothing =
      sym (history contracts-lawful setup slots lent1 lent2 opening calls i one D period p) ∙ stands-unheld book i one D period away in
      rw (nothing-matches (decides events i one D periods period) (decides events i two D periods period) none)

  -- it is enough to add up those that were accepted
  pub accepted-are-enough : total_from_history book.setting events account D period ≡ sum_over (accepted_identifiers events) counts
  unfolding total_from_history
  accepted-are-enough =
      let ids = accepted_identifiers events in
      sum-ext (length book.setting.rows * 65536) counts (λ (i : ℕ). cond (any (eqb i) ids) (counts i) (pos 0))
      (λ i l. on (any (eqb i) ids) (λ e. rw e) (λ e. rw e (never-accepted-counts i (sym (listed-exactly i events) ∙ e))))
      ∙ sum-among (length book.setting.rows * 65536) counts ids (listed-once events)
      (accepted-below contracts-lawful setup slots lent1 lent2 opening calls)

  -- ---- the account's total

  module _ (inBook : has_account book.setting account ≡ true) where
    -- the question is answered
    pub total-answered : answer (total_rules book account D period) ≡ 0
    total-answered = total-answer book account D period ∙ rw (after-sound contracts-lawful setup slots lent1 lent2 opening calls, inBook, p)

    pub total-from-history : total book account D period ≡ total_from_history book.setting events account D period
    total-from-history = total-is-sum book account D period total-answered ∙ sum-over-accepted ∙ sym accepted-are-enough
