-- The bars follow from the history alone, and an account's total is what they show: the sum, over the identifiers, of what the history shows as
-- Agreed.
use mathlib.Core.Bool.{true}
use mathlib.Core.List.{List}
use mathlib.Core.Path.{◌≡◌, refl, sym, ap, ◌∙◌}
use Prim.Native.Nat.{ℕ, ◌*◌}
use lib.IntN.{ℤ}
use lib.ListN.{length}
use borrow.Author.Tests.{not-false}
use Rattle.words.specs.Below.{sum_belowℤ}
use Rattle.words.specs.Rules.{answer}
use Rattle.laws.proofs.Cases.{on}
use Rattle.laws.proofs.Rules.{answer-none}
use Rattle.laws.proofs.Sums.{sum-ext}
use Rattle.meaning.specs.Time.{day_of, is_period, periods_on}
use Rattle.meaning.specs.Authorisations.{Authorisation, row_at}
use Rattle.meaning.specs.Settings.{Setting}
use Rattle.meaning.specs.Ledgers.{contracts, originator_of, is_held, slot_of, one, two}
use Rattle.meaning.specs.Books.{Setup, opening_rules, Book, opened_book}
use Rattle.meaning.specs.Calls.{Call}
use Rattle.meaning.specs.History.{Event, decides, standing, after, events_of}
use Rattle.meaning.specs.Totals.{matches, seen_by}
use Rattle.meaning.specs.Bars.{Bar, map_bar, bar_of, mark_rules, seen_bar}
use Rattle.meaning.specs.FromHistory.{counted_from_history, total_from_history, bar_from_history}
use Rattle.meaning.proofs.Contracts.{contracts-lawful}
use Rattle.meaning.proofs.History.{history}
use Rattle.meaning.proofs.Counted.{volume1, volume2}
use Rattle.meaning.proofs.Bars.{matched-agreed, seen-answered}
use Rattle.meaning.proofs.Shown.{agreed_part, unmatched-part}

-- ---- what counts is what is shown as Agreed

module _ (s : Setting) (events : List (Event contracts)) (account D period : ℕ) where
  counted-is-agreed : (i : ℕ) → counted_from_history s events account D period i ≡ agreed_part (bar_from_history s events account D period i)
  unfolding counted_from_history bar_from_history
  counted-is-agreed i =
      let v = decides events i one D (periods_on s.time D) period in
      let w = decides events i two D (periods_on s.time D) period in
      let sees = seen_by (row_at s.rows (originator_of i)) account in
      on (matches v w)
      (λ m. rw m (sym (ap (λ (x : Bar ℤ). agreed_part (map_bar sees x)) (matched-agreed v w m))))
      (λ m. rw m (sym (unmatched-part sees v w m)))

  pub total-is-agreed : total_from_history s events account D period ≡ sum_belowℤ (length s.rows * 65536) (λ i. agreed_part (bar_from_history s events account D period i))
  unfolding total_from_history
  total-is-agreed =
      sum-ext (length s.rows * 65536) (counted_from_history s events account D period) (λ i. agreed_part (bar_from_history s events account D period i)) (λ i l. counted-is-agreed i)

-- ---- a bar by its parts

same-bar : (v v' w w' : ℤ) (a : Authorisation) (account : ℕ) → v ≡ v' → w ≡ w'
    → map_bar (seen_by a account) (bar_of v w) ≡ map_bar (seen_by a account) (bar_of v' w')
same-bar v v' w w' a account p q = rw (p, q)

module _ (b : Book contracts) (i D period : ℕ) (h : is_held b.ledger.held i ≡ true) where
  standing-first : volume1 b (day_of b.setting.time D) period (slot_of b.ledger.held i) ≡ standing b i one D period
  unfolding standing
  standing-first = rw h

  standing-second : volume2 b (day_of b.setting.time D) period (slot_of b.ledger.held i) ≡ standing b i two D period
  unfolding standing
  standing-second = rw h

-- ---- after any calls on an opened book

module _ (setup : Setup) (slots lent1 lent2 : ℕ) (opening : answer (opening_rules setup slots lent1 lent2) ≡ 0) (calls : List (Call contracts))
    (account D period i : ℕ) (p : is_period (after (opened_book contracts setup slots) calls).setting.time D period ≡ true) where
  abbrev book : Book contracts
  book = after (opened_book contracts setup slots) calls

  -- what an account that may ask is shown of an identifier
  pub bar-from-history : answer (mark_rules book i account D period) ≡ 0
      → seen_bar book i account D period ≡ bar_from_history book.setting (events_of (opened_book contracts setup slots) calls) account D period i
  unfolding bar_from_history mark_rules
  bar-from-history e =
      let h = not-false (is_held book.ledger.held i) (answer-none (mark_rules book i account D period) refl e 1) in
      seen-answered book i D period account e
      ∙ same-bar _ _ _ _ (row_at book.setting.rows (originator_of i)) account
      (standing-first book i D period h ∙ history contracts-lawful setup slots lent1 lent2 opening calls i one D period p)
      (standing-second book i D period h ∙ history contracts-lawful setup slots lent1 lent2 opening calls i two D period p)
