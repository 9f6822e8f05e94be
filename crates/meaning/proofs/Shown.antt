-- What the bars show and what totals count is one thing: an account's total is the sum, over the identifiers held, of what their marks show it
-- as Agreed.
use mathlib.Core.Bool.{true, false}
use mathlib.Core.Logic.{◌≢◌}
use mathlib.Core.Path.{◌≡◌, refl, sym, ap, ◌∙◌}
use Prim.Native.Nat.{ℕ, zero, suc, ◌<◌}
use native.Mathlib.Omega.{arith}
use lib.Dec.{eqb}
use lib.IntN.{ℤ, pos}
use lib.ListN.{length, get_or}
use borrow.Author.Tests.{eqb-false, not-false}
use Rattle.words.specs.Rules.{answer}
use Rattle.words.specs.Below.{sum_belowℤ}
use Rattle.words.specs.Lists.{find}
use Rattle.laws.proofs.Cases.{on, or_left, or_right}
use Rattle.laws.proofs.Lists.{find_at}
use Rattle.laws.proofs.Rules.{answer-none}
use Rattle.laws.proofs.Sums.{sum-ext}
use Rattle.meaning.specs.Time.{day_of, is_period}
use Rattle.meaning.specs.Authorisations.{Authorisation, in_pair}
use Rattle.meaning.specs.Ledgers.{contracts, stands, is_held, slot_of, origin_in, one}
use Rattle.meaning.specs.Settings.{has_account}
use Rattle.meaning.specs.Books.{Book}
use Rattle.meaning.specs.Soundness.{sound}
use Rattle.meaning.specs.Totals.{matches, seen_by, counted, sum_of, total_rules, total}
use Rattle.meaning.specs.Bars.{Bar, Blank, OneSide, Agreed, Disagreed, map_bar, bar_of, mark_rules, seen_bar}
use Rattle.meaning.proofs.Clock.{is-period-on}
use Rattle.meaning.proofs.Held.{is-held, held-is}
use Rattle.meaning.proofs.Sound.{parts}
use Rattle.meaning.proofs.Standing.{standing-slot-held}
use Rattle.meaning.proofs.Counted.{matches-first, volume1, volume2, counted-matched, counted-unmatched, counted-other}
use Rattle.meaning.proofs.Bars.{matched-agreed, both-disagreed, first_alone, second-alone, neither-blank, row_for, seen-answered, seen-refused}
use Rattle.meaning.proofs.Totals.{total-is-sum}

-- the figure of a mark that is Agreed, and nothing of any other
abbrev pub agreed_part : Bar ℤ → ℤ
agreed_part Blank = pos 0
agreed_part (OneSide v) = pos 0
agreed_part (Agreed v) = v
agreed_part (Disagreed v w) = pos 0

pub unmatched-part : (f : ℤ → ℤ) (v w : ℤ) → matches v w ≡ false → agreed_part (map_bar f (bar_of v w)) ≡ pos 0
unmatched-part f v w m =
    on (stands contracts v)
    (λ p. on (stands contracts w)
    (λ q. rw (both-disagreed v w p q m) refl)
    (λ q. rw (first_alone v w p q) refl))
    (λ p. on (stands contracts w)
    (λ q. rw (second-alone v w p q) refl)
    (λ q. rw (neither-blank v w p q) refl))

module _ (b : Book contracts) (account D period : ℕ) where
  -- an identifier's mark, where the account may ask for it
  module _ (i : ℕ) (e : answer (mark_rules b i account D period) ≡ 0) where
    holding : get_or b.ledger.held (slot_of b.ledger.held i) 0 ≡ suc i
    unfolding mark_rules
    holding =
        find_at (suc i) b.ledger.held (is-held b.ledger.held i (not-false (is_held b.ledger.held i) (answer-none (mark_rules b i account D period) refl e 1)))

    pub shown-is-counted : counted b account (day_of b.setting.time D) period (slot_of b.ledger.held i) ≡ agreed_part (seen_bar b i account D period)
    shown-is-counted =
        let d = day_of b.setting.time D in
        let slot = slot_of b.ledger.held i in
        let v = volume1 b d period slot in
        let w = volume2 b d period slot in
        let seen = ap agreed_part (seen-answered b i D period account e) in
        on (matches v w)
        (λ m.
        counted-matched b d period slot m account
        ∙ ap (λ (entry : ℕ). seen_by (origin_in b.setting.rows entry) account v) holding
        ∙ sym (seen ∙ ap (λ (x : Bar ℤ). agreed_part (map_bar (seen_by (row_for b i) account) x)) (matched-agreed v w m)))
        (λ m. counted-unmatched b d period slot m account ∙ sym (seen ∙ unmatched-part (seen_by (row_for b i) account) v w m))

  -- what a slot shows, by its entry: an unheld one nothing, a held one what its identifier's mark shows as Agreed
  abbrev pub shown_in : ℕ → ℤ
  shown_in zero = pos 0
  shown_in (suc i) = agreed_part (seen_bar b i account D period)

  module _ (s : sound b ≡ true) (a : has_account b.setting account ≡ true) (p : is_period b.setting.time D period ≡ true) (k : ℕ) (l : k < length b.ledger.held) where
    abbrev d : ℕ
    d = day_of b.setting.time D

    mark-answered : (i : ℕ) → is_held b.ledger.held i ≡ true → in_pair (row_for b i) account ≡ true → answer (mark_rules b i account D period) ≡ 0
    unfolding answer mark_rules
    mark-answered i h q = rw (s, h, a, q, p)

    mark-refused : (i : ℕ) → is_held b.ledger.held i ≡ true → in_pair (row_for b i) account ≡ false → answer (mark_rules b i account D period) ≡ 15
    unfolding answer mark_rules
    mark-refused i h q = rw (s, h, a, q)

    unheld-shows : get_or b.ledger.held k 0 ≡ 0 → counted b account d period k ≡ pos 0
    unheld-shows e =
        let w = (is-period-on b.setting.time D period p).1 in
        on (matches (volume1 b d period k) (volume2 b d period k))
        (λ m.
        let h = standing-slot-held b (parts b s) one k d period l w.day w.low w.most (matches-first (volume1 b d period k) (volume2 b d period k) m) in
        absurd (omega (arith, h, e)))
        (λ m. counted-unmatched b d period k m account)

    held-shows : (i : ℕ) → get_or b.ledger.held k 0 ≡ suc i → counted b account d period k ≡ agreed_part (seen_bar b i account D period)
    held-shows i e =
        let own : find (suc i) b.ledger.held ≡ k = ((parts b s).slots k i l e).own in
        let held : is_held b.ledger.held i ≡ true = held-is b.ledger.held i (omega (arith, own)) in
        let row : origin_in b.setting.rows (get_or b.ledger.held k 0) ≡ row_for b i = ap (origin_in b.setting.rows) e in
        on (in_pair (row_for b i) account)
        (λ q. ap (counted b account d period) (sym own) ∙ shown-is-counted i (mark-answered i held q))
        (λ q.
        let n1 : account ≢ (row_for b i).account1 = eqb-false account (row_for b i).account1 (or_left (eqb account (row_for b i).account1) (eqb account (row_for b i).account2) q) in
        let n2 : account ≢ (row_for b i).account2 = eqb-false account (row_for b i).account2 (or_right (eqb account (row_for b i).account1) (eqb account (row_for b i).account2) q) in
        counted-other b d period k account (λ z. n1 (z ∙ ap (λ (r : Authorisation). r.account1) row)) (λ z. n2 (z ∙ ap (λ (r : Authorisation). r.account2) row))
        ∙ sym (ap agreed_part (seen-refused b i D period account (λ z. omega (arith, mark-refused i held q, z)))))

    slot-shows : counted b account d period k ≡ shown_in (get_or b.ledger.held k 0)
    slot-shows = by-entry (get_or b.ledger.held k 0) refl
      where
        by-entry : (entry : ℕ) → get_or b.ledger.held k 0 ≡ entry → counted b account d period k ≡ shown_in entry
        by-entry zero e = unheld-shows e
        by-entry (suc i) e = held-shows i e

  -- THE TOTAL IS WHAT THE BARS SHOW
  pub total-is-shown : answer (total_rules b account D period) ≡ 0
      → total b account D period ≡ sum_belowℤ (length b.ledger.held) (λ slot. shown_in (get_or b.ledger.held slot 0))
  unfolding total_rules sum_of
  total-is-shown e =
      let none = answer-none (total_rules b account D period) refl e in
      let s = not-false (sound b) (none 0) in
      let a = not-false (has_account b.setting account) (none 1) in
      let p = not-false (is_period b.setting.time D period) (none 2) in
      total-is-sum b account D period e
      ∙ sum-ext (length b.ledger.held) (counted b account (day_of b.setting.time D) period) (λ slot. shown_in (get_or b.ledger.held slot 0)) (λ k l. slot-shows s a p k l)
