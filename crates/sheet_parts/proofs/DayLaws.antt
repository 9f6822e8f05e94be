-- The totals of a day, asked with zero in every place, are the totals of its periods; those that a day lacks are zero.
use Rattle.std.proofs.Common.{◌≡◌, ℕ, suc, ◌<◌, ◌≤◌, true, false, List, length, get_or, replicate, ℤ, pos, sym, refl, ap, ◌∙◌, true≢false, arith, le-ltb, ne_eqb}
use lib.ListN.{get_or-replicate}
use borrow.Author.Tests.{lt-leb}
use Rattle.words.specs.Tests.{◌<?◌, ◌≤?◌, ◌=?◌}
use Rattle.words.specs.Rules.{answer}
use Rattle.words.specs.Lists.{join}
use Rattle.laws.proofs.Cases.{on, by-lt, and-false}
use Rattle.laws.proofs.Fronts.{front_length, front_at, front-past}
use Rattle.laws.proofs.Builds.{build-same}
use Rattle.meaning.specs.Time.{days, day_of, has_day, is_period, is_period_at}
use Rattle.meaning.specs.Ledgers.{contracts}
use Rattle.meaning.specs.Settings.{has_account}
use Rattle.meaning.specs.Books.{Book}
use Rattle.meaning.specs.Soundness.{sound}
use Rattle.meaning.specs.Totals.{total, total_rules, figures_rules}
use Rattle.meaning.proofs.Clock.{periods-le}
use Rattle.position.specs.Totals.{day_periods, day_total_rules, day_totals}
use Rattle.meaning.specs.Sheet.{period_lines, day_lines}
use Rattle.sheet_parts.specs.Parts.{kwh_lines}

module _ (b : Book contracts) (account D : ℕ) where
  -- ---- when a total is zero because it is refused

  pub unsound-zero : (period : ℕ) → sound b ≡ false → total b account D period ≡ pos 0
  unfolding total total_rules answer
  unsound-zero period s = rw s

  no-account-zero : (period : ℕ) → sound b ≡ true → has_account b.setting account ≡ false → total b account D period ≡ pos 0
  unfolding total total_rules answer
  no-account-zero period s a = rw (s, a)

  no-period-zero : (period : ℕ) → sound b ≡ true → has_account b.setting account ≡ true → is_period b.setting.time D period ≡ false → total b account D period ≡ pos 0
  unfolding total total_rules answer
  no-period-zero period s a e = rw (s, a, e)

  late-period : (p : ℕ) → day_periods b D ≤ p → is_period b.setting.time D (suc p) ≡ false
  unfolding is_period is_period_at
  late-period p h =
      rw (lt-leb (suc p) (day_periods b D) (omega arith), and-false (1 ≤? suc p), and-false (day_of b.setting.time D <? days b.setting.time), and-false (b.setting.time.first ≤? D))

  no-day : (period : ℕ) → has_day b.setting.time D ≡ false → is_period b.setting.time D period ≡ false
  unfolding is_period is_period_at
  no-day period e =
      on (b.setting.time.first ≤? D)
      (λ f. on (day_of b.setting.time D <? days b.setting.time) (λ g. absurd (true≢false (rw (f, g) at e))) (λ g. rw (f, g)))
      (λ f. rw f)

  -- ---- asked with zero in every place

  abbrev zeros : List ℤ
  zeros = replicate 50 (pos 0)

  abbrev totals : ℕ → ℤ → ℤ
  totals p old = total b account D (suc p)

  day-length : length (day_totals b account D zeros) ≡ 50
  unfolding day_totals
  day-length =
      on (answer (day_total_rules b account D (length zeros)) =? 0)
      (λ e. rw e (front_length (day_periods b D) totals zeros))
      (λ e. rw e refl)

  module _ (p : ℕ) (h : p < 50) where
    asked-zero : get_or zeros p (pos 0) ≡ pos 0
    asked-zero = get_or-replicate 50 p (pos 0) (pos 0) h

    -- refused as a whole: as it came
    refused-zero : (n : ℕ) → answer (day_total_rules b account D 50) ≡ suc n → get_or (day_totals b account D zeros) p (pos 0) ≡ pos 0
    unfolding day_totals
    refused-zero n e = rw (e, ne_eqb (suc n) 0 (λ z. omega (arith, z))) asked-zero

    -- a period's total, and zero past the day
    answered-total : answer (day_total_rules b account D 50) ≡ 0 → p < day_periods b D → get_or (day_totals b account D zeros) p (pos 0) ≡ total b account D (suc p)
    unfolding day_totals
    answered-total e l = rw e (front_at (day_periods b D) totals zeros (pos 0) p l h)

    past-zero : answer (day_total_rules b account D 50) ≡ 0 → day_periods b D ≤ p → get_or (day_totals b account D zeros) p (pos 0) ≡ pos 0
    unfolding day_totals
    past-zero e l = rw e (front-past (day_periods b D) totals zeros (pos 0) p l h ∙ asked-zero)

    day-kwh : get_or (day_totals b account D zeros) p (pos 0) ≡ total b account D (suc p)
    unfolding figures_rules day_total_rules answer
    day-kwh =
        on (sound b)
        (λ s.
        on (has_account b.setting account)
        (λ a.
        on (has_day b.setting.time D)
        (λ d.
        let done : answer (day_total_rules b account D 50) ≡ 0 = rw (s, a, d, le-ltb 50 (day_periods b D) (periods-le b.setting.time.codes (day_of b.setting.time D))) in
        by-lt p (day_periods b D)
        (λ l. answered-total done l)
        (λ l. past-zero done l ∙ sym (no-period-zero (suc p) s a (late-period p l))))
        (λ d. refused-zero 15 (rw (s, a, d)) ∙ sym (no-period-zero (suc p) s a (no-day (suc p) d))))
        (λ a. refused-zero 14 (rw (s, a)) ∙ sym (no-account-zero (suc p) s a)))
        (λ s. refused-zero 0 (rw s) ∙ sym (unsound-zero (suc p) s))

  pub day-lines : kwh_lines account D (day_totals b account D zeros) ≡ day_lines b account D
  unfolding kwh_lines day_lines
  day-lines =
      rw day-length
      (ap join
      (build-same 50 (λ (p : ℕ). period_lines account D (suc p) (get_or (day_totals b account D zeros) p (pos 0))) (λ (p : ℕ). period_lines account D (suc p) (total b account D (suc p)))
      (λ p h. ap (period_lines account D (suc p)) (day-kwh p h))))
