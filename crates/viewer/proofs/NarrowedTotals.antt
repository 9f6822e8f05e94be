-- An account's totals and figures are those of the narrowed numbers: a number out of every book is refused like its limit.
use mathlib.Core.Bool.{true, false, cond}
use mathlib.Core.List.{List}
use mathlib.Core.Path.{◌≡◌, ◌∙◌}
use Prim.Native.Nat.{ℕ, ◌≤◌, min}
use lib.IntN.{ℤ, pos}
use lib.ListN.{length}
use Rattle.words.specs.Rules.{answer}
use Rattle.laws.proofs.Cases.{on}
use Rattle.meaning.specs.Time.{is_period}
use Rattle.meaning.specs.Ledgers.{contracts}
use Rattle.meaning.specs.Settings.{has_account}
use Rattle.meaning.specs.Books.{Book}
use Rattle.meaning.specs.Soundness.{sound}
use Rattle.meaning.specs.Totals.{total_rules, total, figures_rules, figures, mwh}
use Rattle.position.specs.Totals.{totalled, day_total_rules, day_totals, figured}
use Rattle.position.specs.declared.Totalled.{Totalled}
use Rattle.position.specs.declared.Figured.{Figured}
use Rattle.viewer.proofs.OutOfBook.{no-account, no-day, no-period, no-period-of-day}
use Rattle.viewer.proofs.Narrowed.{narrowed}

module _ (b : Book contracts) where
  -- the answers where the account is out of the book, and where the day or the period is
  abbrev without_account : ℕ
  without_account = cond (sound b) 15 1

  abbrev without_day : ℕ → ℕ
  without_day account = cond (sound b) (cond (has_account b.setting account) 16 15) 1

  -- ---- a total

  abbrev refused_total : ℕ → Totalled
  refused_total n = record { answer = n; kwh = pos 0 }

  total-no-account : (D period account : ℕ) → 255 ≤ account → totalled b account D period ≡ refused_total without_account
  unfolding answer total_rules total totalled
  total-no-account D period account l = on (sound b) (λ s. rw (s, no-account b s account l)) (λ s. rw s)

  total-no-period : (account D period : ℕ) → (sound b ≡ true → is_period b.setting.time D period ≡ false)
      → totalled b account D period ≡ refused_total (without_day account)
  unfolding answer total_rules total totalled
  total-no-period account D period none =
      on (sound b) (λ s. on (has_account b.setting account) (λ a. rw (s, a, none s)) (λ a. rw (s, a))) (λ s. rw s)

  pub total-narrowed : (account D period : ℕ) {a d p : ℕ} → a ≡ min account 255 → d ≡ min D 65535 → p ≡ min period 255
      → totalled b a d p ≡ totalled b account D period
  total-narrowed account D period {a} {d} {p} ea ed ep =
      narrowed (λ (k : ℕ). totalled b k d p) (total-no-account d p) ea
      ∙ narrowed (λ (k : ℕ). totalled b account k p) (λ k l. total-no-period account k p (λ s. no-period-of-day b s k p l)) ed
      ∙ narrowed (λ (k : ℕ). totalled b account D k) (λ k l. total-no-period account D k (λ s. no-period b.setting.time D k l)) ep

  -- ---- the totals of a day, and what is left of the buffer

  module _ (lent : List ℤ) where
    abbrev day_totalled : ℕ → ℕ → ℕ × List ℤ
    day_totalled account D = (answer (day_total_rules b account D (length lent)), day_totals b account D lent)

    day-totals-no-account : (D account : ℕ) → 255 ≤ account → day_totalled account D ≡ (without_account, lent)
    unfolding answer figures_rules day_total_rules day_totals
    day-totals-no-account D account l = on (sound b) (λ s. rw (s, no-account b s account l)) (λ s. rw s)

    day-totals-no-day : (account D : ℕ) → 65535 ≤ D → day_totalled account D ≡ (without_day account, lent)
    unfolding answer figures_rules day_total_rules day_totals
    day-totals-no-day account D l =
        on (sound b) (λ s. on (has_account b.setting account) (λ a. rw (s, a, no-day b s D l)) (λ a. rw (s, a))) (λ s. rw s)

    pub day-totals-narrowed : (account D : ℕ) {a d : ℕ} → a ≡ min account 255 → d ≡ min D 65535 → day_totalled a d ≡ day_totalled account D
    day-totals-narrowed account D {a} {d} ea ed =
        narrowed (λ (k : ℕ). day_totalled k d) (day-totals-no-account d) ea ∙ narrowed (day_totalled account) (day-totals-no-day account) ed

  -- ---- the day's figures

  abbrev refused_figures : ℕ → Figured
  refused_figures n = record { answer = n; day = record { sold = mwh (pos 0); bought = mwh (pos 0); net = mwh (pos 0) } }

  figures-no-account : (D account : ℕ) → 255 ≤ account → figured b account D ≡ refused_figures without_account
  unfolding answer figures_rules figures figured
  figures-no-account D account l = on (sound b) (λ s. rw (s, no-account b s account l)) (λ s. rw s)

  figures-no-day : (account D : ℕ) → 65535 ≤ D → figured b account D ≡ refused_figures (without_day account)
  unfolding answer figures_rules figures figured
  figures-no-day account D l =
      on (sound b) (λ s. on (has_account b.setting account) (λ a. rw (s, a, no-day b s D l)) (λ a. rw (s, a))) (λ s. rw s)

  pub figures-narrowed : (account D : ℕ) {a d : ℕ} → a ≡ min account 255 → d ≡ min D 65535 → figured b a d ≡ figured b account D
  figures-narrowed account D {a} {d} ea ed =
      narrowed (λ (k : ℕ). figured b k d) (figures-no-account d) ea ∙ narrowed (figured b account) (figures-no-day account) ed
