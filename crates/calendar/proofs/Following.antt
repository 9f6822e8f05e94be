-- Days that follow each other: the last of them is the first to leave the calendar. So a proposal is refused by it alone.
use mathlib.Core.Bool.{true, false, not, true≢false}
use mathlib.Core.Path.{◌≡◌, refl, sym, ap, ◌∙◌}
use Prim.Native.Nat.{ℕ, ◌+◌, ◌-◌, ◌≤◌, ◌<◌}
use native.Mathlib.Omega.{arith}
use borrow.Author.Tests.{leb-true}
use Rattle.words.specs.Tests.{◌<?◌, ◌≤?◌, between}
use Rattle.words.specs.Rules.{answer}
use Rattle.laws.proofs.Cases.{by-lt, and_left, and_right, or_left, not-not}
use Rattle.laws.proofs.Below.{some-hit, some-all}
use Rattle.laws.proofs.Rules.{answer-none}
use Rattle.calendar.specs.Calendar.{is_day, some_day_outside}
use Rattle.calendar.specs.Answers.{proposal_rules}
use Rattle.calendar.proofs.Years.{below-day, day-out}

module _ (first days : ℕ) where
  pub outside : 1 ≤ days → 36525 < first + days → some_day_outside first days ≡ true
  unfolding some_day_outside
  outside z h =
      some-hit days (λ (d : ℕ). not (is_day (first + d))) (days - 1) (omega arith) (ap not (day-out (first + (days - 1)) (omega arith)))

  pub inside : first + days ≤ 36525 → some_day_outside first days ≡ false
  unfolding some_day_outside
  inside h = some-all days (λ (d : ℕ). not (is_day (first + d))) (λ d l. ap not (below-day (first + d) (omega arith)))

  pub not-outside : 1 ≤ days → some_day_outside first days ≡ false → first + days ≤ 36525
  not-outside z e = by-lt 36525 (first + days) (λ h. absurd (true≢false (sym (outside z h) ∙ e))) (λ h. h)

-- "1 to 8 consecutive settlement days"
pub days-right : (days : ℕ) → not (between 1 8 days) ≡ false → (1 ≤ days) × (days ≤ 8)
days-right days e =
    let t : between 1 8 days ≡ true = sym (not-not (between 1 8 days)) ∙ ap not e in
    (leb-true 1 days (and_left (1 ≤? days) (days ≤? 8) t), leb-true days 8 (and_right (1 ≤? days) (days ≤? 8) t))

-- what is proposed is a setup's days, and all of them are in the calendar
pub proposal-inside : (first days : ℕ) → answer (proposal_rules first days) ≡ 0 → (1 ≤ days) × (days ≤ 8) × (first + days ≤ 36525)
unfolding proposal_rules
proposal-inside first days e =
    let none = answer-none (proposal_rules first days) refl e in
    let d = days-right days (or_left (not (between 1 8 days)) (65535 <? first + days) (none 0)) in
    (d.0, d.1, not-outside first days d.0 (none 1))
