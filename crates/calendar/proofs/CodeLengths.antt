-- The code of a day is that of its length, and no other code is.
use mathlib.Core.Logic.{◌≢◌, ◌↔◌}
use mathlib.Core.Path.{◌≡◌, refl, sym, ap, ◌∙◌}
use Prim.Native.Nat.{ℕ}
use native.Mathlib.Omega.{arith}
use borrow.Author.Tests.{ne_eqb}
use Rattle.laws.proofs.Cases.{on, by-eq}
use Rattle.meaning.specs.Time.{periods_of_code}
use Rattle.calendar.specs.Calendar.{is_last_sunday, length_of, code_for, code_of}

module _ (n : ℕ) where
  -- "46, 48 or 50 periods"
  pub three-lengths {ℓ} : (P : ℕ → Type ℓ) → P 46 → P 48 → P 50 → P (length_of n)
  unfolding length_of
  three-lengths P short plain long =
      on (is_last_sunday 3 n) (λ e. rw e short) (λ e. on (is_last_sunday 10 n) (λ f. rw (e, f) long) (λ f. rw (e, f) plain))

  pub code-length : periods_of_code (code_of n) ≡ length_of n
  unfolding code_of periods_of_code
  code-length = three-lengths (λ (l : ℕ). periods_of_code (code_for l) ≡ l) refl refl refl

  some-period : length_of n ≢ 0
  some-period = three-lengths (λ (l : ℕ). l ≢ 0) (λ e. omega arith) (λ e. omega arith) (λ e. omega arith)

  code-back : (code : ℕ) → periods_of_code code ≡ length_of n → code ≡ code_of n
  unfolding code_of periods_of_code
  code-back code e =
      let it : (k : ℕ) → code ≡ k → code_for (periods_of_code k) ≡ code_of n = λ k z. ap code_for (sym (ap periods_of_code z) ∙ e) in
      by-eq code 0
      (λ z. z ∙ it 0 z)
      (λ not0. by-eq code 1
      (λ z. z ∙ it 1 z)
      (λ not1. by-eq code 2
      (λ z. z ∙ it 2 z)
      (λ not2. absurd (some-period (sym (rw (ne_eqb code 0 not0, ne_eqb code 1 not1, ne_eqb code 2 not2) at e))))))

  -- a code of so many periods as the day has is the day's code, and the other way round
  pub code-exactly : (code : ℕ) → (code ≡ code_of n) ↔ (periods_of_code code ≡ length_of n)
  code-exactly code = (λ e. ap periods_of_code e ∙ code-length, code-back code)
