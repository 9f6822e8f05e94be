-- A struct that has the answer number beside the value, zeros where there is none, tells the outcome that it was made of.
use Rattle.std.proofs.Common.{◌≡◌, ℕ, ap, ◌∙◌, sym}
use Rattle.std.specs.Prelude.{Result, Ok, Err}
use Rattle.limits.specs.declared.refusals.Refusal.{Refusal}
use Rattle.limits.specs.Refusals.{number_of}
use Rattle.limits.proofs.AnswerNumbers.{never-done, same-number}

module _ {A S : Type 0} (made : Result A Refusal → S) (number : S → ℕ) (value : S → A) (is-done : (a : A) → number (made (Ok a)) ≡ 0) (is-number : (r : Refusal) → number (made (Err r)) ≡ number_of r) (is-value : (a : A) → value (made (Ok a)) ≡ a) where
  pub told : (r s : Result A Refusal) → made r ≡ made s → r ≡ s
  told (Ok a) (Ok b) e = ap Ok (sym (is-value a) ∙ ap value e ∙ is-value b)
  told (Ok a) (Err s) e = never-done s (sym (is-number s) ∙ sym (ap number e) ∙ is-done a)
  told (Err r) (Ok b) e = never-done r (sym (is-number r) ∙ ap number e ∙ is-done b)
  told (Err r) (Err s) e = ap Err (same-number r s (sym (is-number r) ∙ ap number e ∙ is-number s))
