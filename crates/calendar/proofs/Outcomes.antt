-- What C is given tells the outcome.
use Rattle.std.proofs.Common.{◌≡◌, ℕ, List, refl}
use Rattle.std.specs.Prelude.{Result}
use Rattle.limits.specs.declared.refusals.Refusal.{Refusal}
use Rattle.limits.proofs.Told.{told}
use Rattle.calendar.specs.declared.Date.{Date}
use Rattle.calendar.specs.declared.Measured.{Measured}
use Rattle.calendar.specs.declared.Coded.{Coded}
use Rattle.calendar.specs.declared.Numbered.{Numbered}
use Rattle.calendar.specs.declared.Dated.{Dated}
use Rattle.calendar.specs.declared.Proposed.{Proposed}
use Rattle.calendar.specs.Outcomes.{as_measured, as_coded, as_numbered, as_dated, as_proposed}

pub measured-tells : (r s : Result ℕ Refusal) → as_measured r ≡ as_measured s → r ≡ s
measured-tells = told as_measured (λ (x : Measured). x.answer) (λ (x : Measured). x.periods) (λ _. refl) (λ _. refl) (λ _. refl)

pub coded-tells : (r s : Result ℕ Refusal) → as_coded r ≡ as_coded s → r ≡ s
coded-tells = told as_coded (λ (x : Coded). x.answer) (λ (x : Coded). x.code) (λ _. refl) (λ _. refl) (λ _. refl)

pub numbered-tells : (r s : Result ℕ Refusal) → as_numbered r ≡ as_numbered s → r ≡ s
numbered-tells = told as_numbered (λ (x : Numbered). x.answer) (λ (x : Numbered). x.day) (λ _. refl) (λ _. refl) (λ _. refl)

pub dated-tells : (r s : Result Date Refusal) → as_dated r ≡ as_dated s → r ≡ s
dated-tells = told as_dated (λ (x : Dated). x.answer) (λ (x : Dated). x.date) (λ _. refl) (λ _. refl) (λ _. refl)

pub proposed-tells : (r s : Result (List ℕ) Refusal) → as_proposed r ≡ as_proposed s → r ≡ s
proposed-tells = told as_proposed (λ (x : Proposed). x.answer) (λ (x : Proposed). x.codes) (λ _. refl) (λ _. refl) (λ _. refl)
