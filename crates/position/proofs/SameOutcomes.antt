-- Two outcomes of which C is given the same are the same.
use mathlib.Core.Path.{◌≡◌, refl}
use lib.IntN.{ℤ}
use Rattle.std.specs.Prelude.{Result}
use Rattle.limits.specs.declared.refusals.Refusal.{Refusal}
use Rattle.limits.proofs.Told.{told}
use Rattle.position.specs.declared.Totalled.{Totalled}
use Rattle.position.specs.declared.DayFigures.{DayFigures}
use Rattle.position.specs.declared.Figured.{Figured}
use Rattle.position.specs.Totals.{totalled_of, figured_of}

pub same_total : (r s : Result ℤ Refusal) → totalled_of r ≡ totalled_of s → r ≡ s
same_total = told totalled_of (λ (t : Totalled). t.answer) (λ (t : Totalled). t.kwh) (λ _. refl) (λ _. refl) (λ _. refl)

pub same_figures : (r s : Result DayFigures Refusal) → figured_of r ≡ figured_of s → r ≡ s
same_figures = told figured_of (λ (f : Figured). f.answer) (λ (f : Figured). f.day) (λ _. refl) (λ _. refl) (λ _. refl)
