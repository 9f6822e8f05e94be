-- What C is given of what was written tells the outcome: the refusal, or the length.
use Rattle.std.proofs.Common.{◌≡◌, ℕ, refl}
use Rattle.std.specs.Prelude.{Result}
use Rattle.limits.specs.declared.refusals.Refusal.{Refusal}
use Rattle.limits.proofs.Told.{told}
use Rattle.fields.specs.Fronts.{written_as}
use Rattle.fields.specs.declared.WrittenBytes.{WrittenBytes}

pub written-tells : (r s : Result ℕ Refusal) → written_as r ≡ written_as s → r ≡ s
written-tells = told written_as (λ (x : WrittenBytes). x.answer) (λ (x : WrittenBytes). x.length) (λ _. refl) (λ _. refl) (λ _. refl)
