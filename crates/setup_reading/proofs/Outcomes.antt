-- What C is given of reading tells the outcome.
use Rattle.std.proofs.Common.{◌≡◌, refl}
use Rattle.std.specs.Prelude.{Result}
use Rattle.fields.specs.declared.AtFront.{AtFront}
use Rattle.limits.specs.declared.refusals.Refusal.{Refusal}
use Rattle.limits.proofs.Told.{told}
use Rattle.setups.specs.declared.Setup.{Setup}
use Rattle.setup_reading.specs.Structs.{as_setup_read}
use Rattle.setup_reading.specs.declared.SetupRead.{SetupRead}

pub setup-read-tells : (r s : Result (AtFront Setup) Refusal) → as_setup_read r ≡ as_setup_read s → r ≡ s
setup-read-tells = told as_setup_read (λ (x : SetupRead). x.answer) (λ (x : SetupRead). record { length = x.length; value = x.setup }) (λ _. refl) (λ _. refl) (λ _. refl)
