-- The struct that C is given tells what the code gave: the refusal, or the message and its length.
use Rattle.std.proofs.Common.{◌≡◌, refl}
use Rattle.std.specs.Prelude.{Result}
use Rattle.limits.specs.declared.refusals.Refusal.{Refusal}
use Rattle.limits.proofs.Told.{told}
use Rattle.fields.specs.declared.AtFront.{AtFront}
use Rattle.messages.specs.declared.Message.{Message}
use Rattle.message_reading.specs.declared.MessageRead.{MessageRead}
use Rattle.message_reading.specs.Structs.{read_as}

pub tells : (r s : Result (AtFront Message) Refusal) → read_as r ≡ read_as s → r ≡ s
tells = told read_as (λ (x : MessageRead). x.answer) (λ (x : MessageRead). record { length = x.length; value = x.message }) (λ a. refl) (λ r. refl) (λ a. refl)
