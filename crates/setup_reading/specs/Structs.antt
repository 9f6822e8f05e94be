-- What is read, as the struct that C is given.
use Rattle.std.specs.Prelude.{Result, Ok, Err}
use Rattle.fields.specs.declared.AtFront.{AtFront}
use Rattle.limits.specs.declared.refusals.Refusal.{Refusal}
use Rattle.limits.specs.Refusals.{number_of}
use Rattle.meaning.specs.Books as Books
use Rattle.meaning.specs.PackedMessages.{Reading}
use Rattle.setups.specs.declared.Setup.{Setup}
use Rattle.setups.specs.Structs.{no_setup_struct, setup_for}
use Rattle.setup_reading.specs.declared.SetupRead.{SetupRead}

unfoldable pub setup_read : Reading Books.Setup → SetupRead
setup_read r = record { answer = r.answer; length = r.length; setup = setup_for r.read }

-- what C is given of an outcome: 0 beside the value, or the number beside zeros; no two outcomes give the same (proofs/Outcomes.antt)
abbrev pub as_setup_read : Result (AtFront Setup) Refusal → SetupRead
as_setup_read (Ok front) = record { answer = 0; length = front.length; setup = front.value }
as_setup_read (Err refusal) = record { answer = number_of refusal; length = 0; setup = no_setup_struct }
