-- What is read, as a struct; and the same of what the code gives, which C is given as that struct.
use Rattle.std.specs.Prelude.{Result, Ok, Err}
use Rattle.limits.specs.declared.refusals.Refusal.{Refusal}
use Rattle.limits.specs.Refusals.{number_of}
use Rattle.meaning.specs.PackedMessages.{Packed, Reading}
use Rattle.fields.specs.declared.AtFront.{AtFront}
use Rattle.messages.specs.Structs.{no_message, message_for}
use Rattle.messages.specs.declared.Message.{Message}
use Rattle.message_reading.specs.declared.MessageRead.{MessageRead}

unfoldable pub message_read : Reading Packed → MessageRead
message_read r = record { answer = r.answer; length = r.length; message = message_for r.read }

-- with a refusal its number, and the rest zero; it tells the outcome (proofs/Tells.antt)
abbrev pub read_as : Result (AtFront Message) Refusal → MessageRead
read_as (Ok front) = record { answer = 0; length = front.length; message = front.value }
read_as (Err refusal) = record { answer = number_of refusal; length = 0; message = no_message }
