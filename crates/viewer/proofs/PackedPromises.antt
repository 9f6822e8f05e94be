-- What the exports about packed bytes ensure of their results and of the buffer left, as types. Each export's proof gives its type, so that uniqueness
-- speaks of the very promise in the source.
use mathlib.Core.List.{List}
use mathlib.Core.Path.{◌≡◌}
use Prim.Native.Nat.{ℕ}
use lib.IntN.{ℤ}
use Rattle.words.specs.Rules.{answer}
use Rattle.meaning.specs.PackedMessages.{reading_rules, read_message, write_message}
use Rattle.meaning.specs.PackedSetups.{write_setup}
use Rattle.messages.specs.Structs.{message_of}
use Rattle.messages.specs.declared.Message.{Message}
use Rattle.message_reading.specs.Structs.{message_read}
use Rattle.message_reading.specs.declared.MessageRead.{MessageRead}
use Rattle.message_writing.specs.Structs.{message_written}
use Rattle.fields.specs.declared.WrittenBytes.{WrittenBytes}
use Rattle.setups.specs.Structs.{setup_of}
use Rattle.setups.specs.declared.Setup.{Setup}
use Rattle.setup_writing.specs.Structs.{setup_written}
use Rattle.message_fields.specs.Questions.{field_in}

abbrev pub MessageRefusal : List ℕ → ℕ → Type 0
MessageRefusal bytes r = r ≡ answer (reading_rules bytes)

abbrev pub MessageLength : List ℕ → ℕ → Type 0
MessageLength bytes r = r ≡ (read_message bytes).length

abbrev pub MessageField : List ℕ → ℕ → ℤ → Type 0
MessageField bytes field r = r ≡ field_in (read_message bytes).read field

abbrev pub ReadsMessage : List ℕ → MessageRead → Type 0
ReadsMessage bytes r = r ≡ message_read (read_message bytes)

abbrev pub WritesMessage : Message → List ℕ → WrittenBytes → List ℕ → Type 0
WritesMessage m out r left = (r ≡ message_written (write_message (message_of m) out)) × (left ≡ (write_message (message_of m) out).out)

abbrev pub WritesSetup : Setup → List ℕ → WrittenBytes → List ℕ → Type 0
WritesSetup s out r left = (r ≡ setup_written (write_setup (setup_of s) out)) × (left ≡ (write_setup (setup_of s) out).out)
