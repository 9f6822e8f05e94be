-- Either way round, in the code's terms: a message that is written reads back settled, and bytes that are read are written again.
use mathlib.Core.List.{List, ◌++◌}
use mathlib.Core.Path.{◌≡◌, refl, sym, ap, ◌∙◌}
use Prim.Native.Nat.{ℕ, ◌≤◌, ◌<◌}
use contract.Lifetimes.{Lfts}
use denote.MutBor.{MutBor}
use denote.Ref.{Bor}
use lib.ListN.{length, take, drop}
use Rattle.std.specs.Prelude.{Result, Ok}
use Rattle.limits.specs.declared.refusals.Refusal.{Refusal}
use Rattle.laws.proofs.Bits.{Bytes}
use Rattle.fields.specs.declared.AtFront.{AtFront}
use Rattle.meaning.specs.PackedMessages.{read_message, write_message}
use Rattle.meaning.proofs.EitherWayMessages.{written-reads, read-writes}
use Rattle.messages.specs.Structs.{message_of, settled}
use Rattle.messages.specs.declared.Message.{Message}
use Rattle.messages.proofs.Settled.{message-settled}
use Rattle.message_reading.specs.Structs.{message_read, read_as}
use Rattle.message_reading.specs.declared.MessageRead.{MessageRead}
use Rattle.message_reading.proofs.read_message.Reads as read-message
use Rattle.message_reading.proofs.Tells as Reading
use Rattle.message_reading.proofs.ReadAgain.{read-message-again}
use Rattle.message_writing.specs.Structs.{message_written}
use Rattle.fields.specs.declared.WrittenBytes.{WrittenBytes}
use Rattle.fields.proofs.Fronts.{written-tells}
use Rattle.message_writing.proofs.write_message.Reads as write-message

-- THE ROUND TRIPS, of what `write_message` leaves and `read_message` gives

-- for every message that can be written, reading what was written gives it back, settled
pub written-message-reads : (m : Message) (out : List ℕ) → m.notification.reference < 65536 → (message_written (write_message (message_of m) out)).answer ≡ 0
    → message_read (read_message (write_message (message_of m) out).out) ≡ record { answer = 0; length = (message_written (write_message (message_of m) out)).length; message = settled m }
unfolding message_written message_read
written-message-reads m out h e =
    rw (written-reads (message_of m) out e) (ap (λ (x : Message). record { answer = 0; length = (write_message (message_of m) out).length; message = x }) (message-settled m h))

-- for every byte string that reads, writing the message gives back exactly those bytes
pub read-message-writes : (bytes out : List ℕ) → Bytes bytes → Bytes out → (message_read (read_message bytes)).answer ≡ 0 → (message_read (read_message bytes)).length ≤ length out
    → write_message (message_of (message_read (read_message bytes)).message) out
    ≡ record { answer = 0; length = (message_read (read_message bytes)).length; out = take (message_read (read_message bytes)).length bytes ++ drop (message_read (read_message bytes)).length out }
unfolding message_read
read-message-writes bytes out b c e l = rw (read-message-again bytes e) (read-writes bytes out b c e l)

-- the same of the functions' own promises: what `write_message` leaves, `read_message` gives back
pub write-then-read-message : (κs κs' : Lfts 1) (m : Message) (out left : MutBor (List ℕ)) (bytes : Bor (List ℕ)) (length : ℕ) (r' : Result (AtFront Message) Refusal)
    → write-message.Post κs (m, (out, tt)) (Ok length) (m, (left, tt)) → bytes.now ≡ left.now → read-message.Post κs' (bytes, tt) r' (bytes, tt)
    → m.notification.reference < 65536 → r' ≡ Ok (record { length = length; value = settled m })
write-then-read-message κs κs' m out left bytes length r' p same q h =
    Reading.tells r' (Ok (record { length = length; value = settled m }))
    (q
    ∙ ap (λ (bytes : List ℕ). message_read (read_message bytes)) (same ∙ p.1)
    ∙ written-message-reads m out.now h (ap (λ (w : WrittenBytes). w.answer) (sym p.0))
    ∙ ap (λ (w : WrittenBytes). record { answer = 0; length = w.length; message = settled m }) (sym p.0))

-- and what `read_message` gives, `write_message` writes again, over the front of its buffer
read-struct-writes : (bytes out : List ℕ) (x : MessageRead) → x ≡ message_read (read_message bytes) → Bytes bytes → Bytes out → x.answer ≡ 0 → x.length ≤ length out
    → write_message (message_of x.message) out ≡ record { answer = 0; length = x.length; out = take x.length bytes ++ drop x.length out }
read-struct-writes bytes out x q b c e l = rw q (read-message-writes bytes out b c (rw q at e) (rw q at l))

pub read-then-write-message : (κs κs' : Lfts 1) (bytes : Bor (List ℕ)) (out left : MutBor (List ℕ)) (r : AtFront Message) (r' : Result ℕ Refusal)
    → read-message.Post κs (bytes, tt) (Ok r) (bytes, tt) → write-message.Post κs' (r.value, (out, tt)) r' (r.value, (left, tt))
    → Bytes bytes.now → Bytes out.now → r.length ≤ length out.now
    → (r' ≡ Ok r.length) × (left.now ≡ take r.length bytes.now ++ drop r.length out.now)
unfolding message_written
read-then-write-message κs κs' bytes out left r r' q p b c l =
    let again = read-struct-writes bytes.now out.now (read_as (Ok r)) q b c refl l in
    (written-tells r' (Ok r.length) (p.0 ∙ rw again), p.1 ∙ rw again)
