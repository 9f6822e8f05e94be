-- What is not refused is read part by part, and that is the message that the fields' values make; what is refused is as a gate.
use Rattle.std.proofs.Common.{◌≡◌, ℕ, List, sym, ap, ◌∙◌, rules}
use Rattle.std.specs.Prelude.{Err}
use Rattle.words.specs.Rules.{answer}
use Rattle.words.specs.Fields.{bytes_for}
use Rattle.limits.specs.declared.refusals.Refusal.{Refusal}
use Rattle.limits.specs.Refusals.{number_of}
use Rattle.limits.proofs.AnswerNumbers.{not-done}
use Rattle.meaning.specs.PackedMessages.{kind_in, layout_in, reading_rules, read_message}
use Rattle.meaning.proofs.PackedMessageRules.{readable, reading-done}
use Rattle.messages.specs.declared.Message.{Message}
use Rattle.message_reading.specs.Structs.{message_read, read_as}
use Rattle.message_reading.specs.declared.MessageRead.{MessageRead}
use Rattle.message_reading.proofs.ReadParts.{message-parts, parts_of, parts_are}
use Rattle.message_reading.proofs.read_message.Goals as goal

refused : (s : List ℕ) (r : Refusal) → number_of r ≡ answer (reading_rules s) → read_as (Err r) ≡ message_read (read_message s)
unfolding message_read read_message
refused s r e = rw (← e, not-done r)

given : (s : List ℕ) → answer (reading_rules s) ≡ 0
    → ◌≡◌ {A = MessageRead} (record { answer = 0; length = (read_message s).length; message = parts_of s (kind_in s) }) (message_read (read_message s))
unfolding message_read
given s z =
    let k = (readable s z).kind in
    rw (reading-done s z) (ap (λ (m : Message). record { answer = 0; length = bytes_for (layout_in s); message = m }) (parts_are s k ∙ message-parts s k))

pub returns-in_err-length : goal.returns-in_err-length
returns-in_err-length c =
    let e = refused c.args.bytes.now c.in_err-length.field-0.0 c.in_err-length.ensures.0 in search (rules, e)

pub returns : goal.returns
returns c =
    rw (
      c.notification_of.ensures,
      c.nullification_of.ensures,
      c.kind_in-kind.ensures,
      c.in_ok-length.ensures.1,
    )
    (given c.args.bytes.now (sym c.in_ok-length.ensures.0))
