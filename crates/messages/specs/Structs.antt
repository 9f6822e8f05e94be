-- The structs of `messages` and what they hold: each struct as meaning has it, and each thing of meaning as a struct, with zero in what it lacks.
use Rattle.std.specs.Prelude.{List, ℕ, ◌+◌, ◌-◌, pos, length, get_or, replicate, if◌then◌else◌}
use Rattle.words.specs.Tests.{◌<?◌, ◌=?◌}
use Rattle.words.specs.Lists.{build}
use Rattle.meaning.specs.Ledgers.{contracts, identifier_of, originator_of, reference_of}
use Rattle.meaning.specs.Messages as Meaning
use Rattle.meaning.specs.Messages.{notification, nullification}
use Rattle.meaning.specs.PackedMessages.{Packed, gate, message, other_kind}
use Rattle.messages.specs.declared.Entry.{Entry}
use Rattle.messages.specs.declared.Notification.{Notification}
use Rattle.messages.specs.declared.Nullification.{Nullification}
use Rattle.messages.specs.declared.Message.{Message}

-- ---- what a struct holds

abbrev pub no_entry : Entry
no_entry = record { period = 0; volume = pos 0 }

abbrev pub entry_of : Entry → Meaning.Entry contracts
entry_of e = record { period = e.period; volume = e.volume }

-- "an entry past the 50th counts as too high": a count above 50 reads past the array's end, where the period is 0
unfoldable pub entries_of : ℕ → List Entry → List (Meaning.Entry contracts)
entries_of count es = build count (λ (k : ℕ). entry_of (get_or es k no_entry))

unfoldable pub notification_of : Notification → Meaning.Notification contracts
notification_of n =
    let i = identifier_of n.originator n.reference in
    let es = entries_of n.count n.entries in
    record { authorisation = n.authorisation; agent = n.agent; key = n.key; identifier = i; first = n.first; last = n.last; entries = es }

abbrev pub nullification_of : Nullification → Meaning.Nullification
nullification_of x = record { account = x.account; other = x.other; first = x.first }

unfoldable pub message_of : Message → Packed
message_of m =
    if m.kind =? 0 then gate
    else if m.kind =? 1 then message (notification (notification_of m.notification))
    else if m.kind =? 2 then message (nullification (nullification_of m.nullification))
    else other_kind (m.kind - 3)

-- ---- the struct for what meaning has

abbrev pub no_entry_meant : Meaning.Entry contracts
no_entry_meant = record { period = 0; volume = pos 0 }

abbrev pub entry_for : Meaning.Entry contracts → Entry
entry_for e = record { period = e.period; volume = e.volume }

abbrev pub no_notification : Notification
no_notification =
    record { authorisation = 0; agent = 0; key = 0; originator = 0; reference = 0; first = 0; last = 0; count = 0; entries = replicate 50 no_entry }

unfoldable pub notification_for : Meaning.Notification contracts → Notification
notification_for n =
    let o = originator_of n.identifier in
    let r = reference_of n.identifier in
    let es = build 50 (λ (k : ℕ). entry_for (get_or n.entries k no_entry_meant)) in
    record { authorisation = n.authorisation; agent = n.agent; key = n.key; originator = o; reference = r; first = n.first; last = n.last; count = length n.entries; entries = es }

abbrev pub no_nullification : Nullification
no_nullification = record { account = 0; other = 0; first = 0 }

abbrev pub nullification_for : Meaning.Nullification → Nullification
nullification_for x = record { account = x.account; other = x.other; first = x.first }

abbrev pub no_message : Message
no_message = record { kind = 0; notification = no_notification; nullification = no_nullification }

-- "fields its kind lacks, are no part of a message; they read as zero"
abbrev pub message_for : Packed → Message
message_for gate = no_message
message_for (message (notification n)) = record { kind = 1; notification = notification_for n; nullification = no_nullification }
message_for (message (nullification x)) = record { kind = 2; notification = no_notification; nullification = nullification_for x }
message_for (other_kind k) = record { kind = 3 + k; notification = no_notification; nullification = no_nullification }

-- ---- a message as it reads back: places past the count, and what its kind lacks, are zero

unfoldable pub settled_entries : Notification → List Entry
settled_entries n = build 50 (λ (k : ℕ). if k <? n.count then get_or n.entries k no_entry else no_entry)

unfoldable pub settled_notification : Notification → Notification
settled_notification n =
    record { authorisation = n.authorisation; agent = n.agent; key = n.key; originator = n.originator; reference = n.reference; first = n.first; last = n.last; count = n.count; entries = settled_entries n }

unfoldable pub settled : Message → Message
settled m =
    if m.kind =? 1 then record { kind = 1; notification = settled_notification m.notification; nullification = no_nullification }
    else if m.kind =? 2 then record { kind = 2; notification = no_notification; nullification = m.nullification }
    else record { kind = m.kind; notification = no_notification; nullification = no_nullification }
