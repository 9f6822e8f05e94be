-- The fields that the C viewer may ask for, by their numbers: 0 kind, 1 authorisation, 2 agent, 3 key, 4 originator, 5 reference, 6 first day,
-- 7 last day, 8 count, 9 account, 10 other account, 100 + k the period of entry k, 200 + k its volume. "an unknown field is zero"
use Rattle.std.specs.Prelude.{ℕ, ◌-◌, ℤ, pos, get_or, if◌then◌else◌}
use Rattle.words.specs.Tests.{◌<?◌, ◌=?◌}
use Rattle.meaning.specs.PackedMessages.{Packed}
use Rattle.messages.specs.Structs.{no_entry, message_for}
use Rattle.messages.specs.declared.Notification.{Notification}
use Rattle.messages.specs.declared.Nullification.{Nullification}
use Rattle.messages.specs.declared.Message.{Message}

unfoldable pub entry_field : Notification → ℕ → ℤ
entry_field n field =
    if field <? 100 then pos 0
    else if field <? 150 then pos (get_or n.entries (field - 100) no_entry).period
    else if field <? 200 then pos 0
    else if field <? 250 then (get_or n.entries (field - 200) no_entry).volume
    else pos 0

unfoldable pub notification_field : Notification → ℕ → ℤ
notification_field n field =
    if field =? 1 then pos n.authorisation
    else if field =? 2 then pos n.agent
    else if field =? 3 then pos n.key
    else if field =? 4 then pos n.originator
    else if field =? 5 then pos n.reference
    else if field =? 6 then pos n.first
    else if field =? 7 then pos n.last
    else if field =? 8 then pos n.count
    else entry_field n field

unfoldable pub nullification_field : Nullification → ℕ → ℤ
nullification_field x field =
    if field =? 6 then pos x.first
    else if field =? 9 then pos x.account
    else if field =? 10 then pos x.other
    else pos 0

-- what a message's kind lacks is zero
unfoldable pub message_field : Message → ℕ → ℤ
message_field m field =
    if field =? 0 then pos m.kind
    else if m.kind =? 1 then notification_field m.notification field
    else if m.kind =? 2 then nullification_field m.nullification field
    else pos 0

abbrev pub field_in : Packed → ℕ → ℤ
field_in m field = message_field (message_for m) field
