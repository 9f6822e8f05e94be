-- What the private functions of reading a message answer; the public promises do not cite these.
use Rattle.std.specs.Prelude.{List, ℕ, ◌+◌, ◌*◌, get_or, if◌then◌else◌}
use Rattle.words.specs.Tests.{◌<?◌, ◌=?◌}
use Rattle.words.specs.Lists.{build}
use Rattle.words.specs.Fields.{field_at, read_all, signed_of}
use Rattle.meaning.specs.PackedMessages.{notification_layout, nullification_layout, kind_in}
use Rattle.messages.specs.Structs.{no_entry, no_notification, no_nullification, no_message}
use Rattle.messages.specs.declared.Entry.{Entry}
use Rattle.messages.specs.declared.Notification.{Notification}
use Rattle.messages.specs.declared.Nullification.{Nullification}
use Rattle.messages.specs.declared.Message.{Message}

-- entry k behind the 92 bits of a notification's head
unfoldable pub entry_in : List ℕ → ℕ → Entry
entry_in s k =
    let at = 92 + 34 * k in
    record { period = field_at s at 6; volume = signed_of 27 (field_at s (at + 6) 28) }

unfoldable pub entries_in : List ℕ → ℕ → List Entry
entries_in s count = build 50 (λ (k : ℕ). if k <? count then entry_in s k else no_entry)

unfoldable pub notification_in : List ℕ → Notification
notification_in s =
    let v : ℕ → ℕ = λ k. get_or (read_all s 0 notification_layout) k 0 in
    record { authorisation = v 1; agent = v 2; key = v 3; originator = v 4; reference = v 5; first = v 6; last = v 7; count = v 8; entries = entries_in s (v 8) }

unfoldable pub nullification_in : List ℕ → Nullification
nullification_in s =
    let v : ℕ → ℕ = λ k. get_or (read_all s 0 nullification_layout) k 0 in
    record { account = v 1; other = v 2; first = v 3 }

unfoldable pub message_in : List ℕ → Message
message_in s =
    if kind_in s =? 1 then record { kind = 1; notification = notification_in s; nullification = no_nullification }
    else if kind_in s =? 2 then record { kind = 2; notification = no_notification; nullification = nullification_in s }
    else no_message
