-- What the private functions of writing answer and leave; the public promises do not cite these.
use Rattle.std.specs.Prelude.{Bool, true, false, ◌&&◌, List, [], ◌∷◌, ℕ, zero, suc, ◌+◌, ◌*◌, min, get_or, if◌then◌else◌}
use Rattle.words.specs.Tests.{◌<?◌, ◌≤?◌, ◌=?◌}
use Rattle.words.specs.Below.{every_below}
use Rattle.words.specs.Fields.{set_field, total, write_all, padding, fits_signed}
use Rattle.meaning.specs.PackedMessages.{notification_layout, nullification_layout, entry_layout, layout_for}
use Rattle.fields.specs.Narrow.{volume_bits}
use Rattle.messages.specs.Structs.{no_entry}
use Rattle.messages.specs.declared.Entry.{Entry}
use Rattle.messages.specs.declared.Notification.{Notification}
use Rattle.messages.specs.declared.Nullification.{Nullification}
use Rattle.messages.specs.declared.Message.{Message}

unfoldable pub entry_fits : Entry → Bool
entry_fits e = e.period <? 64 && fits_signed 27 e.volume

unfoldable pub entries_fit : Notification → Bool
entries_fit n = n.count ≤? 50 && every_below n.count (λ (k : ℕ). entry_fits (get_or n.entries k no_entry))

unfoldable pub notification_fits : Notification → Bool
notification_fits n = n.authorisation <? 64 && n.originator <? 64 && entries_fit n

unfoldable pub nullification_fits : Nullification → Bool
nullification_fits x = x.account <? 64 && x.other <? 64

unfoldable pub message_fits : Message → Bool
message_fits m =
    if m.kind =? 0 then true
    else if m.kind =? 1 then notification_fits m.notification
    else if m.kind =? 2 then nullification_fits m.nullification
    else false

unfoldable pub count_of : Message → ℕ
count_of m = if m.kind =? 1 then m.notification.count else 0

-- the first k entries written behind the head
unfoldable pub entries_into : Notification → List ℕ → ℕ → List ℕ
entries_into n out zero = out
entries_into n out (suc k) =
    let e = get_or n.entries k no_entry in
    write_all (entries_into n out k) (92 + 34 * k) entry_layout (e.period ∷ volume_bits e.volume ∷ [])

unfoldable pub entries_written : Notification → List ℕ → List ℕ
entries_written n out = entries_into n out (min n.count 50)

unfoldable pub notification_written : Notification → List ℕ → List ℕ
notification_written n out =
    entries_written n (write_all out 0 notification_layout (1 ∷ n.authorisation ∷ n.agent ∷ n.key ∷ n.originator ∷ n.reference ∷ n.first ∷ n.last ∷ n.count ∷ []))

unfoldable pub nullification_written : Nullification → List ℕ → List ℕ
nullification_written x out = write_all out 0 nullification_layout (2 ∷ x.account ∷ x.other ∷ x.first ∷ [])

unfoldable pub fields_written : Message → List ℕ → List ℕ
fields_written m out =
    if m.kind =? 1 then notification_written m.notification out
    else if m.kind =? 2 then nullification_written m.nullification out
    else set_field out 0 2 0

-- the fields, and zero bits that fill the last byte
unfoldable pub message_into : Message → List ℕ → List ℕ
message_into m out =
    let layout = layout_for m.kind (count_of m) in
    set_field (fields_written m out) (total layout) (padding layout) 0
