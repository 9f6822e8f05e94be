-- Document 01, "Packed messages": the layouts of messages, reading and writing.
use Rattle.std.specs.Prelude.{Bool, not, ◌||◌, List, [], ◌∷◌, ◌++◌, ℕ, ◌+◌, ◌-◌, length, get_or, drop, if◌then◌else◌}
use Rattle.words.specs.Tests.{◌<?◌, ◌=?◌}
use Rattle.words.specs.Lists.{every}
use Rattle.words.specs.Rules.{Rule, ◌when◌else◌, done, answer}
use Rattle.words.specs.Fields.{field_at, total, times, read_all, write_all, fit, bytes_for, padding, fits_signed, signed_of, bits_of}
use Rattle.meaning.specs.Ledgers.{contracts, identifier_of, originator_of, reference_of}
use Rattle.meaning.specs.Messages.{Entry, Notification, Message, notification, nullification}

-- A message as it is packed. A reader gives the first three; a writer may be handed another kind: `other_kind k` is of kind 3 + k.
pub data Packed : Type 0 where
  gate : Packed
  message : Message contracts → Packed
  other_kind : ℕ → Packed

-- ---- the layouts

-- "kind 1 (2), authorisation 6, agent 8, key 16, originator 6, reference 16, first day 16, last day 16, count 6"
abbrev pub notification_layout : List ℕ
notification_layout = 2 ∷ 6 ∷ 8 ∷ 16 ∷ 6 ∷ 16 ∷ 16 ∷ 16 ∷ 6 ∷ []

-- "then per entry period 6, volume 28 in two's complement"
abbrev pub entry_layout : List ℕ
entry_layout = 6 ∷ 28 ∷ []

-- "kind 2 (2), account 6, account 6, first day 16"
abbrev pub nullification_layout : List ℕ
nullification_layout = 2 ∷ 6 ∷ 6 ∷ 16 ∷ []

-- "Gate: kind 0 (2 bits)." A message of a kind and of a count of entries:
unfoldable pub layout_for : ℕ → ℕ → List ℕ
layout_for kind count =
    if kind =? 1 then notification_layout ++ times count entry_layout else if kind =? 2 then nullification_layout else 2 ∷ []

-- ---- a message as the values of its fields, and back

unfoldable pub entry_values : List (Entry contracts) → List ℕ
entry_values [] = []
entry_values (e ∷ es) = e.period ∷ bits_of 27 e.volume ∷ entry_values es

unfoldable pub entries_from : List ℕ → List (Entry contracts)
entries_from [] = []
entries_from (p ∷ []) = []
entries_from (p ∷ (v ∷ vs)) = record { period = p; volume = signed_of 27 v } ∷ entries_from vs

unfoldable pub values_of : Packed → List ℕ
values_of gate = 0 ∷ []
values_of (message (notification n)) =
    1 ∷ n.authorisation ∷ n.agent ∷ n.key ∷ originator_of n.identifier ∷ reference_of n.identifier ∷ n.first ∷ n.last
    ∷ length n.entries ∷ entry_values n.entries
values_of (message (nullification x)) = 2 ∷ x.account ∷ x.other ∷ x.first ∷ []
values_of (other_kind k) = (3 + k) ∷ []

unfoldable pub notification_from : List ℕ → Notification contracts
notification_from vs =
    let i = identifier_of (get_or vs 4 0) (get_or vs 5 0) in
    let es = entries_from (drop 9 vs) in
    record { authorisation = get_or vs 1 0; agent = get_or vs 2 0; key = get_or vs 3 0; identifier = i; first = get_or vs 6 0; last = get_or vs 7 0; entries = es }

unfoldable pub message_from : List ℕ → Packed
message_from vs =
    if get_or vs 0 0 =? 0 then gate
    else if get_or vs 0 0 =? 1 then message (notification (notification_from vs))
    else if get_or vs 0 0 =? 2 then message (nullification (record { account = get_or vs 1 0; other = get_or vs 2 0; first = get_or vs 3 0 }))
    else other_kind (get_or vs 0 0 - 3)

-- ---- reading

abbrev pub kind_in : List ℕ → ℕ
kind_in bytes = field_at bytes 0 2

-- the count of entries, none but in a notification
unfoldable pub count_in : List ℕ → ℕ
count_in bytes = if kind_in bytes =? 1 then get_or (read_all bytes 0 notification_layout) 8 0 else 0

unfoldable pub layout_in : List ℕ → List ℕ
layout_in bytes = layout_for (kind_in bytes) (count_in bytes)

-- "Message order: empty 19, 20, short of the 12 or 4 bytes 19, 21, short of the whole 19, 22."
unfoldable pub reading_rules : List ℕ → List Rule
reading_rules bytes =
    19 when length bytes =? 0 else
    20 when kind_in bytes =? 3 else
    19 when length bytes <? bytes_for (layout_for (kind_in bytes) 0) else
    21 when 50 <? count_in bytes else
    19 when length bytes <? bytes_for (layout_in bytes) else
    22 when not (field_at bytes (total (layout_in bytes)) (padding (layout_in bytes)) =? 0) else
    done

-- what a reader gives: with a refusal no length, and the message whose every field is zero
pub record Reading (A : Type 0) : Type 0 where
  pub answer : ℕ
  pub length : ℕ
  pub read : A

unfoldable pub read_message : List ℕ → Reading Packed
read_message bytes =
    let number = answer (reading_rules bytes) in
    if number =? 0
    then record { answer = 0; length = bytes_for (layout_in bytes); read = message_from (read_all bytes 0 (layout_in bytes)) }
    else record { answer = number; length = 0; read = gate }

-- ---- writing

abbrev pub kind_of : Packed → ℕ
kind_of gate = 0
kind_of (message (notification n)) = 1
kind_of (message (nullification x)) = 2
kind_of (other_kind k) = 3 + k

abbrev pub entries_of : Packed → List (Entry contracts)
entries_of gate = []
entries_of (message (notification n)) = n.entries
entries_of (message (nullification x)) = []
entries_of (other_kind k) = []

unfoldable pub layout_of : Packed → List ℕ
layout_of m = layout_for (kind_of m) (length (entries_of m))

-- 23: "a value does not fit its field, or more than 50 entries to write"
unfoldable pub value_wrong : Packed → Bool
value_wrong m =
    50 <? length (entries_of m)
    || not (fit (layout_of m) (values_of m))
    || not (every (λ (e : Entry contracts). fits_signed 27 e.volume) (entries_of m))

-- "a message of kind 3 gives 20 first .. after these 23, then 24"
unfoldable pub writing_rules : Packed → ℕ → List Rule
writing_rules m room =
    20 when kind_of m =? 3 else
    23 when value_wrong m else
    24 when room <? bytes_for (layout_of m) else
    done

-- the fields of a layout and "zero bits fill the last byte"; "bytes past what is written stay"
unfoldable pub packed_into : List ℕ → List ℕ → List ℕ → List ℕ
packed_into out ws vs = write_all out 0 (ws ++ (padding ws ∷ [])) (vs ++ (0 ∷ []))

pub record Written : Type 0 where
  pub answer : ℕ
  pub length : ℕ
  pub out : List ℕ

unfoldable pub write_message : Packed → List ℕ → Written
write_message m out =
    let number = answer (writing_rules m (length out)) in
    if number =? 0
    then record { answer = 0; length = bytes_for (layout_of m); out = packed_into out (layout_of m) (values_of m) }
    else record { answer = number; length = 0; out = out }
