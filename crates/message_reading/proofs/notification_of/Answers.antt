-- The head and the entries that it counts; of another kind there are none, and the head is zero too.
use mathlib.Core.List.{List}
use mathlib.Core.Path.{◌≡◌, ◌∙◌}
use Prim.Native.Nat.{ℕ, min}
use native.Mathlib.Omega.{arith}
use borrow.Author.Tests.{ne_eqb}
use Rattle.std.specs.Prelude.{if◌then◌else◌}
use Rattle.words.specs.Tests.{◌=?◌}
use Rattle.words.specs.Fields.{field_at}
use Rattle.laws.proofs.Builds.{filled, filled_none, filled_more, filled-capped}
use Rattle.laws.proofs.Cases.{by-eq}
use Rattle.messages.specs.Structs.{no_entry, no_notification}
use Rattle.messages.specs.declared.Entry.{Entry}
use Rattle.messages.specs.declared.Notification.{Notification}
use Rattle.message_reading.specs.Parts.{entry_in, entries_in, notification_in}
use Rattle.message_reading.proofs.notification_of.Goals as goal
use Rattle.message_reading.proofs.notification_of.Goals.{After-entries_inside-k-end}

module _ (s : List ℕ) (kind : ℕ) where
  -- a field of a notification; of another kind none
  abbrev field : ℕ → ℕ → ℕ
  field p w = if kind =? 1 then field_at s p w else 0

  -- such a head and entries make the notification
  abbrev made : List Entry → Notification
  made es =
      record { authorisation = field 2 6; agent = field 8 8; key = field 16 16; originator = field 32 6; reference = field 38 16; first = field 54 16; last = field 70 16; count = field 86 6; entries = es }

  entries-made : filled 50 (entry_in s) no_entry (min (field_at s 86 6) 50) ≡ entries_in s (field_at s 86 6)
  unfolding entries_in filled
  entries-made = filled-capped 50 (entry_in s) no_entry (field_at s 86 6)

  notification-made : made (filled 50 (entry_in s) no_entry (min (field 86 6) 50)) ≡ (if kind =? 1 then notification_in s else no_notification)
  unfolding notification_in
  notification-made =
      by-eq kind 1
      (λ is. rw (is, entries-made))
      (λ n. rw (ne_eqb kind 1 n, ← filled_none 50 (entry_in s) no_entry))

pub loop-k-init : goal.loop-k-init
loop-k-init c = filled_none 50 (entry_in c.args.bytes.now) no_entry

-- as many entries as the head says, at most 50
most-is : (c : After-entries_inside-k-end) → c.entries_inside-k-end.result ≡ min (field c.args.bytes.now c.args.kind 86 6) 50
most-is c = c.entries_inside-k-end.ensures ∙ rw c.field_in-count.ensures.0

pub loop-k-preserved : goal.loop-k-preserved
loop-k-preserved c =
    let s = c.args.bytes.now in
    let l = c.loop-k in
    rw (c.entry_in.ensures, l.invariant) (filled_more 50 (entry_in s) no_entry l.k (omega (arith, most-is (goal.at.loop-k-preserved c).After-entries_inside-k-end)))

pub returns : goal.returns
returns c =
    let s = c.args.bytes.now in
    let kind = c.args.kind in
    let l = c.loop-k in
    let all : l.k ≡ min (field s kind 86 6) 50 = omega (arith, most-is (goal.at.returns c).After-entries_inside-k-end) in
    rw (
      c.field_in.ensures.0,
      c.field_in-2.ensures.0,
      c.field_in-3.ensures.0,
      c.field_in-4.ensures.0,
      c.field_in-5.ensures.0,
      c.field_in-6.ensures.0,
      c.field_in-7.ensures.0,
      c.field_in-count.ensures.0,
      l.invariant,
      all,
    )
    (notification-made s kind)
