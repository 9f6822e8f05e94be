-- Where bytes are refused, every field of them is zero; where they are not, the field is one of the part that their kind has. Below the count an entry is
-- the one in the bytes, and past it zero.
use mathlib.Core.List.{List}
use mathlib.Core.Logic.{◌≢◌}
use mathlib.Core.Path.{◌≡◌}
use Prim.Native.Nat.{ℕ, ◌<◌}
use native.Mathlib.Omega.{arith}
use lib.IntN.{pos}
use lib.ListN.{get_or}
use borrow.Author.Tests.{ne_eqb}
use Rattle.std.specs.Prelude.{if◌then◌else◌}
use Rattle.words.specs.Tests.{◌<?◌, ◌=?◌}
use Rattle.words.specs.Rules.{answer}
use Rattle.words.specs.Fields.{field_at}
use Rattle.laws.proofs.Builds.{get_or-build}
use Rattle.laws.proofs.Cases.{by-eq}
use Rattle.meaning.specs.PackedMessages.{kind_in, reading_rules, read_message}
use Rattle.meaning.proofs.PackedMessageRules.{readable, reading-done}
use Rattle.messages.specs.Structs.{no_entry}
use Rattle.message_reading.specs.Parts.{entry_in, entries_in, notification_in, nullification_in, message_in}
use Rattle.message_reading.proofs.ReadParts.{message-parts}
use Rattle.message_fields.specs.Questions.{notification_field, nullification_field, message_field, field_in}

module _ (s : List ℕ) (field : ℕ) where
  pub refused-field : answer (reading_rules s) ≢ 0 → field_in (read_message s).read field ≡ pos 0
  unfolding read_message message_field
  refused-field n = rw (ne_eqb (answer (reading_rules s)) 0 n) (by-eq field 0 (λ e. rw e) (λ o. rw (ne_eqb field 0 o)))

  pub field-by-kind : answer (reading_rules s) ≡ 0
      → field_in (read_message s).read field
      ≡ (if field =? 0 then pos (kind_in s)
      else if kind_in s =? 1 then notification_field (notification_in s) field
      else if kind_in s =? 2 then nullification_field (nullification_in s) field
      else pos 0)
  unfolding message_field message_in
  field-by-kind z =
      let below = (readable s z).kind in
      rw (reading-done s z, ← message-parts s below)
      (by-eq (kind_in s) 1
      (λ e. rw e)
      (λ n. by-eq (kind_in s) 2 (λ e. rw e) (λ o. let none : kind_in s ≡ 0 = omega arith in rw none)))

pub entry_at : (s : List ℕ) (k : ℕ) → k < 50 → get_or (notification_in s).entries k no_entry ≡ (if k <? field_at s 86 6 then entry_in s k else no_entry)
unfolding notification_in entries_in
entry_at s k h = get_or-build 50 (λ (j : ℕ). if j <? field_at s 86 6 then entry_in s j else no_entry) no_entry k h
