-- A message is the list of the values of its fields: from the values the message, and from the fields that are read their values again.
use mathlib.Core.Bool.{true}
use mathlib.Core.Logic.{◌≢◌}
use mathlib.Core.List.{List, [], ◌∷◌, ◌++◌}
use mathlib.Core.Path.{◌≡◌, refl, sym, ap, ap₂, ◌∙◌}
use Prim.Native.Nat.{ℕ, ◌<◌}
use native.Mathlib.Nat.{div-add-mod'}
use native.Mathlib.Omega.{arith}
use lib.Arith.{digits_div, digits_mod}
use lib.ListN.{length}
use borrow.Author.Tests.{ne_eqb}
use Rattle.words.specs.Lists.{every}
use Rattle.words.specs.Fields.{field_at, times, read_all}
use Rattle.laws.proofs.Cases.{by-eq}
use Rattle.laws.proofs.Fields.{field_lt}
use Rattle.meaning.specs.Ledgers.{contracts, identifier_of, originator_of, reference_of}
use Rattle.meaning.specs.Messages.{Entry, Notification, Nullification, notification, nullification}
use Rattle.meaning.specs.PackedMessages.{Packed, gate, message, other_kind, count_in, layout_for, layout_in, layout_of, entry_layout, entries_of, kind_in, kind_of, message_from, notification_layout, nullification_layout, notification_from, values_of}
use Rattle.meaning.proofs.EntryValues.{signed_in28, entries-again, entries-back, entries-count, entries-signed}

-- ---- identifiers

identifier-back : (i : ℕ) → identifier_of (originator_of i) (reference_of i) ≡ i
unfolding originator_of reference_of
identifier-back i = div-add-mod' i 65536

pub originator-again : (o r : ℕ) → r < 65536 → originator_of (identifier_of o r) ≡ o
unfolding originator_of
originator-again o r h = digits_div o h

pub reference-again : (o r : ℕ) → r < 65536 → reference_of (identifier_of o r) ≡ r
unfolding reference_of
reference-again o r h = digits_mod o h

-- ---- messages

notification-back : (n : Notification contracts) → every signed_in28 n.entries ≡ true → notification_from (values_of (message (notification n))) ≡ n
unfolding notification_from values_of
notification-back n v =
    ap₂ (λ (i : ℕ) (es : List (Entry contracts)).
    record { authorisation = n.authorisation; agent = n.agent; key = n.key; identifier = i; first = n.first; last = n.last; entries = es })
    (identifier-back n.identifier)
    (entries-back n.entries v)

pub message-back : (m : Packed) → kind_of m < 3 → every signed_in28 (entries_of m) ≡ true → message_from (values_of m) ≡ m
unfolding message_from values_of
message-back gate k v = refl
message-back (message (notification n)) k v = ap (λ x. message (notification x)) (notification-back n v)
message-back (message (nullification x)) k v = refl
message-back (other_kind j) k v = absurd (omega arith)

-- bytes that say a message's kind and count have its layout
pub same_layout : (s : List ℕ) (m : Packed) → kind_in s ≡ kind_of m → count_in s ≡ length (entries_of m) → layout_in s ≡ layout_of m
unfolding layout_in layout_of
same_layout s m k c = ap₂ layout_for k c

-- the message from the values vs, of kind k and with n entries: it has them for its values
pub record From (vs : List ℕ) (k n : ℕ) : Type 0 where
  pub values : values_of (message_from vs) ≡ vs
  pub kind : kind_of (message_from vs) ≡ k
  pub count : length (entries_of (message_from vs)) ≡ n
  pub signed : every signed_in28 (entries_of (message_from vs)) ≡ true

module _ (s : List ℕ) where
  from-gate : kind_in s ≡ 0 → From (read_all s 0 (2 ∷ [])) (kind_in s) 0
  unfolding message_from values_of every
  from-gate e =
      let m : message_from (read_all s 0 (2 ∷ [])) ≡ gate = rw e in
      record { values = rw (m, e); kind = ap kind_of m ∙ sym e; count = rw m; signed = rw m }

  from-nullification : kind_in s ≡ 2 → From (read_all s 0 nullification_layout) (kind_in s) 0
  unfolding message_from values_of every
  from-nullification e =
      let x : Nullification = record { account = field_at s 2 6; other = field_at s 8 6; first = field_at s 14 16 } in
      let m : message_from (read_all s 0 nullification_layout) ≡ message (nullification x) = rw e in
      record { values = rw (m, e); kind = ap kind_of m ∙ sym e; count = rw m; signed = rw m }

  from-notification : (n : ℕ) → kind_in s ≡ 1 → field_at s 86 6 ≡ n → From (read_all s 0 (notification_layout ++ times n entry_layout)) (kind_in s) n
  unfolding message_from notification_from values_of
  from-notification n e c =
      let vs : List ℕ = read_all s 0 (notification_layout ++ times n entry_layout) in
      let m : message_from vs ≡ message (notification (notification_from vs)) = rw e in
      let o : originator_of (identifier_of (field_at s 32 6) (field_at s 38 16)) ≡ field_at s 32 6 = originator-again (field_at s 32 6) (field_at s 38 16) (field_lt s 38 16) in
      let r : reference_of (identifier_of (field_at s 32 6) (field_at s 38 16)) ≡ field_at s 38 16 = reference-again (field_at s 32 6) (field_at s 38 16) (field_lt s 38 16) in
      record {
        values = ap values_of m ∙ rw (o, r, entries-count s 92 n, entries-again s 92 n, e, c);
        kind = ap kind_of m ∙ sym e;
        count = ap (λ (x : Packed). length (entries_of x)) m ∙ entries-count s 92 n;
        signed = ap (λ (x : Packed). every signed_in28 (entries_of x)) m ∙ entries-signed s 92 n;
      }

  -- the layout and the count that bytes of each kind say

  pub layout-1 : kind_in s ≡ 1 → layout_in s ≡ notification_layout ++ times (count_in s) entry_layout
  unfolding layout_in layout_for
  layout-1 e = rw e

  pub layout-2 : kind_in s ≡ 2 → layout_in s ≡ nullification_layout
  unfolding layout_in layout_for
  layout-2 e = rw e

  pub layout-other : kind_in s ≢ 1 → kind_in s ≢ 2 → layout_in s ≡ 2 ∷ []
  unfolding layout_in layout_for
  layout-other n o = rw (ne_eqb (kind_in s) 1 n, ne_eqb (kind_in s) 2 o)

  pub count-1 : kind_in s ≡ 1 → count_in s ≡ field_at s 86 6
  unfolding count_in
  count-1 e = rw e

  pub count-other : kind_in s ≢ 1 → count_in s ≡ 0
  unfolding count_in
  count-other n = rw (ne_eqb (kind_in s) 1 n)

  -- the message that stands in the bytes has their fields for its values, and their layout
  abbrev pub message_in : Packed
  message_in = message_from (read_all s 0 (layout_in s))

  abbrev pub Again : Type 0
  Again = From (read_all s 0 (layout_in s)) (kind_in s) (count_in s)

  pub message-again : kind_in s < 3 → Again
  message-again h =
      by-eq (kind_in s) 1 (λ e. rw (layout-1 e) (from-notification (count_in s) e (sym (count-1 e))))
      (λ n.
      by-eq (kind_in s) 2 (λ e. rw (layout-2 e, count-other n) (from-nullification e))
      (λ o. rw (layout-other n o, count-other n) (from-gate (omega arith))))

  pub layout-again : Again → layout_of message_in ≡ layout_in s
  layout-again g = sym (same_layout s message_in (sym g.kind) (sym g.count))
