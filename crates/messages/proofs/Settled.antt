-- A struct by way of what it means, and what meaning has by way of its struct.
use mathlib.Core.List.{List}
use mathlib.Core.Path.{◌≡◌, refl, sym, ap}
use Prim.Native.Nat.{ℕ, ◌+◌, ◌-◌, ◌≤◌, ◌<◌}
use native.Mathlib.Nat.{div-add-mod'}
use native.Mathlib.Omega.{arith}
use lib.ListN.{length, get_or}
use borrow.Author.Tests.{lt-ltb, le-ltb, ne_eqb}
use Rattle.words.specs.Lists.{build}
use Rattle.laws.proofs.Builds.{length-build, get_or-build, get_or-build-past, is-build, build-same}
use Rattle.laws.proofs.Cases.{by-lt, by-eq}
use Rattle.meaning.specs.Ledgers.{contracts, identifier_of, originator_of, reference_of}
use Rattle.meaning.specs.Messages as Meaning
use Rattle.meaning.specs.Messages.{notification, nullification}
use Rattle.meaning.specs.PackedMessages.{Packed, gate, message, other_kind, entries_of}
use Rattle.meaning.proofs.MessageValues as Values
use Rattle.messages.specs.Structs as Structs
use Rattle.messages.specs.Structs.{no_entry, no_entry_meant, entry_of, entry_for, notification_of, notification_for, message_of, message_for, settled_entries, settled_notification, settled}
use Rattle.messages.specs.declared.Notification.{Notification}
use Rattle.messages.specs.declared.Message.{Message}

-- ---- an identifier's two parts, joined again

identifier-again : (i : ℕ) → identifier_of (originator_of i) (reference_of i) ≡ i
unfolding originator_of reference_of
identifier-again i = div-add-mod' i 65536

-- ---- a struct, by way of what it means

entries-settled : (n : Notification) → build 50 (λ (k : ℕ). entry_for (get_or (Structs.entries_of n.count n.entries) k no_entry_meant)) ≡ settled_entries n
unfolding Structs.entries_of settled_entries
entries-settled n =
    build-same 50 _ _
    (λ k h. by-lt k n.count
    (λ l. rw (get_or-build n.count (λ (j : ℕ). entry_of (get_or n.entries j no_entry)) no_entry_meant k l, lt-ltb k n.count l))
    (λ l. rw (get_or-build-past n.count (λ (j : ℕ). entry_of (get_or n.entries j no_entry)) no_entry_meant k l, le-ltb k n.count l)))

length-entries : (n : Notification) → length (Structs.entries_of n.count n.entries) ≡ n.count
unfolding Structs.entries_of
length-entries n = length-build n.count _

notification-settled : (n : Notification) → n.reference < 65536 → notification_for (notification_of n) ≡ settled_notification n
unfolding notification_for notification_of settled_notification
notification-settled n h = rw (Values.originator-again n.originator n.reference h, Values.reference-again n.originator n.reference h, length-entries n, entries-settled n)

pub message-settled : (m : Message) → m.notification.reference < 65536 → message_for (message_of m) ≡ settled m
unfolding message_of settled
message-settled m h =
    by-eq m.kind 0
    (λ e. rw e)
    (λ n0. by-eq m.kind 1
    (λ e. rw e (ap (λ (n : Notification). record { kind = 1; notification = n; nullification = Structs.no_nullification }) (notification-settled m.notification h)))
    (λ n1. by-eq m.kind 2
    (λ e. rw e)
    (λ n2.
    let e : 3 + (m.kind - 3) ≡ m.kind = omega arith in
    rw (ne_eqb m.kind 0 n0, ne_eqb m.kind 1 n1, ne_eqb m.kind 2 n2) (ap (λ (k : ℕ). record { kind = k; notification = Structs.no_notification; nullification = Structs.no_nullification }) e))))

-- ---- what meaning has, by way of its struct

entries-again : (es : List (Meaning.Entry contracts)) → length es ≤ 50
    → Structs.entries_of (length es) (build 50 (λ (k : ℕ). entry_for (get_or es k no_entry_meant))) ≡ es
unfolding Structs.entries_of
entries-again es h =
    sym (is-build (length es) (λ (k : ℕ). entry_of (get_or (build 50 (λ (j : ℕ). entry_for (get_or es j no_entry_meant))) k no_entry)) no_entry_meant es refl
    (λ k l. ap entry_of (sym (get_or-build 50 (λ (j : ℕ). entry_for (get_or es j no_entry_meant)) no_entry k (omega arith)))))

notification-again : (n : Meaning.Notification contracts) → length n.entries ≤ 50 → notification_of (notification_for n) ≡ n
unfolding notification_for notification_of
notification-again n h = rw (identifier-again n.identifier, entries-again n.entries h)

pub message-again : (m : Packed) → length (entries_of m) ≤ 50 → message_of (message_for m) ≡ m
unfolding message_of
message-again gate h = refl
message-again (message (notification n)) h = ap (λ x. message (notification x)) (notification-again n h)
message-again (message (nullification x)) h = refl
message-again (other_kind k) h =
    let e : 3 + k - 3 ≡ k = omega arith in
    rw (ne_eqb (3 + k) 0 (λ q. omega arith), ne_eqb (3 + k) 1 (λ q. omega arith), ne_eqb (3 + k) 2 (λ q. omega arith), e)
