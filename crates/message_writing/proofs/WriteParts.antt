-- Writing a message, part by part: what its functions compute is what meaning says of the message that the struct holds.
use mathlib.Core.Bool.{Bool, true, false, not, ◌&&◌, ◌||◌, true≢false}
use mathlib.Core.List.{List, [], ◌∷◌, ◌++◌}
use mathlib.Core.Logic.{◌≢◌}
use mathlib.Core.Path.{◌≡◌, refl, sym, ap, ap₂, ◌∙◌}
use Prim.Native.Nat.{ℕ, zero, suc, ◌+◌, ◌-◌, ◌*◌, ◌≤◌, ◌<◌, min}
use native.Mathlib.Nat.{zero-add}
use native.Mathlib.Numerals.{add-one}
use native.Mathlib.Omega.{arith}
use lib.Arith.{digits_div, digits_mod}
use lib.IntN.{ℤ}
use lib.ListN.{length, get_or}
use borrow.Author.Tests.{lt-ltb, le-ltb, le-leb, lt-leb, leb-true, eqb-false, ne_eqb, not-false}
use Rattle.words.specs.Tests.{◌<?◌, ◌≤?◌}
use Rattle.words.specs.Below.{every_below}
use Rattle.words.specs.Lists.{every, build}
use Rattle.words.specs.Rules.{answer}
use Rattle.words.specs.Fields.{set_field, total, times, write_all, padding, bytes_for, fit, fits_signed, bits_of}
use Rattle.laws.proofs.Cases.{by-lt, by-eq, and_left, and_right, and-false}
use Rattle.laws.proofs.Builds.{length-build}
use Rattle.laws.proofs.Fields.{set-field-length}
use Rattle.laws.proofs.FieldLoops.{write-times-more}
use Rattle.laws.proofs.Layouts.{write-append, write-length, fit_length}
use Rattle.laws.proofs.Rules.{met_at, answer-none}
use Rattle.laws.proofs.Signed.{bits-lt, fits-mag}
use Rattle.laws.proofs.Below.{every-at}
use Rattle.laws.proofs.Builds.{every-build, build-more}
use Rattle.meaning.specs.Ledgers.{contracts, originator_of, reference_of}
use Rattle.meaning.specs.Messages as Meaning
use Rattle.meaning.specs.Messages.{notification, nullification}
use Rattle.meaning.specs.PackedMessages as Packed
use Rattle.meaning.specs.PackedMessages.{gate, message, other_kind, notification_layout, nullification_layout, entry_layout, layout_for, entry_values, values_of, kind_of, layout_of, value_wrong, writing_rules, packed_into}
use Rattle.meaning.proofs.EntryValues.{signed_in28, values-append, values_length}
use Rattle.fields.specs.Narrow.{volume_bits}
use Rattle.messages.specs.Structs.{no_entry, entry_of, entries_of, notification_of, nullification_of, message_of}
use Rattle.message_writing.specs.Writing.{entry_fits, entries_fit, notification_fits, nullification_fits, message_fits, count_of, entries_into, entries_written, notification_written, nullification_written, fields_written, message_into}
use Rattle.messages.specs.declared.Entry.{Entry}
use Rattle.messages.specs.declared.Notification.{Notification}
use Rattle.messages.specs.declared.Message.{Message}

-- ---- the entries behind the head, one by one

module _ (n : Notification) (out : List ℕ) where
  pub into-none : entries_into n out 0 ≡ out
  unfolding entries_into
  into-none = refl

  pub into_more : (k : ℕ) → entries_into n out (k + 1)
      ≡ write_all (entries_into n out k) (92 + 34 * k) entry_layout ((get_or n.entries k no_entry).period ∷ volume_bits (get_or n.entries k no_entry).volume ∷ [])
  unfolding entries_into
  into_more k = rw add-one

  pub into-length : (k : ℕ) → length (entries_into n out k) ≡ length out
  unfolding entries_into
  into-length zero = refl
  into-length (suc k) =
      let e = get_or n.entries k no_entry in
      write-length (entries_into n out k) (92 + 34 * k) entry_layout (e.period ∷ volume_bits e.volume ∷ []) ∙ into-length k

-- ---- the values of the head

abbrev pub head_of : Notification → List ℕ
head_of n = 1 ∷ n.authorisation ∷ n.agent ∷ n.key ∷ n.originator ∷ n.reference ∷ n.first ∷ n.last ∷ n.count ∷ []

pub fields-length : (m : Message) (out : List ℕ) → length (fields_written m out) ≡ length out
unfolding fields_written notification_written entries_written nullification_written
fields-length m out =
    by-eq m.kind 1
    (λ e.
    rw e
    (into-length m.notification (write_all out 0 notification_layout (head_of m.notification)) (min m.notification.count 50)
    ∙ write-length out 0 notification_layout (head_of m.notification)))
    (λ n.
    rw (ne_eqb m.kind 1 n)
    (by-eq m.kind 2
    (λ e. rw e (write-length out 0 nullification_layout (2 ∷ m.nullification.account ∷ m.nullification.other ∷ m.nullification.first ∷ [])))
    (λ o. rw (ne_eqb m.kind 2 o) (set-field-length out 0 2 0))))

-- ---- what a struct holds by its types, as far as the fields of a message are as wide

pub record Held (m : Message) : Type 0 where
  pub agent : m.notification.agent < 256
  pub key : m.notification.key < 65536
  pub reference : m.notification.reference < 65536
  pub first : m.notification.first < 65536
  pub last : m.notification.last < 65536
  pub from : m.nullification.first < 65536

-- ---- the message that a struct holds, by its kind

entries-count : (count : ℕ) (es : List Entry) → length (entries_of count es) ≡ count
unfolding entries_of
entries-count count es = length-build count (λ (k : ℕ). entry_of (get_or es k no_entry))

module _ (m : Message) where
  message-0 : m.kind ≡ 0 → message_of m ≡ gate
  unfolding message_of
  message-0 e = rw e

  message-1 : m.kind ≡ 1 → message_of m ≡ message (notification (notification_of m.notification))
  unfolding message_of
  message-1 e = rw e

  message-2 : m.kind ≡ 2 → message_of m ≡ message (nullification (nullification_of m.nullification))
  unfolding message_of
  message-2 e = rw e

  message-other : m.kind ≢ 0 → m.kind ≢ 1 → m.kind ≢ 2 → message_of m ≡ other_kind (m.kind - 3)
  unfolding message_of
  message-other a b c = rw (ne_eqb m.kind 0 a, ne_eqb m.kind 1 b, ne_eqb m.kind 2 c)

  -- in each of the four cases
  by_kind : {P : Type 0} → (m.kind ≡ 0 → P) → (m.kind ≡ 1 → P) → (m.kind ≡ 2 → P) → (m.kind ≢ 0 → m.kind ≢ 1 → m.kind ≢ 2 → P) → P
  by_kind f g h o = by-eq m.kind 0 f (λ a. by-eq m.kind 1 g (λ b. by-eq m.kind 2 h (o a b)))

  pub kind-held : kind_of (message_of m) ≡ m.kind
  kind-held =
      by_kind
      (λ e. ap kind_of (message-0 e) ∙ sym e)
      (λ e. ap kind_of (message-1 e) ∙ sym e)
      (λ e. ap kind_of (message-2 e) ∙ sym e)
      (λ a b c. ap kind_of (message-other a b c) ∙ omega arith)

  count_held : length (Packed.entries_of (message_of m)) ≡ count_of m
  unfolding count_of notification_of
  count_held =
      by_kind
      (λ e. ap (λ (x : Packed.Packed). length (Packed.entries_of x)) (message-0 e) ∙ rw e)
      (λ e. ap (λ (x : Packed.Packed). length (Packed.entries_of x)) (message-1 e) ∙ rw e (entries-count m.notification.count m.notification.entries))
      (λ e. ap (λ (x : Packed.Packed). length (Packed.entries_of x)) (message-2 e) ∙ rw e)
      (λ a b c. ap (λ (x : Packed.Packed). length (Packed.entries_of x)) (message-other a b c) ∙ rw (ne_eqb m.kind 1 b))

  pub layout-held : layout_of (message_of m) ≡ layout_for m.kind (count_of m)
  unfolding layout_of
  layout-held = ap₂ layout_for kind-held count_held

-- ---- a message fits its fields

-- the fields of entries and their signs, as one test of each
abbrev fitting : Meaning.Entry contracts → Bool
fitting e = e.period <? 64 && fits_signed 27 e.volume

one_entry : (p b f s t : Bool) → (s ≡ true → b ≡ true) → p && (b && f) && (s && t) ≡ p && s && (f && t)
one_entry false b f s t h = refl
one_entry true b f true t h = rw (h refl)
one_entry true b f false t h = and-false (b && f)

fitting-all : (es : List (Meaning.Entry contracts)) → fit (times (length es) entry_layout) (entry_values es) && every signed_in28 es ≡ every fitting es
unfolding entry_values every
fitting-all [] = refl
fitting-all (e ∷ es) =
    let z : ℤ = e.volume in
    one_entry (e.period <? 64) (bits_of 27 z <? 268435456) (fit (times (length es) entry_layout) (entry_values es)) (fits_signed 27 z) (every signed_in28 es)
    (λ s. lt-ltb (bits_of 27 z) 268435456 (bits-lt 27 z (fits-mag 27 z s)))
    ∙ ap (λ (t : Bool). fitting e && t) (fitting-all es)

entries-fitting : (count : ℕ) (es : List Entry)
    → fit (times count entry_layout) (entry_values (entries_of count es)) && every signed_in28 (entries_of count es)
    ≡ every_below count (λ (k : ℕ). entry_fits (get_or es k no_entry))
unfolding entries_of entry_fits
entries-fitting count es =
    let held : List (Meaning.Entry contracts) = build count (λ (k : ℕ). entry_of (get_or es k no_entry)) in
    let l : length held ≡ count = length-build count (λ (k : ℕ). entry_of (get_or es k no_entry)) in
    ap (λ (n : ℕ). fit (times n entry_layout) (entry_values held) && every signed_in28 held) (sym l)
    ∙ fitting-all held
    ∙ every-build fitting count (λ (k : ℕ). entry_of (get_or es k no_entry))

-- wrong by its fields or its signs, and not right in all
not-all : (a b f s : Bool) → not (a && (b && f)) || not s ≡ not (a && b && (f && s))
not-all false b f s = refl
not-all true false f s = refl
not-all true true false s = refl
not-all true true true s = refl

not-two : (a b : Bool) → not (a && (b && true)) || false ≡ not (a && b)
not-two false b = refl
not-two true false = refl
not-two true true = refl

not-many : (a b : Bool) → true ≡ not (a && b && false)
not-many a b = rw (and-false (a && b))

pub values-1 : (n : Notification) → n.reference < 65536 → values_of (message (notification (notification_of n))) ≡ head_of n ++ entry_values (entries_of n.count n.entries)
unfolding values_of notification_of originator_of reference_of entries_of
values-1 n r =
    rw (
      digits_div n.originator r,
      digits_mod n.originator r,
      length-build n.count (λ (k : ℕ). entry_of (get_or n.entries k no_entry)),
    )

pub layout-1 : (n : Notification) → layout_of (message (notification (notification_of n))) ≡ notification_layout ++ times n.count entry_layout
unfolding layout_of layout_for notification_of entries_of
layout-1 n = rw (length-build n.count (λ (k : ℕ). entry_of (get_or n.entries k no_entry)))

entries-1 : (n : Notification) → Packed.entries_of (message (notification (notification_of n))) ≡ entries_of n.count n.entries
unfolding notification_of
entries-1 n = refl

wrong-0 : value_wrong gate ≡ false
unfolding value_wrong layout_of layout_for values_of every
wrong-0 = refl

wrong-other : (k : ℕ) → k ≢ 0 → value_wrong (other_kind k) ≡ true
unfolding value_wrong layout_of layout_for values_of every
wrong-other k n = rw (ne_eqb (3 + k) 1 (omega arith), ne_eqb (3 + k) 2 (omega arith), le-ltb (3 + k) 4 (omega arith))

module _ (m : Message) (h : Held m) where
  abbrev n : Notification
  n = m.notification

  fit-1 : n.count ≤ 50 → fit (layout_of (message (notification (notification_of n)))) (values_of (message (notification (notification_of n))))
      ≡ (n.authorisation <? 64 && (n.originator <? 64 && fit (times n.count entry_layout) (entry_values (entries_of n.count n.entries))))
  fit-1 l =
      ap₂ fit (layout-1 n) (values-1 n h.reference)
      ∙ rw (
        lt-ltb n.agent 256 h.agent,
        lt-ltb n.key 65536 h.key,
        lt-ltb n.reference 65536 h.reference,
        lt-ltb n.first 65536 h.first,
        lt-ltb n.last 65536 h.last,
        lt-ltb n.count 64 (omega arith),
      )

  wrong-1 : value_wrong (message (notification (notification_of n))) ≡ not (notification_fits n)
  unfolding value_wrong notification_fits entries_fit
  wrong-1 =
      let a = n.authorisation <? 64 in
      let b = n.originator <? 64 in
      let es = entries_of n.count n.entries in
      by-lt 50 n.count
      (λ l. rw (entries-1 n, entries-count n.count n.entries, lt-ltb 50 n.count l, lt-leb n.count 50 l) (not-many a b))
      (λ l.
      rw (fit-1 l, entries-1 n, entries-count n.count n.entries, le-ltb 50 n.count l, le-leb n.count 50 l)
      (not-all a b (fit (times n.count entry_layout) (entry_values es)) (every signed_in28 es)
      ∙ ap (λ (t : Bool). not (a && b && t)) (entries-fitting n.count n.entries)))

  wrong-2 : value_wrong (message (nullification (nullification_of m.nullification))) ≡ not (nullification_fits m.nullification)
  unfolding value_wrong nullification_fits layout_of layout_for values_of every
  wrong-2 =
      rw (lt-ltb m.nullification.first 65536 h.from) (not-two (m.nullification.account <? 64) (m.nullification.other <? 64))

  -- THE LAW of 23
  pub wrong-held : m.kind ≢ 3 → value_wrong (message_of m) ≡ not (message_fits m)
  unfolding message_fits
  wrong-held k =
      by_kind m
      (λ e. ap value_wrong (message-0 m e) ∙ wrong-0 ∙ rw e)
      (λ e. ap value_wrong (message-1 m e) ∙ wrong-1 ∙ rw e)
      (λ e. ap value_wrong (message-2 m e) ∙ wrong-2 ∙ rw e)
      (λ a b c.
      ap value_wrong (message-other m a b c)
      ∙ wrong-other (m.kind - 3) (omega arith)
      ∙ rw (ne_eqb m.kind 0 a, ne_eqb m.kind 1 b, ne_eqb m.kind 2 c))

-- ---- the answers of the writing rules, by the code's own tests

module _ (m : Message) (room : ℕ) where
  pub refused-20 : m.kind ≡ 3 → answer (writing_rules (message_of m) room) ≡ 20
  unfolding answer writing_rules
  refused-20 e = rw (kind-held m ∙ e)

  module _ (h : Held m) (k : m.kind ≢ 3) where
    pub refused-23 : message_fits m ≡ false → answer (writing_rules (message_of m) room) ≡ 23
    unfolding answer writing_rules
    refused-23 f = rw (kind-held m, ne_eqb m.kind 3 k, wrong-held m h k, f)

    pub refused-24 : message_fits m ≡ true → room < bytes_for (layout_for m.kind (count_of m)) → answer (writing_rules (message_of m) room) ≡ 24
    unfolding answer writing_rules
    refused-24 f r =
        rw (kind-held m, ne_eqb m.kind 3 k, wrong-held m h k, f, layout-held m, lt-ltb room (bytes_for (layout_for m.kind (count_of m))) r)

    pub refused_none : message_fits m ≡ true → bytes_for (layout_for m.kind (count_of m)) ≤ room → answer (writing_rules (message_of m) room) ≡ 0
    unfolding answer writing_rules
    refused_none f r =
        rw (kind-held m, ne_eqb m.kind 3 k, wrong-held m h k, f, layout-held m, le-ltb room (bytes_for (layout_for m.kind (count_of m))) r)

-- ---- THE WRITING: what the parts write is what meaning packs

pub packed-fields : (out ws vs : List ℕ) → length ws ≡ length vs → packed_into out ws vs ≡ set_field (write_all out 0 ws vs) (total ws) (padding ws) 0
unfolding packed_into
packed-fields out ws vs l =
    write-append out 0 ws vs (padding ws ∷ []) (0 ∷ []) l
    ∙ ap (λ (q : ℕ). set_field (write_all out 0 ws vs) q (padding ws) 0) (zero-add (total ws))

entries-more : (k : ℕ) (es : List Entry)
    → entry_values (entries_of (suc k) es) ≡ entry_values (entries_of k es) ++ ((get_or es k no_entry).period ∷ bits_of 27 (get_or es k no_entry).volume ∷ [])
unfolding entries_of entry_values
entries-more k es =
    let f : ℕ → Meaning.Entry contracts = λ j. entry_of (get_or es j no_entry) in
    ap entry_values (build-more k f) ∙ values-append (build k f) (f k ∷ [])

volume-bits : (z : ℤ) → fits_signed 27 z ≡ true → volume_bits z ≡ bits_of 27 z
unfolding volume_bits
volume-bits z f = rw f

-- the entries one by one are the entries at once
entries-written : (n : Notification) (out : List ℕ) (k : ℕ) → ((j : ℕ) → j < k → fits_signed 27 (get_or n.entries j no_entry).volume ≡ true)
    → entries_into n out k ≡ write_all out 92 (times k entry_layout) (entry_values (entries_of k n.entries))
unfolding entries_into
entries-written n out zero f = refl
entries-written n out (suc k) f =
    let e = get_or n.entries k no_entry in
    let vs : List ℕ = entry_values (entries_of k n.entries) in
    let xs : List ℕ = e.period ∷ bits_of 27 e.volume ∷ [] in
    let p : 92 + 34 * k ≡ 92 + k * 34 = omega arith in
    let l : length vs ≡ k * 2 = values_length (entries_of k n.entries) ∙ ap (λ (j : ℕ). j * 2) (entries-count k n.entries) in
    let before : entries_into n out k ≡ write_all out 92 (times k entry_layout) vs = entries-written n out k (λ j h. f j (omega arith)) in
    rw (volume-bits e.volume (f k (omega arith)), before, p)
    (sym (write-times-more out 92 k entry_layout vs xs l)
    ∙ ap (λ (j : ℕ). write_all out 92 (times j entry_layout) (vs ++ xs)) (add-one k)
    ∙ ap (write_all out 92 (times (suc k) entry_layout)) (sym (entries-more k n.entries)))

notification-written : (n : Notification) (out : List ℕ) → notification_fits n ≡ true
    → notification_written n out ≡ write_all out 0 (notification_layout ++ times n.count entry_layout) (head_of n ++ entry_values (entries_of n.count n.entries))
unfolding notification_written entries_written notification_fits entries_fit entry_fits
notification-written n out f =
    let fits : ℕ → Bool = λ k. entry_fits (get_or n.entries k no_entry) in
    let e : (n.count ≤? 50 && every_below n.count fits) ≡ true =
    and_right (n.authorisation <? 64 && n.originator <? 64) (n.count ≤? 50 && every_below n.count fits) f in
    let l : n.count ≤ 50 = leb-true n.count 50 (and_left (n.count ≤? 50) (every_below n.count fits) e) in
    let all : every_below n.count fits ≡ true = and_right (n.count ≤? 50) (every_below n.count fits) e in
    let q : min n.count 50 ≡ n.count = omega arith in
    rw q
    (entries-written n (write_all out 0 notification_layout (head_of n)) n.count
    (λ j h. and_right ((get_or n.entries j no_entry).period <? 64) (fits_signed 27 (get_or n.entries j no_entry).volume) (every-at n.count fits all j h))
    ∙ sym (write-append out 0 notification_layout (head_of n) (times n.count entry_layout) (entry_values (entries_of n.count n.entries)) refl))

module _ (m : Message) (h : Held m) (f : message_fits m ≡ true) (out : List ℕ) where
  abbrev Fields : Packed.Packed → Type 0
  Fields x = fields_written m out ≡ write_all out 0 (layout_of x) (values_of x)

  fields-0 : m.kind ≡ 0 → Fields gate
  unfolding fields_written layout_of layout_for values_of
  fields-0 e = rw e

  fields-2 : m.kind ≡ 2 → Fields (message (nullification (nullification_of m.nullification)))
  unfolding fields_written nullification_written layout_of layout_for values_of
  fields-2 e = rw e

  fields-held : Fields (message_of m)
  unfolding fields_written message_fits
  fields-held =
      by_kind m
      (λ e. rw (message-0 m e) (fields-0 e))
      (λ e. rw (message-1 m e, e, layout-1 m.notification, values-1 m.notification h.reference) (notification-written m.notification out (rw e at f)))
      (λ e. rw (message-2 m e) (fields-2 e))
      (λ a b c. absurd (true≢false (sym (rw (ne_eqb m.kind 0 a, ne_eqb m.kind 1 b, ne_eqb m.kind 2 c) at f))))

  -- THE LAW of what is written
  pub message-into : fit (layout_of (message_of m)) (values_of (message_of m)) ≡ true
      → message_into m out ≡ packed_into out (layout_of (message_of m)) (values_of (message_of m))
  unfolding message_into
  message-into e =
      rw (fields-held, ← layout-held m)
      (sym (packed-fields out (layout_of (message_of m)) (values_of (message_of m)) (fit_length (layout_of (message_of m)) (values_of (message_of m)) e)))

-- a message that no rule refuses fits
pub done-fits : (m : Message) → Held m → (room : ℕ) → answer (writing_rules (message_of m) room) ≡ 0 → message_fits m ≡ true
unfolding writing_rules
done-fits m h room e =
    let met : (k : ℕ) → met_at (writing_rules (message_of m) room) k ≡ false = answer-none (writing_rules (message_of m) room) refl e in
    let k : m.kind ≢ 3 = λ q. eqb-false (kind_of (message_of m)) 3 (met 0) (kind-held m ∙ q) in
    not-false (message_fits m) (sym (wrong-held m h k) ∙ met 1)
