-- A notification whose head is there tells its entries; every other message has none, and its head's bits are all.
use mathlib.Core.Bool.{true, false, ◌&&◌}
use mathlib.Core.List.{List}
use mathlib.Core.Logic.{◌≢◌}
use mathlib.Core.Path.{◌≡◌, sym, ◌∙◌}
use Prim.Native.Nat.{ℕ, ◌≤◌, ◌<◌}
use native.Mathlib.Omega.{arith}
use lib.Dec.{eqb, leb}
use lib.ListN.{length}
use borrow.Author.Tests.{eq-eqb, ne_eqb, eqb-true, lt-ltb, le-ltb, le-leb, leb-true}
use Rattle.std.specs.Prelude.{if◌then◌else◌}
use Rattle.words.specs.Tests.{◌=?◌}
use Rattle.words.specs.Fields.{bytes_for, total}
use Rattle.laws.proofs.Fields.{field_lt}
use Rattle.laws.proofs.Cases.{by-eq, by-lt, and_left, and_right}
use Rattle.meaning.specs.PackedMessages.{kind_in, count_in, layout_for, layout_in}
use Rattle.meaning.proofs.MessageValues.{count-1, count-other}
use Rattle.message_reading.proofs.ReadRefusals.{bits_told, begins}
use Rattle.message_reading.proofs.bits_in.Goals as goal
use Rattle.message_reading.proofs.bits_in.Goals.{After-read_field-count, Then-kind-bytes_for}

module _ (s : List ℕ) where
  abbrev head_bytes : ℕ
  head_bytes = bytes_for (layout_for (kind_in s) 0)

  -- with the head of a notification
  many : head_bytes ≤ length s → 50 < count_in s → 0 ≡ bits_told s
  many l k = rw (le-ltb (length s) head_bytes l, lt-ltb 50 (count_in s) k)

  few : head_bytes ≤ length s → count_in s ≤ 50 → total (layout_in s) ≡ bits_told s
  few l k = rw (le-ltb (length s) head_bytes l, le-ltb 50 (count_in s) k)

  -- without it, or of another kind
  alone : (eqb (kind_in s) 1 && leb (bytes_for (layout_for 1 0)) (length s)) ≡ false → total (layout_for (kind_in s) 0) ≡ bits_told s
  unfolding layout_in
  alone e =
      by-lt (length s) head_bytes
      (λ l. rw (lt-ltb (length s) head_bytes l))
      (λ l.
      by-eq (kind_in s) 1
      (λ k.
      let here : leb (bytes_for (layout_for 1 0)) (length s) ≡ true = le-leb _ _ (rw k at l) in
      let z : ◌≡◌ {A = ℕ} 0 1 = cc (rw (eq-eqb (kind_in s) 1 k, here) at e) in
      absurd (omega arith))
      (λ n. rw (le-ltb (length s) head_bytes l, count-other s n)))

-- the kind is 1, and its head is there
is-notification : (c : Then-kind-bytes_for) → kind_in c.args.bytes.now ≡ 1
is-notification c =
    let a = c.args in
    sym c.requires ∙ eqb-true a.kind 1 (and_left (eqb a.kind 1) (leb c.bytes_for.result (length a.bytes.now)) c.if-kind-bytes_for.true)

has-head : (c : Then-kind-bytes_for) → head_bytes c.args.bytes.now ≤ length c.args.bytes.now
has-head c =
    let a = c.args in
    let inside = leb-true _ _ (and_right (eqb a.kind 1) (leb c.bytes_for.result (length a.bytes.now)) c.if-kind-bytes_for.true) in
    rw (is-notification c, ← c.bytes_for.ensures) inside

-- and it tells the count
count-is : (c : After-read_field-count) → c.read_field-count.result ≡ count_in c.args.bytes.now
count-is c =
    c.read_field-count.ensures ∙ sym (count-1 c.args.bytes.now (is-notification (goal.at.After-read_field-count c).Then-kind-bytes_for))

pub overflow_cast-count : goal.overflow_cast-count
overflow_cast-count c = omega (arith, c.read_field-count.ensures, field_lt c.args.bytes.now 86 6)

-- a number of bits is what the head tells, and with none the message is refused
abbrev Said : List ℕ → ℕ → ℕ → Type 0
Said s number n = (number ≡ (if bits_told s =? 0 then 21 else 0)) × (n ≡ bits_told s)

none_said : (s : List ℕ) → 0 ≡ bits_told s → Said s 21 0
none_said s e = (rw (eq-eqb (bits_told s) 0 (sym e)), e)

some_said : (s : List ℕ) (n : ℕ) → 2 ≤ n → n ≡ bits_told s → Said s 0 n
some_said s n l e =
    let some : bits_told s ≢ 0 = λ z. omega arith in (rw (ne_eqb (bits_told s) 0 some), e)

pub returns-then-count-gt-MOST_ENTRIES : goal.returns-then-count-gt-MOST_ENTRIES
returns-then-count-gt-MOST_ENTRIES c =
    let s = c.args.bytes.now in
    let at = goal.at.returns-then-count-gt-MOST_ENTRIES c in
    none_said s (many s (has-head at.Then-kind-bytes_for) (rw (count-is at.After-read_field-count) at c.if-count-gt-MOST_ENTRIES.true))

pub returns-then-kind-bytes_for : goal.returns-then-kind-bytes_for
unfolding layout_in
returns-then-kind-bytes_for c =
    let s = c.args.bytes.now in
    let at = goal.at.returns-then-kind-bytes_for c in
    let is = count-is at.After-read_field-count in
    let inside = few s (has-head at.Then-kind-bytes_for) (rw is at c.if-count-gt-MOST_ENTRIES.false) in
    some_said s c.bits_for.result (omega (arith, c.bits_for.ensures, begins 1 c.read_field-count.result))
    (c.bits_for.ensures ∙ rw (is, ← is-notification at.Then-kind-bytes_for) inside)

pub returns : goal.returns
returns c =
    let a = c.args in
    some_said a.bytes.now c.bits_for-2.result (omega (arith, c.bits_for-2.ensures, begins a.kind 0))
    (c.bits_for-2.ensures ∙ rw c.requires (alone a.bytes.now (rw (c.requires, c.bytes_for.ensures) at c.if-kind-bytes_for.false)))
