-- The rules of reading and of writing a packed message, opened: what holds where none refuses, and that where it holds none does.
use mathlib.Core.Bool.{Bool, true, false, not, ◌||◌}
use mathlib.Core.Logic.{◌≢◌}
use mathlib.Core.List.{List, [], ◌∷◌}
use mathlib.Core.Path.{◌≡◌, refl, sym}
use Prim.Native.Nat.{ℕ, ◌+◌, ◌≤◌, ◌<◌}
use native.Mathlib.Omega.{arith}
use lib.ListN.{length, get_or}
use borrow.Author.Tests.{eqb-false, eqb-true, le-ltb, ltb-false, ne_eqb, not-false}
use Rattle.words.specs.Tests.{◌<?◌, ◌=?◌}
use Rattle.words.specs.Lists.{every}
use Rattle.words.specs.Rules.{answer}
use Rattle.words.specs.Fields.{field_at, total, fit, bytes_for, padding}
use Rattle.laws.proofs.Cases.{on, or_left, or_right}
use Rattle.laws.proofs.Fields.{field_lt}
use Rattle.laws.proofs.Layouts.{fit-first}
use Rattle.laws.proofs.Rules.{passed, answer-none}
use Rattle.meaning.specs.Messages.{notification, nullification}
use Rattle.meaning.specs.PackedMessages.{Packed, gate, message, other_kind, count_in, entries_of, kind_in, kind_of, layout_for, layout_in, layout_of, packed_into, read_message, reading_rules, value_wrong, values_of, write_message, writing_rules}
use Rattle.meaning.proofs.EntryValues.{signed_in28}
use Rattle.meaning.proofs.MessageValues.{message_in}

-- ---- reading

pub reading-answer : (s : List ℕ) → (read_message s).answer ≡ answer (reading_rules s)
unfolding read_message
reading-answer s = on (answer (reading_rules s) =? 0) (λ e. rw e (sym (eqb-true (answer (reading_rules s)) 0 e))) (λ e. rw e)

pub reading-done : (s : List ℕ) → answer (reading_rules s) ≡ 0
    → read_message s ≡ record { answer = 0; length = bytes_for (layout_in s); read = message_in s }
unfolding read_message
reading-done s e = rw e

-- bytes that no rule of reading refuses
pub record Readable (s : List ℕ) : Type 0 where
  pub kind : kind_in s < 3
  pub count : count_in s ≤ 50
  pub whole : bytes_for (layout_in s) ≤ length s
  pub filled : field_at s (total (layout_in s)) (padding (layout_in s)) ≡ 0

pub readable : (s : List ℕ) → answer (reading_rules s) ≡ 0 → Readable s
unfolding reading_rules
readable s e =
    let met : (k : ℕ) → (get_or (reading_rules s) k passed).met ≡ false = answer-none (reading_rules s) refl e in
    record {
      kind = omega (arith, field_lt s 0 2, eqb-false (kind_in s) 3 (met 1));
      count = ltb-false 50 (count_in s) (met 3);
      whole = ltb-false (length s) (bytes_for (layout_in s)) (met 4);
      filled = eqb-true (field_at s (total (layout_in s)) (padding (layout_in s))) 0 (not-false _ (met 5));
    }

-- the layout takes 2 bits or more, and no fewer than with no entry
pub layout-begins : (s : List ℕ) → 2 ≤ total (layout_in s)
unfolding layout_in layout_for
layout-begins s =
    on (kind_in s =? 1) (λ e. rw e (omega arith)) (λ e. rw e (on (kind_in s =? 2) (λ f. rw f (omega arith)) (λ f. rw f (omega arith))))

layout-grows : (s : List ℕ) → total (layout_for (kind_in s) 0) ≤ total (layout_in s)
unfolding layout_in layout_for
layout-grows s = on (kind_in s =? 1) (λ e. rw e (omega arith)) (λ e. rw e (omega arith))

pub readable-done : (s : List ℕ) → Readable s → answer (reading_rules s) ≡ 0
unfolding answer reading_rules
readable-done s r =
    let a : length s ≢ 0 = omega (arith, layout-begins s) in
    let b : kind_in s ≢ 3 = omega arith in
    let c : bytes_for (layout_for (kind_in s) 0) ≤ length s = omega (arith, layout-grows s) in
    rw (
      ne_eqb (length s) 0 a,
      ne_eqb (kind_in s) 3 b,
      le-ltb (length s) (bytes_for (layout_for (kind_in s) 0)) c,
      le-ltb 50 (count_in s) r.count,
      le-ltb (length s) (bytes_for (layout_in s)) r.whole,
      r.filled,
    )

-- ---- writing

pub writing-answer : (m : Packed) (out : List ℕ) → (write_message m out).answer ≡ answer (writing_rules m (length out))
unfolding write_message
writing-answer m out =
    on (answer (writing_rules m (length out)) =? 0)
    (λ e. rw e (sym (eqb-true (answer (writing_rules m (length out))) 0 e)))
    (λ e. rw e)

pub writing-done : (m : Packed) (out : List ℕ) → answer (writing_rules m (length out)) ≡ 0
    → write_message m out ≡ record { answer = 0; length = bytes_for (layout_of m); out = packed_into out (layout_of m) (values_of m) }
unfolding write_message
writing-done m out e = rw e

-- a message that no rule of writing refuses, for so many bytes of room
pub record Writable (m : Packed) (room : ℕ) : Type 0 where
  pub kind : kind_of m < 3
  pub count : length (entries_of m) ≤ 50
  pub fits : fit (layout_of m) (values_of m) ≡ true
  pub signed : every signed_in28 (entries_of m) ≡ true
  pub whole : bytes_for (layout_of m) ≤ room

-- the kind is a field of 2 bits
kind_fits : (m : Packed) → fit (layout_of m) (values_of m) ≡ true → kind_of m < 4
unfolding layout_of layout_for values_of
kind_fits gate f = omega arith
kind_fits (message (notification n)) f = omega arith
kind_fits (message (nullification x)) f = omega arith
kind_fits (other_kind k) f =
    let g : fit (2 ∷ []) ((3 + k) ∷ []) ≡ true = rw (ne_eqb (3 + k) 1 (omega arith), ne_eqb (3 + k) 2 (omega arith)) at f in
    fit-first 2 (3 + k) [] [] g

pub writable : (m : Packed) (room : ℕ) → answer (writing_rules m room) ≡ 0 → Writable m room
unfolding writing_rules value_wrong
writable m room e =
    let met : (k : ℕ) → (get_or (writing_rules m room) k passed).met ≡ false = answer-none (writing_rules m room) refl e in
    let many : Bool = 50 <? length (entries_of m) in
    let unfit : Bool = not (fit (layout_of m) (values_of m)) in
    let large : Bool = not (every signed_in28 (entries_of m)) in
    let d : many || unfit ≡ false = or_left (many || unfit) large (met 1) in
    let f : fit (layout_of m) (values_of m) ≡ true = not-false _ (or_right many unfit d) in
    record {
      kind = omega (arith, kind_fits m f, eqb-false (kind_of m) 3 (met 0));
      count = ltb-false 50 (length (entries_of m)) (or_left many unfit d);
      fits = f;
      signed = not-false _ (or_right (many || unfit) large (met 1));
      whole = ltb-false room (bytes_for (layout_of m)) (met 2);
    }

pub writable-done : (m : Packed) (room : ℕ) → Writable m room → answer (writing_rules m room) ≡ 0
unfolding answer writing_rules value_wrong
writable-done m room w =
    let b : kind_of m ≢ 3 = omega arith in
    rw (
      ne_eqb (kind_of m) 3 b,
      le-ltb 50 (length (entries_of m)) w.count,
      w.fits,
      w.signed,
      le-ltb room (bytes_for (layout_of m)) w.whole,
    )
