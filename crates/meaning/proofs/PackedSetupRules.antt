-- The rules of reading and of writing a packed setup, opened: what holds where none refuses, and that where it holds none does.
use mathlib.Core.Bool.{Bool, true, false, ◌||◌}
use mathlib.Core.List.{List}
use mathlib.Core.Path.{◌≡◌, refl, sym}
use Prim.Native.Nat.{ℕ, ◌≤◌}
use native.Mathlib.Omega.{arith}
use lib.ListN.{length, get_or}
use borrow.Author.Tests.{eqb-true, le-ltb, ltb-false, not-false}
use Rattle.words.specs.Tests.{◌=?◌}
use Rattle.words.specs.Rules.{answer}
use Rattle.words.specs.Fields.{field_at, total, fit, bytes_for, padding}
use Rattle.laws.proofs.Cases.{on, or_left, or_right}
use Rattle.laws.proofs.Rules.{passed, answer-none}
use Rattle.meaning.specs.Books.{Setup, code_wrong, counts_wrong, last_day_wrong, lent_wrong, some_row_wrong}
use Rattle.meaning.specs.PackedMessages.{packed_into}
use Rattle.meaning.specs.PackedSetups.{read_by, read_setup, setup_in, setup_layout, setup_layout_for, setup_layout_in, setup_reading_rules, setup_values, setup_writing_rules, write_setup}

-- ---- reading

-- the layout takes the head's 34 bits or more
head_first : (s : List ℕ) → 34 ≤ total (setup_layout_in s)
unfolding setup_layout_in setup_layout_for
head_first s = omega arith

-- what is read by an answer has it
pub read-by-answer : (n : ℕ) (s : List ℕ) → (read_by n s).answer ≡ n
read-by-answer n s = on (n =? 0) (λ e. rw e (sym (eqb-true n 0 e))) (λ e. rw e)

module _ (s : List ℕ) (slots lent1 lent2 : ℕ) where
  pub setup-reading-answer : (read_setup s slots lent1 lent2).answer ≡ answer (setup_reading_rules s slots lent1 lent2)
  unfolding read_setup
  setup-reading-answer = read-by-answer (answer (setup_reading_rules s slots lent1 lent2)) s

  pub setup-reading-done : answer (setup_reading_rules s slots lent1 lent2) ≡ 0
      → read_setup s slots lent1 lent2 ≡ record { answer = 0; length = bytes_for (setup_layout_in s); read = setup_in s }
  unfolding read_setup
  setup-reading-done e = rw e

  -- bytes that no rule of reading refuses
  pub record SetupReadable : Type 0 where
    pub counts : counts_wrong (setup_in s) ≡ false
    pub last_day : last_day_wrong (setup_in s) ≡ false
    pub lent : lent_wrong (setup_in s) slots lent1 lent2 ≡ false
    pub whole : bytes_for (setup_layout_in s) ≤ length s
    pub codes : code_wrong (setup_in s) ≡ false
    pub rows : some_row_wrong (setup_in s) ≡ false
    pub filled : field_at s (total (setup_layout_in s)) (padding (setup_layout_in s)) ≡ 0

  pub setup-readable : answer (setup_reading_rules s slots lent1 lent2) ≡ 0 → SetupReadable
  unfolding setup_reading_rules
  setup-readable e =
      let met : (k : ℕ) → (get_or (setup_reading_rules s slots lent1 lent2) k passed).met ≡ false = answer-none (setup_reading_rules s slots lent1 lent2) refl e in
      let a : Bool = counts_wrong (setup_in s) in
      let b : Bool = last_day_wrong (setup_in s) in
      let c : Bool = lent_wrong (setup_in s) slots lent1 lent2 in
      let d : a || b ≡ false = or_left (a || b) c (met 1) in
      record {
        counts = or_left a b d;
        last_day = or_right a b d;
        lent = or_right (a || b) c (met 1);
        whole = ltb-false (length s) (bytes_for (setup_layout_in s)) (met 2);
        codes = met 3;
        rows = met 4;
        filled = eqb-true (field_at s (total (setup_layout_in s)) (padding (setup_layout_in s))) 0 (not-false _ (met 5));
      }

  pub setup-readable-done : SetupReadable → answer (setup_reading_rules s slots lent1 lent2) ≡ 0
  unfolding answer setup_reading_rules
  setup-readable-done r =
      rw (
        le-ltb (length s) 5 (omega (arith, head_first s)),
        r.counts,
        r.last_day,
        r.lent,
        le-ltb (length s) (bytes_for (setup_layout_in s)) r.whole,
        r.codes,
        r.rows,
        r.filled,
      )

-- ---- writing

module _ (x : Setup) (room : ℕ) where
  -- a setup that no rule of writing refuses, for so many bytes of room
  pub record SetupWritable : Type 0 where
    pub counts : counts_wrong x ≡ false
    pub last_day : last_day_wrong x ≡ false
    pub codes : code_wrong x ≡ false
    pub rows : some_row_wrong x ≡ false
    pub fits : fit (setup_layout x) (setup_values x) ≡ true
    pub whole : bytes_for (setup_layout x) ≤ room

  pub setup-writable : answer (setup_writing_rules x room) ≡ 0 → SetupWritable
  unfolding setup_writing_rules
  setup-writable e =
      let met : (k : ℕ) → (get_or (setup_writing_rules x room) k passed).met ≡ false = answer-none (setup_writing_rules x room) refl e in
      let a : Bool = counts_wrong x in
      let b : Bool = last_day_wrong x in
      let d : a || b ≡ false = or_left (a || b) (code_wrong x) (met 0) in
      record {
        counts = or_left a b d;
        last_day = or_right a b d;
        codes = or_right (a || b) (code_wrong x) (met 0);
        rows = met 1;
        fits = not-false _ (met 2);
        whole = ltb-false room (bytes_for (setup_layout x)) (met 3);
      }

  pub setup-writable-done : SetupWritable → answer (setup_writing_rules x room) ≡ 0
  unfolding answer setup_writing_rules
  setup-writable-done w =
      rw (w.counts, w.last_day, w.codes, w.rows, w.fits, le-ltb room (bytes_for (setup_layout x)) w.whole)

pub setup-writing-answer : (x : Setup) (out : List ℕ) → (write_setup x out).answer ≡ answer (setup_writing_rules x (length out))
unfolding write_setup
setup-writing-answer x out =
    let n : ℕ = answer (setup_writing_rules x (length out)) in
    on (n =? 0) (λ e. rw e (sym (eqb-true n 0 e))) (λ e. rw e)

pub setup-writing-done : (x : Setup) (out : List ℕ) → answer (setup_writing_rules x (length out)) ≡ 0
    → write_setup x out ≡ record { answer = 0; length = bytes_for (setup_layout x); out = packed_into out (setup_layout x) (setup_values x) }
unfolding write_setup
setup-writing-done x out e = rw e
