-- Packed setups either way: what is written reads back as the same setup, bytes that are read are written again, and later bytes are not read.
use mathlib.Core.Bool.{false}
use mathlib.Core.List.{List, ◌++◌}
use mathlib.Core.Path.{◌≡◌, sym, ap, ap₂, ◌∙◌}
use Prim.Native.Nat.{ℕ, ◌≤◌}
use native.Mathlib.Omega.{arith}
use lib.ListN.{length, take, drop, get_or, length-append}
use lib.Seq.{length-take-le}
use Rattle.words.specs.Tests.{◌=?◌}
use Rattle.words.specs.Rules.{answer}
use Rattle.words.specs.Fields.{field_at, total, read_all, bytes_for, padding}
use Rattle.laws.proofs.Cases.{on}
use Rattle.laws.proofs.Bits.{Bytes}
use Rattle.laws.proofs.Layouts.{read-fit}
use Rattle.laws.proofs.Padded.{front-field, front-values}
use Rattle.meaning.specs.Books.{Setup, lent_wrong}
use Rattle.meaning.specs.PackedMessages.{packed_into}
use Rattle.meaning.specs.PackedSetups.{read_setup, setup_in, setup_layout, setup_layout_for, setup_layout_in, setup_values, setup_writing_rules, write_setup}
use Rattle.meaning.proofs.PackedInto.{packed-behind, packed-length, packed-same, packed-values, packed_zero}
use Rattle.meaning.proofs.SetupValues.{setup-again, setup-back, setup-layout-again}
use Rattle.meaning.proofs.PackedSetupRules.{SetupReadable, SetupWritable, setup-readable, setup-readable-done, setup-reading-answer, setup-reading-done, setup-writable, setup-writable-done, setup-writing-answer, setup-writing-done}

-- bytes whose fields are a setup's say its counts, and are that setup
same-setup-layout : (t : List ℕ) (x : Setup) → read_all t 0 (setup_layout x) ≡ setup_values x → setup_layout_in t ≡ setup_layout x
unfolding setup_layout setup_layout_in setup_layout_for setup_values
same-setup-layout t x e =
    ap₂ setup_layout_for (ap (λ (vs : List ℕ). get_or vs 1 0) e) (ap (λ (vs : List ℕ). get_or vs 3 0) e)

same-setup : (t : List ℕ) (x : Setup) → read_all t 0 (setup_layout x) ≡ setup_values x → setup_in t ≡ x
unfolding setup_in
same-setup t x e = rw (same-setup-layout t x e, e) (setup-back x)

pub setup-reads-as : (t : List ℕ) (x : Setup) (slots lent1 lent2 : ℕ) → SetupWritable x (length t) → lent_wrong x slots lent1 lent2 ≡ false
    → read_all t 0 (setup_layout x) ≡ setup_values x → field_at t (total (setup_layout x)) (padding (setup_layout x)) ≡ 0
    → read_setup t slots lent1 lent2 ≡ record { answer = 0; length = bytes_for (setup_layout x); read = x }
setup-reads-as t x slots lent1 lent2 w lent v z =
    let l : setup_layout_in t ≡ setup_layout x = same-setup-layout t x v in
    let i : setup_in t ≡ x = same-setup t x v in
    let r : SetupReadable t slots lent1 lent2 =
    record {
      counts = rw i w.counts;
      last_day = rw i w.last_day;
      lent = rw i lent;
      whole = rw l w.whole;
      codes = rw i w.codes;
      rows = rw i w.rows;
      filled = rw l z;
    } in
    setup-reading-done t slots lent1 lent2 (setup-readable-done t slots lent1 lent2 r) ∙ rw (l, i)

pub setup-written-reads : (s : Setup) (out : List ℕ) (slots lent1 lent2 : ℕ) → (write_setup s out).answer ≡ 0 → lent_wrong s slots lent1 lent2 ≡ false
    → read_setup (write_setup s out).out slots lent1 lent2 ≡ record { answer = 0; length = (write_setup s out).length; read = s }
setup-written-reads x out slots lent1 lent2 e lent =
    let a : answer (setup_writing_rules x (length out)) ≡ 0 = sym (setup-writing-answer x out) ∙ e in
    let w : SetupWritable x (length out) = setup-writable x (length out) a in
    rw (setup-writing-done x out a)
    (setup-reads-as (packed_into out (setup_layout x) (setup_values x)) x slots lent1 lent2
    (rw (packed-length out (setup_layout x) (setup_values x)) w) lent
    (packed-values out (setup_layout x) (setup_values x) w.fits w.whole)
    (packed_zero out (setup_layout x) (setup_values x) w.fits w.whole))

-- "bytes past what is written stay"
pub setup-later-bytes-stay : (s : Setup) (out : List ℕ) → drop (write_setup s out).length (write_setup s out).out ≡ drop (write_setup s out).length out
unfolding write_setup
setup-later-bytes-stay x out =
    on (answer (setup_writing_rules x (length out)) =? 0) (λ e. rw e (packed-behind out (setup_layout x) (setup_values x))) (λ e. rw e)

-- bytes that are read, and what they are read as
module _ (s : List ℕ) (slots lent1 lent2 : ℕ) (e : (read_setup s slots lent1 lent2).answer ≡ 0) where
  no-rule : SetupReadable s slots lent1 lent2
  no-rule = setup-readable s slots lent1 lent2 (sym (setup-reading-answer s slots lent1 lent2) ∙ e)

  setup-result : read_setup s slots lent1 lent2 ≡ record { answer = 0; length = bytes_for (setup_layout_in s); read = setup_in s }
  setup-result = setup-reading-done s slots lent1 lent2 (sym (setup-reading-answer s slots lent1 lent2) ∙ e)

  -- that is written where there is room
  setup-writes : (room : ℕ) → bytes_for (setup_layout_in s) ≤ room → SetupWritable (setup_in s) room
  setup-writes room h =
      let r : SetupReadable s slots lent1 lent2 = no-rule in
      let l : setup_layout (setup_in s) ≡ setup_layout_in s = setup-layout-again s in
      record {
        counts = r.counts;
        last_day = r.last_day;
        codes = r.codes;
        rows = r.rows;
        fits = rw (l, setup-again s) (read-fit s 0 (setup_layout_in s));
        whole = rw l h;
      }

pub setup-read-writes : (bytes out : List ℕ) (slots lent1 lent2 : ℕ) → Bytes bytes → Bytes out
    → (read_setup bytes slots lent1 lent2).answer ≡ 0 → (read_setup bytes slots lent1 lent2).length ≤ length out
    → write_setup (read_setup bytes slots lent1 lent2).read out
    ≡ record {
      answer = 0;
      length = (read_setup bytes slots lent1 lent2).length;
      out = take (read_setup bytes slots lent1 lent2).length bytes ++ drop (read_setup bytes slots lent1 lent2).length out;
    }
setup-read-writes s out slots lent1 lent2 bs bo e room =
    let r : SetupReadable s slots lent1 lent2 = no-rule s slots lent1 lent2 e in
    let h : bytes_for (setup_layout_in s) ≤ length out = rw (setup-result s slots lent1 lent2 e) at room in
    let w : SetupWritable (setup_in s) (length out) = setup-writes s slots lent1 lent2 e (length out) h in
    rw (setup-result s slots lent1 lent2 e)
    (setup-writing-done (setup_in s) out (setup-writable-done (setup_in s) (length out) w)
    ∙ rw (setup-layout-again s, setup-again s, packed-same s out (setup_layout_in s) bs bo r.whole h r.filled))

-- bytes after a setup are not its own
pub setup-later-bytes-unread : (bytes rest : List ℕ) (slots lent1 lent2 : ℕ) → (read_setup bytes slots lent1 lent2).answer ≡ 0
    → read_setup (take (read_setup bytes slots lent1 lent2).length bytes ++ rest) slots lent1 lent2 ≡ read_setup bytes slots lent1 lent2
setup-later-bytes-unread s rest slots lent1 lent2 e =
    let r : SetupReadable s slots lent1 lent2 = no-rule s slots lent1 lent2 e in
    let n : ℕ = bytes_for (setup_layout_in s) in
    let t : List ℕ = take n s ++ rest in
    let h : n ≤ length t = omega (arith, length-append (take n s) rest, length-take-le n s r.whole) in
    let l : setup_layout (setup_in s) ≡ setup_layout_in s = setup-layout-again s in
    rw (setup-result s slots lent1 lent2 e)
    (setup-reads-as t (setup_in s) slots lent1 lent2 (setup-writes s slots lent1 lent2 e (length t) h) r.lent
    (rw (l, setup-again s) (front-values s rest n 0 (setup_layout_in s) r.whole (omega arith)))
    (rw l (front-field s rest n (total (setup_layout_in s)) (padding (setup_layout_in s)) r.whole (omega arith) ∙ r.filled))
    ∙ rw l)
