-- Packed messages either way: what is written reads back as the same message, bytes that are read are written again, and later bytes are not read.
use mathlib.Core.List.{List, ◌++◌}
use mathlib.Core.Path.{◌≡◌, sym, ap, ◌∙◌}
use Prim.Native.Nat.{ℕ, ◌≤◌, ◌<◌}
use native.Mathlib.Omega.{arith}
use lib.ListN.{length, take, drop, get_or, length-append}
use lib.Seq.{length-take-le}
use Rattle.words.specs.Tests.{◌=?◌}
use Rattle.words.specs.Rules.{answer}
use Rattle.words.specs.Fields.{field_at, total, read_all, bytes_for, padding}
use Rattle.laws.proofs.Cases.{on}
use Rattle.laws.proofs.Bits.{Bytes}
use Rattle.laws.proofs.Layouts.{read-fit}
use Rattle.laws.proofs.Padded.{front-field, front-values}
use Rattle.meaning.specs.Messages.{notification, nullification}
use Rattle.meaning.specs.PackedMessages.{Packed, gate, message, other_kind, count_in, entries_of, kind_in, kind_of, layout_for, layout_in, layout_of, packed_into, read_message, values_of, write_message, writing_rules}
use Rattle.meaning.proofs.MessageValues.{Again, message_in, layout-again, message-again, message-back, same_layout}
use Rattle.meaning.proofs.PackedInto.{packed-behind, packed-length, packed-same, packed-values, packed_zero}
use Rattle.meaning.proofs.PackedMessageRules.{Readable, Writable, readable, readable-done, reading-answer, reading-done, writable, writable-done, writing-answer, writing-done}

-- bytes whose fields are a message's say its kind and its count
says : (t : List ℕ) (m : Packed) → kind_of m < 3 → read_all t 0 (layout_of m) ≡ values_of m
    → (kind_in t ≡ kind_of m) × (count_in t ≡ length (entries_of m))
unfolding layout_of layout_for values_of count_in
says t gate h e = let k : kind_in t ≡ 0 = ap (λ (vs : List ℕ). get_or vs 0 0) e in (k, rw k)
says t (message (notification n)) h e =
    let k : kind_in t ≡ 1 = ap (λ (vs : List ℕ). get_or vs 0 0) e in
    (k, rw k (ap (λ (vs : List ℕ). get_or vs 8 0) e))
says t (message (nullification x)) h e = let k : kind_in t ≡ 2 = ap (λ (vs : List ℕ). get_or vs 0 0) e in (k, rw k)
says t (other_kind k) h e = absurd (omega arith)

-- and are read as that message
pub reads_as : (t : List ℕ) (m : Packed) → Writable m (length t) → read_all t 0 (layout_of m) ≡ values_of m
    → field_at t (total (layout_of m)) (padding (layout_of m)) ≡ 0
    → read_message t ≡ record { answer = 0; length = bytes_for (layout_of m); read = m }
reads_as t m w v z =
    let k : (kind_in t ≡ kind_of m) × (count_in t ≡ length (entries_of m)) = says t m w.kind v in
    let l : layout_in t ≡ layout_of m = same_layout t m k.0 k.1 in
    let r : Readable t = record { kind = omega arith; count = omega arith; whole = rw l w.whole; filled = rw l z } in
    reading-done t (readable-done t r) ∙ rw (l, v, message-back m w.kind w.signed)

pub written-reads : (m : Packed) (out : List ℕ) → (write_message m out).answer ≡ 0
    → read_message (write_message m out).out ≡ record { answer = 0; length = (write_message m out).length; read = m }
written-reads m out e =
    let a : answer (writing_rules m (length out)) ≡ 0 = sym (writing-answer m out) ∙ e in
    let w : Writable m (length out) = writable m (length out) a in
    rw (writing-done m out a)
    (reads_as (packed_into out (layout_of m) (values_of m)) m (rw (packed-length out (layout_of m) (values_of m)) w)
    (packed-values out (layout_of m) (values_of m) w.fits w.whole)
    (packed_zero out (layout_of m) (values_of m) w.fits w.whole))

-- "bytes past what is written stay"
pub later-bytes-stay : (m : Packed) (out : List ℕ) → drop (write_message m out).length (write_message m out).out ≡ drop (write_message m out).length out
unfolding write_message
later-bytes-stay m out =
    on (answer (writing_rules m (length out)) =? 0) (λ e. rw e (packed-behind out (layout_of m) (values_of m))) (λ e. rw e)

-- bytes that are read, and what they are read as
module _ (s : List ℕ) (e : (read_message s).answer ≡ 0) where
  no-rule : Readable s
  no-rule = readable s (sym (reading-answer s) ∙ e)

  result : read_message s ≡ record { answer = 0; length = bytes_for (layout_in s); read = message_in s }
  result = reading-done s (sym (reading-answer s) ∙ e)

  again : Again s
  again = message-again s no-rule.kind

  -- that is written where there is room
  writes : (room : ℕ) → bytes_for (layout_in s) ≤ room → Writable (message_in s) room
  writes room h =
      let r : Readable s = no-rule in
      let g : Again s = again in
      let l : layout_of (message_in s) ≡ layout_in s = layout-again s g in
      record {
        kind = omega (arith, g.kind);
        count = omega (arith, g.count);
        fits = rw (l, g.values) (read-fit s 0 (layout_in s));
        signed = g.signed;
        whole = rw l h;
      }

pub read-writes : (bytes out : List ℕ) → Bytes bytes → Bytes out → (read_message bytes).answer ≡ 0 → (read_message bytes).length ≤ length out
    → write_message (read_message bytes).read out
    ≡ record { answer = 0; length = (read_message bytes).length; out = take (read_message bytes).length bytes ++ drop (read_message bytes).length out }
read-writes s out bs bo e room =
    let r : Readable s = no-rule s e in
    let g : Again s = again s e in
    let l : layout_of (message_in s) ≡ layout_in s = layout-again s g in
    let h : bytes_for (layout_in s) ≤ length out = rw (result s e) at room in
    rw (result s e)
    (writing-done (message_in s) out (writable-done (message_in s) (length out) (writes s e (length out) h))
    ∙ rw (l, g.values, packed-same s out (layout_in s) bs bo r.whole h r.filled))

-- bytes after a message belong to the next
pub later-bytes-unread : (bytes rest : List ℕ) → (read_message bytes).answer ≡ 0
    → read_message (take (read_message bytes).length bytes ++ rest) ≡ read_message bytes
later-bytes-unread s rest e =
    let r : Readable s = no-rule s e in
    let g : Again s = again s e in
    let l : layout_of (message_in s) ≡ layout_in s = layout-again s g in
    let n : ℕ = bytes_for (layout_in s) in
    let t : List ℕ = take n s ++ rest in
    let h : n ≤ length t = omega (arith, length-append (take n s) rest, length-take-le n s r.whole) in
    rw (result s e)
    (reads_as t (message_in s) (writes s e (length t) h)
    (rw (l, g.values) (front-values s rest n 0 (layout_in s) r.whole (omega arith)))
    (rw l (front-field s rest n (total (layout_in s)) (padding (layout_in s)) r.whole (omega arith) ∙ r.filled))
    ∙ rw l)
