-- A text that is put where there is room is written; texts written one after the other are one text.
use mathlib.Core.Bool.{true, false}
use mathlib.Core.List.{List, ◌++◌}
use mathlib.Core.Path.{◌≡◌, ap, ◌∙◌, subst}
use Prim.Native.Nat.{ℕ, ◌+◌, ◌≤◌}
use native.Mathlib.Nat.{zero-add}
use native.Mathlib.Omega.{arith}
use lib.ListN.{length, take, length-append}
use lib.Seq.{length-sets}
use borrow.Author.Tests.{le-leb, leb-true}
use Rattle.laws.proofs.Stores.{sets-append, take-front}
use Rattle.decimals.specs.Texts.{has_room, Written, Put}

module _ (size at bytes : ℕ) where
  pub is-room : at + bytes ≤ size → has_room size at bytes ≡ true
  unfolding has_room
  is-room h = le-leb (at + bytes) size h

  pub room-free : has_room size at bytes ≡ true → at + bytes ≤ size
  unfolding has_room
  room-free e = leb-true (at + bytes) size e

module _ {out text left : List ℕ} {at next : ℕ} where
  pub put-without : has_room (length out) at (length text) ≡ false → left ≡ out → next ≡ at → Put out at text left next
  put-without e b p = record { buffer = rw e b; place = rw e p }

  pub put-with : has_room (length out) at (length text) ≡ true → Written out at text left next → Put out at text left next
  put-with e w = record { buffer = rw e w.buffer; place = rw e w.place }

  pub put_written : at + length text ≤ length out → Put out at text left next → Written out at text left next
  put_written h p =
      let e = is-room (length out) at (length text) h in
      record { buffer = rw e at p.buffer; place = rw e at p.place }

  -- the same text, said otherwise
  pub put_same : {text' : List ℕ} → text ≡ text' → Put out at text left next → Put out at text' left next
  put_same e p = subst (λ (t : List ℕ). Put out at t left next) e p

  -- room for what comes after a text
  pub room_after : (k : ℕ) → Written out at text left next → at + (length text + k) ≤ length out → next + k ≤ length left
  room_after k w h = omega (arith, w.place, ap length w.buffer ∙ length-sets out at text)

-- a text written at the front is read there
pub written-front : {out text left : List ℕ} {next : ℕ} → Written out 0 text left next → length text ≤ length out → take next left ≡ text
written-front {out} {text} w h = (λ i. take ((w.place ∙ zero-add (length text)) i) (w.buffer i)) ∙ take-front out text h

module _ {out middle left s t : List ℕ} {at place next : ℕ} where
  pub written_then : Written out at s middle place → Written middle place t left next → Written out at (s ++ t) left next
  written_then w v = record { buffer = cc (w.buffer, v.buffer, w.place, sets-append out at s t); place = rw length-append (omega arith) }

  -- texts that are put where there is room for all of them
  pub written-put : at + length (s ++ t) ≤ length out → Written out at s middle place → Put middle place t left next → Written out at (s ++ t) left next
  written-put h w p = written_then w (put_written (room_after (length t) w (omega (arith, length-append s t))) p)

  pub put_then : at + length (s ++ t) ≤ length out → Put out at s middle place → Put middle place t left next → Written out at (s ++ t) left next
  put_then h p q = written-put h (put_written (omega (arith, length-append s t)) p) q
