-- Below zero the sign first; the digits are those of the size.
use mathlib.Core.List.{◌++◌}
use mathlib.Core.Path.{◌≡◌, ap, ◌∙◌}
use Prim.Native.Nat.{ℕ, ◌+◌, ◌≤◌}
use native.Mathlib.Omega.{arith}
use lib.IntN.{nat_abs}
use lib.ListN.{length}
use mir.Facts.{to_z-of_z}
use mir.Syntax.{w64}
use mir.Val.{to_z, of_z}
use Rattle.meaning.specs.Ascii.{ascii}
use Rattle.decimals.proofs.Texts.{put_written, written_then, room_after}
use Rattle.spreadsheets.specs.Writing.{size_text, mwh_text}
use Rattle.spreadsheet_writing.proofs.Signs.{text-below, text-not-below}
use Rattle.spreadsheet_writing.proofs.put_mwh.Goals as goal
use Rattle.spreadsheet_writing.proofs.put_mwh.Goals.{Else-kwh-lt0, Start, Then-kwh-lt0}

below : (c : Then-kwh-lt0) → let kwh = c.args.kwh in mwh_text kwh ≡ ascii "-" ++ size_text (nat_abs kwh)
below c =
    text-below c.args.kwh (rw (to_z-of_z c.ranges.kwh) at c.if-kwh-lt0.true)

not-below : (c : Else-kwh-lt0) → let kwh = c.args.kwh in mwh_text kwh ≡ size_text (nat_abs kwh)
not-below c =
    text-not-below c.args.kwh (rw (to_z-of_z c.ranges.kwh) at c.if-kwh-lt0.false)

-- the volume as the machine hands it over has the volume's size
sized : (s : Start) {size : ℕ} → size ≡ nat_abs (to_z w64 (of_z w64 s.args.kwh)) → size ≡ nat_abs s.args.kwh
sized s e = e ∙ ap nat_abs (to_z-of_z s.ranges.kwh)

-- room for the sign and the size
free : (c : Then-kwh-lt0) → let a = c.args in a.at + (1 + length (size_text (nat_abs a.kwh))) ≤ length a.out.now
free c =
    omega (arith, c.requires, ap length (below c))

pub put_size-requires : goal.put_size-requires
put_size-requires c =
    let start : Start = (goal.at.put_size-requires c).Start in
    let negative : Then-kwh-lt0 = (goal.at.put_size-requires c).Then-kwh-lt0 in
    rw (sized start c.size.ensures)
    (room_after (length (size_text (nat_abs c.args.kwh))) (put_written (omega (arith, free negative)) c.put_word-after_sign.ensures) (free negative))

pub returns-then-kwh-lt0 : goal.returns-then-kwh-lt0
returns-then-kwh-lt0 c =
    let start : Start = (goal.at.returns-then-kwh-lt0 c).Start in
    let negative : Then-kwh-lt0 = (goal.at.returns-then-kwh-lt0 c).Then-kwh-lt0 in
    rw (below negative, ← sized start c.size.ensures)
    (written_then (put_written (omega (arith, free negative)) c.put_word-after_sign.ensures) c.put_size.ensures)

pub put_size-requires-2 : goal.put_size-requires-2
put_size-requires-2 c =
    rw (sized (goal.at.put_size-requires-2 c).Start c.size-2.ensures, ← not-below (goal.at.put_size-requires-2 c).Else-kwh-lt0) c.requires

pub returns : goal.returns
returns c =
    rw (not-below (goal.at.returns c).Else-kwh-lt0, ← sized (goal.at.returns c).Start c.size-2.ensures) c.put_size-2.ensures
