-- Below zero the sign is written with the space; the digits are those of the size.
use Rattle.std.proofs.Common.{◌≡◌, ℕ, ◌∷◌, length, nat_abs, ap, ◌∙◌, arith, to_z-of_z, w64, to_z, of_z}
use Rattle.meaning.specs.Decimals.{decimal, signed}
use Rattle.decimals.proofs.Texts.{put_then}
use Rattle.sheet_lines.proofs.Signs.{signed_below, signed-not-below}
use Rattle.sheet_lines.proofs.put_signed_field.Goals as goal
use Rattle.sheet_lines.proofs.put_signed_field.Goals.{Else-number-lt0, Start, Then-number-lt0}

below : (c : Then-number-lt0) → let number = c.args.number in signed number ≡ 45 ∷ decimal (nat_abs number)
below c =
    signed_below c.args.number (rw (to_z-of_z c.ranges.number) at c.if-number-lt0.true)

not-below : (c : Else-number-lt0) → let number = c.args.number in signed number ≡ decimal (nat_abs number)
not-below c =
    signed-not-below c.args.number (rw (to_z-of_z c.ranges.number) at c.if-number-lt0.false)

-- the number as the machine hands it over has the number's size
sized : (s : Start) {size : ℕ} → size ≡ nat_abs (to_z w64 (of_z w64 s.args.number)) → size ≡ nat_abs s.args.number
sized s e = e ∙ ap nat_abs (to_z-of_z s.ranges.number)

pub returns-then-number-lt0 : goal.returns-then-number-lt0
returns-then-number-lt0 c =
    let at = goal.at.returns-then-number-lt0 c in
    let same = sized at.Start c.size.ensures in
    rw (below at.Then-number-lt0, ← same)
    (put_then (omega (arith, c.requires, ap length (below at.Then-number-lt0), ap (λ (n : ℕ). length (decimal n)) same)) c.put_word-start.ensures c.put_decimal.ensures)

pub put_field-requires : goal.put_field-requires
put_field-requires c =
    omega (arith, ap length (not-below (goal.at.put_field-requires c).Else-number-lt0), ap (λ (n : ℕ). length (decimal n)) (sized (goal.at.put_field-requires c).Start c.size-2.ensures))

pub returns : goal.returns
returns c =
    rw (not-below (goal.at.returns c).Else-number-lt0, ← sized (goal.at.returns c).Start c.size-2.ensures) c.put_field.ensures
