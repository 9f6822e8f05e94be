-- The 34 bits of an entry are its six and its 28: the shift leaves the first, and the mask the others, which say a whole number.
use mathlib.Core.List.{List}
use mathlib.Core.Path.{◌≡◌, ap, ◌∙◌}
use Prim.Native.Nat.{ℕ, ◌+◌, ◌*◌, ◌/◌, ◌%◌, ◌^◌}
use native.Mathlib.Nat.{mod-eq_of_lt}
use native.Mathlib.Omega.{arith}
use mir.Facts.{to_z-of_z}
use mir.Syntax.{w32}
use lib.Arith.{digits_div, digits_mod}
use lib.Bits.{bit_and, and_mask}
use Rattle.words.specs.Fields.{field_at, signed_of}
use Rattle.laws.proofs.Fields.{field_lt}
use Rattle.laws.proofs.WideFields.{field-split}
use Rattle.message_reading.specs.Parts.{entry_in}
use Rattle.message_reading.proofs.entry_in.Goals as goal
use Rattle.message_reading.proofs.entry_in.Goals.{After-read_long-both}

-- the two fields of what is read at once
front : (s : List ℕ) (p : ℕ) → field_at s p 34 / 2 ^ 28 ≡ field_at s p 6
front s p = ap (λ (x : ℕ). x / 2 ^ 28) (field-split s p 6 28) ∙ digits_div (field_at s p 6) (field_lt s (p + 6) 28)

back : (s : List ℕ) (p : ℕ) → bit_and (field_at s p 34) 268435455 ≡ field_at s (p + 6) 28
back s p = and_mask (field_at s p 34) 28 ∙ ap (λ (x : ℕ). x % 2 ^ 28) (field-split s p 6 28) ∙ digits_mod (field_at s p 6) (field_lt s (p + 6) 28)

-- both, and the two of them
module _ (c : After-read_long-both) where
  abbrev bytes : List ℕ
  bytes = c.args.bytes.now

  abbrev place : ℕ
  place = 92 + 34 * c.args.k

  period-is : c.read_long-both.result / 2 ^ 28 ≡ field_at bytes place 6
  period-is = ap (λ (x : ℕ). x / 2 ^ 28) c.read_long-both.ensures ∙ front bytes place

  bits_are : bit_and c.read_long-both.result 268435455 ≡ field_at bytes (place + 6) 28
  bits_are = ap (λ (x : ℕ). bit_and x 268435455) c.read_long-both.ensures ∙ back bytes place

pub overflow_cast-period-2 : goal.overflow_cast-period-2
overflow_cast-period-2 c = omega (arith, period-is (goal.at.overflow_cast-period-2 c).After-read_long-both, field_lt (bytes (goal.at.overflow_cast-period-2 c).After-read_long-both) (place (goal.at.overflow_cast-period-2 c).After-read_long-both) 6)

pub overflow_cast-both : goal.overflow_cast-both
overflow_cast-both c = omega (arith, bits_are (goal.at.overflow_cast-both c).After-read_long-both, field_lt (bytes (goal.at.overflow_cast-both c).After-read_long-both) (place (goal.at.overflow_cast-both c).After-read_long-both + 6) 28)

pub returns : goal.returns
unfolding entry_in
returns c =
    let volume : c.volume_of_bits-volume.result ≡ signed_of 27 (field_at (bytes (goal.at.returns c).After-read_long-both) (place (goal.at.returns c).After-read_long-both + 6) 28) =
    c.volume_of_bits-volume.ensures
    ∙ ap (signed_of 27) (ap (λ (x : ℕ). x % 268435456) (bits_are (goal.at.returns c).After-read_long-both) ∙ mod-eq_of_lt (field_lt (bytes (goal.at.returns c).After-read_long-both) (place (goal.at.returns c).After-read_long-both + 6) 28)) in
    rw (period-is (goal.at.returns c).After-read_long-both, to_z-of_z {w = w32} {z = c.volume_of_bits-volume.result} (record { sfits = c.volume_of_bits-volume.type_inv }), volume)
