-- The last byte is a field of eight bits, and the padding is what the mask leaves of it.
use mathlib.Core.Bool.{not}
use mathlib.Core.Path.{◌≡◌, ap, ◌∙◌}
use mathlib.Core.List.{List}
use Prim.Native.Nat.{ℕ, ◌+◌, ◌-◌, ◌*◌, ◌/◌, ◌%◌, ◌^◌, ◌<◌}
use native.Mathlib.Nat.{div-one}
use native.Mathlib.Omega.{arith}
use lib.Bits.{bit_and}
use lib.Dec.{eqb}
use lib.ListN.{get_or}
use lib.Pow.{pow_pos}
use Rattle.words.specs.Fields.{field_at}
use Rattle.laws.proofs.WideFields.{byte-field, cut-same, masked, one_shl}
use Rattle.message_reading.proofs.padding_bit.Goals as goal

-- the bits of the last byte that stand behind the first n
behind : (s : List ℕ) (n : ℕ) → 0 < n → get_or s ((n + 7) / 8 - 1) 0 < 256
    → bit_and (get_or s ((n + 7) / 8 - 1) 0) (1 * 2 ^ ((n + 7) / 8 * 8 - n) % 2 ^ 8 - 1) ≡ field_at s n ((n + 7) / 8 * 8 - n)
behind s n h l =
    let j : ℕ = (n + 7) / 8 - 1 in
    let w : ℕ = (n + 7) / 8 * 8 - n in
    masked (get_or s j 0) w 8 (omega arith)
    ∙ ap (λ (x : ℕ). x % 2 ^ w) (rw (← byte-field s j l, div-one))
    ∙ cut-same s (j * 8) 8 n w 0 (omega arith) (omega arith)

pub overflow_sub-last : goal.overflow_sub-last
overflow_sub-last c = omega (arith, c.bytes_of.ensures)

pub overflow_shl-result : goal.overflow_shl-result
overflow_shl-result c = omega (arith, c.padding_of.ensures)

pub overflow_sub-result : goal.overflow_sub-result
overflow_sub-result c =
    let n = c.args.bits in
    let w = (n + 7) / 8 * 8 - n in
    rw (c.padding_of.ensures, one_shl 8 w (omega arith)) (pow_pos w)

pub returns : goal.returns
returns c =
    let a = c.args in
    let last : get_or a.bytes.now ((a.bits + 7) / 8 - 1) 0 < 256 = omega (arith, c.shared_slice_known-1.given ((a.bits + 7) / 8 - 1)) in
    rw (c.bytes_of.ensures, c.padding_of.ensures) (ap (λ (x : ℕ). not (eqb x 0)) (behind a.bytes.now a.bits c.requires.0 last))
