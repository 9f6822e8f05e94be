-- What is behind has no bit in common with what is moved up past it, so that the two together are their sum.
use mathlib.Core.Path.{◌≡◌, ap, ◌∙◌}
use Prim.Native.Nat.{ℕ, ◌+◌, ◌*◌, ◌%◌, ◌^◌, ◌<◌}
use native.Mathlib.Nat.{mod-eq_of_lt}
use native.Mathlib.Omega.{arith}
use lib.Bits.{bit_or, or_shifted}
use Rattle.fields.proofs.whole_bytes.join.Goals as goal

behind : (high low k : ℕ) → low < 2 ^ k → high * 2 ^ k + low < 2 ^ 64 → bit_or (high * 2 ^ k % 2 ^ 64) low ≡ high * 2 ^ k + low
behind high low k l h =
    let fits : high * 2 ^ k < 2 ^ 64 = omega arith in
    ap (λ (x : ℕ). bit_or x low) (mod-eq_of_lt fits) ∙ or_shifted high k low l

pub returns : goal.returns
returns c =
    let a = c.args in
    behind a.high a.low a.bits c.requires.1 c.requires.2
