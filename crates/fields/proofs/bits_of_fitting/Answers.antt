-- A number below zero with the span added, and any other as it is.
use mathlib.Core.Path.{◌≡◌, ap}
use native.Mathlib.Omega.{arith}
use lib.Dec.{T}
use lib.IntN.{pos, nat_abs, ◌+ℤ◌}
use lib.Signed.{non_neg}
use mir.Syntax.{w32}
use mir.Val.{Fits, SFits, to_z, of_z}
use mir.ValLaws.{to_z_pos}
use Rattle.words.specs.Fields.{bits_of}
use Rattle.laws.proofs.Signed.{bits-lt, code-neg, code-pos}
use Rattle.fields.proofs.bits_of_fitting.Goals as goal
use Rattle.fields.proofs.bits_of_fitting.Goals.{Else-z-lt0, Then-z-lt0}

sum : (c : Then-z-lt0) → to_z w32 (of_z w32 c.args.z) +ℤ pos 268435456 ≡ pos (bits_of 27 c.args.z)
sum c = code-neg c.args.z c.ranges.z c.if-z-lt0.true c.requires

-- the sum again, as read back from its bits
sum_back : (c : Then-z-lt0)
    → to_z w32 (of_z w32 (to_z w32 (of_z w32 c.args.z) +ℤ pos 268435456)) ≡ pos (bits_of 27 c.args.z)
sum_back c = rw (sum c) (to_z_pos w32 _ (omega (arith, bits-lt 27 c.args.z c.requires)))

same : (c : Else-z-lt0) → to_z w32 (of_z w32 c.args.z) ≡ pos (bits_of 27 c.args.z)
same c = code-pos c.args.z c.ranges.z c.if-z-lt0.false

sum_fits : (c : Then-z-lt0) → SFits w32 (to_z w32 (of_z w32 c.args.z) +ℤ pos 268435456)
sum_fits c = rw (sum c) (record { sfits = omega (arith, bits-lt 27 c.args.z c.requires) })

same-fits : (c : Else-z-lt0) → let z = to_z w32 (of_z w32 c.args.z) in T (non_neg z) × Fits w32 (nat_abs z)
same-fits c = rw (same c) (tt, omega (arith, bits-lt 27 c.args.z c.requires))

pub overflow_add-result : goal.overflow_add-result
overflow_add-result c = sum_fits (goal.at.overflow_add-result c).Then-z-lt0

pub overflow_cast-result : goal.overflow_cast-result
overflow_cast-result c = rw (sum_back (goal.at.overflow_cast-result c).Then-z-lt0) (tt, omega (arith, bits-lt 27 c.args.z c.requires))

pub overflow_cast-result-else-z-lt0 : goal.overflow_cast-result-else-z-lt0
overflow_cast-result-else-z-lt0 c = same-fits (goal.at.overflow_cast-result-else-z-lt0 c).Else-z-lt0

pub returns-then-z-lt0 : goal.returns-then-z-lt0
returns-then-z-lt0 c = ap nat_abs (sum_back (goal.at.returns-then-z-lt0 c).Then-z-lt0)

pub returns-else-z-lt0 : goal.returns-else-z-lt0
returns-else-z-lt0 c = ap nat_abs (same (goal.at.returns-else-z-lt0 c).Else-z-lt0)
