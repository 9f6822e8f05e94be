-- The shift leaves out what is behind, and the mask what is before.
use Prim.Native.Nat.{◌/◌, ◌^◌}
use native.Mathlib.Omega.{arith}
use lib.Pow.{pow_pos}
use Rattle.laws.proofs.WideFields.{one_shl, masked}
use Rattle.fields.proofs.whole_bytes.cut.Goals as goal

pub overflow_sub-result : goal.overflow_sub-result
overflow_sub-result c =
    let w = c.args.width in
    omega (arith, one_shl 64 w c.requires.1, pow_pos w)

pub returns : goal.returns
returns c =
    let a = c.args in
    masked (a.word / 2 ^ a.below) a.width 64 c.requires.1
