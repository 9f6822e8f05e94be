-- The number goes half the span up, round it, and half the span down again.
use mathlib.Core.Path.{◌∙◌}
use Prim.Native.Nat.{◌+◌, ◌%◌}
use native.Mathlib.Omega.{arith}
use lib.IntN.{pos, ◌-ℤ◌}
use mir.Syntax.{w32}
use mir.Val.{SFits, to_z}
use mir.ValLaws.{to_z-of_z}
use Rattle.laws.proofs.Signed.{code-signed, signed-mag}
use Rattle.fields.proofs.volume_of_bits.Goals as goal
use Rattle.fields.proofs.volume_of_bits.Goals.{Start}

fits : (c : Start) → SFits w32 (to_z w32 ((c.args.v % 268435456 + 134217728) % 268435456) -ℤ pos 134217728)
fits c = rw (code-signed (c.args.v % 268435456) (omega arith)) (record { sfits = omega (arith, signed-mag 27 (c.args.v % 268435456) (omega arith)) })

pub overflow_sub-result : goal.overflow_sub-result
overflow_sub-result c = fits (goal.at.overflow_sub-result c).Start

pub returns : goal.returns
returns c = to_z-of_z w32 _ (fits (goal.at.returns c).Start) ∙ code-signed (c.args.v % 268435456) (omega arith)
