-- The head's bits, two for a day, and those of the rows.
use native.Mathlib.Omega.{arith}
use Rattle.meaning.proofs.LayoutSizes.{bits-setup}
use Rattle.setups.proofs.layouts.bits_for.Goals as goal

pub returns : goal.returns
returns c = omega (arith, bits-setup c.args.days c.args.authorisations)
