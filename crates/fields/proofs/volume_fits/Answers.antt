-- The two tests of the machine are the range that fits.
use mir.Syntax.{w32}
use mir.Facts.{to_z-of_z}
use Rattle.laws.proofs.Signed.{range-fits}
use Rattle.fields.proofs.volume_fits.Goals as goal

pub returns : goal.returns
returns c = simp (to_z-of_z {w = w32} c.ranges.z) (range-fits 27 c.args.z)
