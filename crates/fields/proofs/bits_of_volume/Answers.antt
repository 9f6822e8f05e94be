-- Where the volume has room its bits are taken, and else 0.
use mathlib.Core.Path.{◌≡◌, sym, ◌∙◌}
use mir.Syntax.{w32}
use mir.Facts.{to_z-of_z}
use mir.Val.{to_z, of_z}
use Rattle.words.specs.Fields.{fits_signed}
use Rattle.laws.proofs.Signed.{fits-mag}
use Rattle.fields.specs.Narrow.{volume_bits}
use Rattle.fields.proofs.bits_of_volume.Goals as goal
use Rattle.fields.proofs.bits_of_volume.Goals.{After-volume_fits}

-- what the test answers, of the volume itself
module _ (c : After-volume_fits) where
  back : to_z w32 (of_z w32 c.args.z) ≡ c.args.z
  back = to_z-of_z {w = w32} c.ranges.z

  tested : fits_signed 27 c.args.z ≡ c.volume_fits.result
  tested = sym (c.volume_fits.ensures ∙ rw back)

pub bits_of_fitting-requires : goal.bits_of_fitting-requires
bits_of_fitting-requires c = rw (back (goal.at.bits_of_fitting-requires c).After-volume_fits) (fits-mag 27 c.args.z (tested (goal.at.bits_of_fitting-requires c).After-volume_fits ∙ c.if-volume_fits.true))

pub returns-then-volume_fits : goal.returns-then-volume_fits
unfolding volume_bits
returns-then-volume_fits c = rw (tested (goal.at.returns-then-volume_fits c).After-volume_fits ∙ c.if-volume_fits.true) (c.bits_of_fitting.ensures ∙ rw (back (goal.at.returns-then-volume_fits c).After-volume_fits))

pub returns-else-volume_fits : goal.returns-else-volume_fits
unfolding volume_bits
returns-else-volume_fits c = rw (tested (goal.at.returns-else-volume_fits c).After-volume_fits ∙ c.if-volume_fits.false)
