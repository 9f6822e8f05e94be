-- The definition, test by test.
use mathlib.Core.Path.{refl}
use Rattle.message_writing.specs.Writing.{nullification_fits}
use Rattle.message_writing.proofs.nullification_fits.Goals as goal

pub returns : goal.returns
unfolding nullification_fits
returns c = refl
