-- The definition, test by test.
use mir.Facts.{to_z-of_z}
use mir.Syntax.{w32}
use Rattle.message_writing.specs.Writing.{entry_fits}
use Rattle.message_writing.proofs.entry_fits.Goals as goal

pub returns : goal.returns
unfolding entry_fits
returns c =
    rw (c.volume_fits.ensures, to_z-of_z {w = w32} {z = c.args.e.volume} (record { sfits = search }))
