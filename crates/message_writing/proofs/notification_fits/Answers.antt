-- The definition, test by test.
use Rattle.message_writing.specs.Writing.{notification_fits}
use Rattle.message_writing.proofs.notification_fits.Goals as goal

pub returns : goal.returns
unfolding notification_fits
returns c = rw c.entries_fit.ensures
