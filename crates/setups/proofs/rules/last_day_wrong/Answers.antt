-- The number of days is the number of codes.
use Rattle.meaning.specs.Books.{last_day_wrong}
use Rattle.setups.specs.Structs.{setup_of}
use Rattle.setups.proofs.SetupHeld.{codes-own}
use Rattle.setups.proofs.rules.last_day_wrong.Goals as goal

pub returns : goal.returns
unfolding last_day_wrong setup_of
returns c = rw codes-own
