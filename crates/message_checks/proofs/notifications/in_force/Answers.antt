-- The two tests as they stand.
use mathlib.Core.Path.{refl}
use Rattle.message_checks.proofs.notifications.in_force.Goals as goal

pub returns : goal.returns
returns c = refl
