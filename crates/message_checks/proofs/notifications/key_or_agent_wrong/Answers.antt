-- The tests as they stand.
use mathlib.Core.Path.{refl}
use Rattle.message_checks.proofs.notifications.key_or_agent_wrong.Goals as goal

pub returns : goal.returns
returns c = refl
