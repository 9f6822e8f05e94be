-- The code is the definition.
use Rattle.sheet_turns.specs.Turns.{waits_for}
use Rattle.sheet_parts.proofs.turns.is_kept.Goals as goal

pub returns : goal.returns
unfolding waits_for
returns c = rw c.into.ensures
