-- One fewer where one is waited for.
use Rattle.sheet_turns.specs.Turns.{count_told}
use Rattle.sheet_parts.proofs.turns.count_told.Goals as goal

pub returns-then-waiting : goal.returns-then-waiting
unfolding count_told
returns-then-waiting c = rw c.if-waiting.true c.saturating_sub.ensures

pub returns-else-waiting : goal.returns-else-waiting
unfolding count_told
returns-else-waiting c = rw c.if-waiting.false
