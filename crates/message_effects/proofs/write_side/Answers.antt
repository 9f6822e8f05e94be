-- A written side has its places of the slot rewritten, and one that is not written stays.
use native.Mathlib.Numerals.{add-one}
use Rattle.message_effects.proofs.write_side.Goals as goal

pub returns-then-writes : goal.returns-then-writes
returns-then-writes c =
    rw (c.if-writes.true, ← add-one) c.write_days.ensures
