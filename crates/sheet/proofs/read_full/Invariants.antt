-- What is read lies within the buffer. The measure is the room that is left.
use Rattle.std.proofs.Common.{◌-◌, ◌≤◌, length}
use Rattle.sheet.proofs.read_full.Given as goal

abbrev pub invariant-loop-have : goal.invariant-loop-have
invariant-loop-have l = l.have ≤ length l.bytes

abbrev pub decreases-loop-have : goal.decreases-loop-have
decreases-loop-have l = length l.initial.bytes - l.have
