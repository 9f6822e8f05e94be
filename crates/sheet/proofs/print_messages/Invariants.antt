-- What is kept lies within the buffer. The measure is the number of turns that are left; the loop ends where a turn does not go on, or none is left.
use Rattle.std.proofs.Common.{◌-◌, ◌≤◌, length}
use Rattle.sheet.proofs.print_messages.Given as goal

abbrev pub invariant-loop-turns : goal.invariant-loop-turns
invariant-loop-turns l = (l.progress.kept ≤ length l.bytes) × (l.turns ≤ 18446744073709551615)

abbrev pub decreases-loop-turns : goal.decreases-loop-turns
decreases-loop-turns l = 18446744073709551615 - l.turns
