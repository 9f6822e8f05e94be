-- The loop's invariant: the entries passed are written behind the head.
use mathlib.Core.Path.{◌≡◌}
use Rattle.message_writing.specs.Writing.{entries_into}
use Rattle.message_writing.proofs.write_entries.Given as goal

abbrev pub invariant-loop-k : goal.invariant-loop-k
invariant-loop-k l = l.out ≡ entries_into l.n l.initial.out l.k
