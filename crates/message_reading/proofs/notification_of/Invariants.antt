-- Invariant: the entries below k are made, and the others are still zero.
use mathlib.Core.Path.{◌≡◌}
use Rattle.laws.proofs.Builds.{filled}
use Rattle.messages.specs.Structs.{no_entry}
use Rattle.message_reading.specs.Parts.{entry_in}
use Rattle.message_reading.proofs.notification_of.Given as goal

abbrev pub invariant-loop-k : goal.invariant-loop-k
invariant-loop-k l = l.entries ≡ filled 50 (entry_in l.bytes) no_entry l.k
