-- No volume that was passed is out of range; the first that is ends the search.
use mathlib.Core.Bool.{false}
use mathlib.Core.Path.{◌≡◌}
use Rattle.words.specs.Below.{some_below}
use Rattle.message_checks.proofs.CheckLaws.{wrong_volume}
use Rattle.message_checks.proofs.notifications.first_wrong_volume.Given as goal

abbrev pub invariant-loop-k : goal.invariant-loop-k
invariant-loop-k l = some_below l.k (wrong_volume l.n) ≡ false
