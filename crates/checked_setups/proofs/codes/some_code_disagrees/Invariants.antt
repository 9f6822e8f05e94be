-- Every day before d agrees; the search stops at the first that does not.
use mathlib.Core.Bool.{false}
use mathlib.Core.Path.{◌≡◌}
use Rattle.words.specs.Below.{some_below}
use Rattle.checked_setups.proofs.CheckedLaws.{disagrees}
use Rattle.checked_setups.proofs.codes.some_code_disagrees.Given as goal

abbrev pub invariant-loop-d : goal.invariant-loop-d
invariant-loop-d l = some_below l.d (disagrees l.s.first l.s.codes) ≡ false
