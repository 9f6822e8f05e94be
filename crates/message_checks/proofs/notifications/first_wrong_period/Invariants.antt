-- No period that was passed is wrong, and `before` is the last of them; the first that is wrong ends the search, and so do 50 entries.
use mathlib.Core.Bool.{false}
use mathlib.Core.Path.{◌≡◌}
use Rattle.words.specs.Below.{some_below}
use Rattle.message_checks.proofs.CheckLaws.{prior, wrong_period, period_of}
use Rattle.message_checks.proofs.notifications.first_wrong_period.Given as goal

abbrev pub invariant-loop-k : goal.invariant-loop-k
invariant-loop-k l = (l.before ≡ prior (period_of l.n) l.k) × (some_below l.k (wrong_period l.highest (period_of l.n)) ≡ false)
