-- The two tests as they stand.
use mathlib.Core.Path.{◌≡◌, ◌∙◌}
use borrow.Author.Tests.{lt-ltb, le-ltb}
use Rattle.std.proofs.Common.{rules}
use Rattle.words.specs.Tests.{between}
use Rattle.laws.proofs.Builds.{length-build}
use Rattle.meaning.specs.Time.{is_period_at}
use Rattle.clock.proofs.is_period_at.Goals as goal

pub returns-then-d-c : goal.returns-then-d-c
unfolding is_period_at
returns-then-d-c c =
    let within : c.contains.result ≡ between 1 c.periods_at-periods.result c.args.period = search rules in
    rw (length-build, lt-ltb c.args.d c.args.c.days c.if-d-c.true) (within ∙ rw c.periods_at-periods.ensures)

pub returns-else-d-c : goal.returns-else-d-c
unfolding is_period_at
returns-else-d-c c = rw (length-build, le-ltb c.args.d c.args.c.days c.if-d-c.false)
