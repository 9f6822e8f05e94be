-- From the first day on the difference counts.
use borrow.Author.Tests.{le-leb}
use Rattle.laws.proofs.Builds.{length-build}
use Rattle.clock.proofs.has_day.Goals as goal

pub returns-then-c-day : goal.returns-then-c-day
returns-then-c-day c = rw (le-leb c.args.c.first c.args.day c.if-c-day.true, length-build)
