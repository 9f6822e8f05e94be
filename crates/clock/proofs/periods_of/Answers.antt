-- Each arm is a code.
use native.Mathlib.Omega.{arith}
use Rattle.std.proofs.lemmas.Bool.Decides.{nat_tests}
use Rattle.meaning.specs.Time.{periods_of_code}
use Rattle.clock.proofs.periods_of.Goals as goal

pub returns-in-0 : goal.returns-in-0
unfolding periods_of_code
returns-in-0 c = rw c.in-0.is

pub returns-in-1 : goal.returns-in-1
unfolding periods_of_code
returns-in-1 c = rw c.in-1.is

pub returns-in-2 : goal.returns-in-2
unfolding periods_of_code
returns-in-2 c = rw c.in-2.is

pub returns-in_default : goal.returns-in_default
unfolding periods_of_code
returns-in_default c = grind (arith, nat_tests)
