-- The gates before the day, and the period.
use native.Mathlib.Omega.{arith}
use Rattle.meaning.specs.Time.{is_open_at}
use Rattle.meaning.proofs.Clock.{gates-le}
use Rattle.clock.specs.Structs.{time_of}
use Rattle.clock.proofs.is_open_at.Goals as goal

pub overflow_add-result : goal.overflow_add-result
overflow_add-result c =
    let a = c.args in
    omega (arith, c.gates_before-gates.ensures, gates-le (time_of a.c).codes a.d)

pub returns : goal.returns
unfolding is_open_at
returns c = rw c.gates_before-gates.ensures
