-- After k turns the sum of the first k days.
use mathlib.Core.Path.{◌≡◌, refl, ◌∙◌}
use native.Mathlib.Omega.{arith}
use Rattle.words.specs.Below.{sum_below}
use Rattle.laws.proofs.Below.{sum_more}
use Rattle.meaning.specs.Time.{periods_at, gates_before}
use Rattle.meaning.proofs.Clock.{periods-le}
use Rattle.clock.specs.Structs.{time_of}
use Rattle.clock.proofs.gates_before.Goals as goal

pub loop-k-init : goal.loop-k-init
unfolding gates_before sum_below
loop-k-init c = (refl, omega arith)

pub overflow_add-gates : goal.overflow_add-gates
overflow_add-gates c =
    let codes = (time_of c.args.c).codes in
    omega (arith, c.periods_at.ensures, periods-le codes c.loop-k.k)

pub loop-k-preserved : goal.loop-k-preserved
unfolding gates_before
loop-k-preserved c =
    let codes = (time_of c.args.c).codes in
    let l = c.loop-k in (
      cc (sum_more l.k (periods_at codes)),
      omega (arith, c.periods_at.ensures, periods-le codes l.k),
    )

pub returns : goal.returns
returns c =
    let l = c.loop-k in
    let e : l.k ≡ c.args.d = omega arith in
    l.invariant.0 ∙ rw e
