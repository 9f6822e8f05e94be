-- The closed form is tested over the hundred years (Years.antt).
use mathlib.Core.Path.{◌≡◌, sym}
use Prim.Native.Nat.{ℕ, ◌+◌, ◌-◌}
use native.Mathlib.Omega.{arith}
use Rattle.calendar.proofs.Years.{year-start}
use Rattle.calendar.proofs.dates.before_year.Goals as goal

pub returns : goal.returns
returns c =
    let y : ℕ = c.args.year - 2000 in
    let e : 2000 + y ≡ c.args.year = omega arith in
    sym (rw e at (year-start y (omega arith)))
