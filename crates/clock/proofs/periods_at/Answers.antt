-- A day of the book by its code; past the days, and past the array, code 0.
use mathlib.Core.Path.{sym, ◌∙◌}
use native.Mathlib.Omega.{arith}
use Rattle.laws.proofs.Cases.{by-lt}
use Rattle.clock.proofs.Codes.{codes-length, periods-inside, periods-past, periods-beyond}
use Rattle.clock.proofs.periods_at.Goals as goal

pub returns-then-min-d : goal.returns-then-min-d
returns-then-min-d c =
    let a = c.args in
    c.periods_of.ensures
    ∙ sym (by-lt a.d a.c.days
    (λ h. periods-beyond a.c a.d (omega (arith, codes-length a.c c.well_formed.0)))
    (λ h. periods-past a.c a.d h))

pub returns : goal.returns
returns c =
    let a = c.args in
    c.periods_of-2.ensures ∙ sym (periods-inside a.c a.d (omega arith))
