-- The two runs stored one after the other are the row.
use mathlib.Core.Path.{◌∙◌, sym}
use Prim.Native.Nat.{◌-◌, ◌≤◌}
use native.Mathlib.Nat.{sub-zero}
use native.Mathlib.Omega.{arith}
use Rattle.clock.specs.Structs.{time_of}
use Rattle.message_effects.proofs.RowRuns.{laid-from-most, kept-few, runs-laid, none-laid}
use Rattle.message_effects.proofs.placing.lay_row.Goals as goal
use Rattle.message_effects.proofs.placing.lay_row.Goals.{After-periods_kept-kept}

-- some periods keep their number, and at most 46 do not
kept-inside : (kept : After-periods_kept-kept)
    → (kept.periods_kept-kept.result ≤ kept.args.periods) × (kept.args.periods - kept.periods_kept-kept.result ≤ 46)
kept-inside kept =
    rw kept.periods_kept-kept.ensures (kept-few kept.args.single kept.args.periods)

pub returns-then-not-some_day_has : goal.returns-then-not-some_day_has
returns-then-not-some_day_has c =
    let a = c.args in
    none-laid (time_of a.c) a.single a.volumes.now a.periods a.laid.now (sym c.some_day_has.ensures ∙ c.if-not-some_day_has.true)

pub overflow_sub-moved : goal.overflow_sub-moved
overflow_sub-moved c =
    omega (arith, c.requires.few, c.requires.all-given, kept-inside (goal.at.overflow_sub-moved c).After-periods_kept-kept)

pub slice_bounds-store_run-end : goal.slice_bounds-store_run-end
slice_bounds-store_run-end c =
    omega (arith, c.requires.few, c.requires.all-given, kept-inside (goal.at.slice_bounds-store_run-end c).After-periods_kept-kept)

pub overflow_add-row : goal.overflow_add-row
overflow_add-row c =
    omega (arith, c.requires.few, c.laid_from-row.ensures, laid-from-most c.args.periods, kept-inside (goal.at.overflow_add-row c).After-periods_kept-kept)

pub overflow_sub-last : goal.overflow_sub-last
overflow_sub-last c =
    omega (arith, c.requires.few, c.requires.all-given, kept-inside (goal.at.overflow_sub-last c).After-periods_kept-kept)

pub returns : goal.returns
returns c =
    let a = c.args in
    c.store_run-2.ensures
    ∙ rw (c.store_run.ensures, c.laid_from-row.ensures, c.periods_kept-kept.ensures, sub-zero)
    (runs-laid a.single a.volumes.now a.periods c.requires.all-given c.requires.few (time_of a.c) a.laid.now (sym c.some_day_has.ensures ∙ c.if-not-some_day_has.false))
