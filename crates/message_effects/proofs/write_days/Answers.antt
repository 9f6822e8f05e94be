-- After d turns the places of the days before d are written.
use mathlib.Core.Path.{◌≡◌, refl, ◌∙◌}
use native.Mathlib.Omega.{arith}
use Rattle.clock.specs.Structs.{time_of}
use Rattle.laws.proofs.Builds.{length-build}
use Rattle.message_effects.specs.Placing.{laid_volume}
use Rattle.message_effects.proofs.DayRuns.{days-none, days-more, days-all}
use Rattle.message_effects.proofs.write_days.Goals as goal

pub loop-d-init : goal.loop-d-init
loop-d-init c = (refl, days-none c.args.c.days _ c.args.side.now)

pub loop-d-preserved : goal.loop-d-preserved
loop-d-preserved c =
    let a = c.args in
    let l = c.loop-d in
    (c.write_day.auto.side ∙ l.invariant.0, days-more a.c.days _ a.side.now l.d l.side _ l.invariant.1 c.write_day.ensures)

pub shape_of-side : goal.shape_of-side
shape_of-side c = c.loop-d.invariant.0

pub returns : goal.returns
returns c =
    let a = c.args in
    let l = c.loop-d in
    let e : l.d ≡ a.c.days = omega arith in
    rw e at l.invariant.1 ∙ days-all (time_of a.c) a.c.days a.slot a.first a.until (laid_volume a.laid.now) (length-build a.c.days _) a.side.now
