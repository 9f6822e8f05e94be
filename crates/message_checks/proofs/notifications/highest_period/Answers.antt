-- The day by its place, or 48.
use mathlib.Core.Path.{ap, ◌∙◌}
use native.Mathlib.Omega.{arith}
use borrow.Author.Tests.{eq-eqb, ne_eqb}
use Rattle.meaning.specs.Time.{Time, periods_at, day_of}
use Rattle.meaning.specs.Notifications.{highest_period}
use Rattle.messages.specs.Structs.{notification_of}
use Rattle.book.specs.Structs.{time_in}
use Rattle.message_checks.proofs.CheckLaws.{periods-capped}
use Rattle.book.proofs.StateLaws.{clock-time, days-few}
use Rattle.message_checks.proofs.notifications.highest_period.Goals as goal

pub returns-then-n : goal.returns-then-n
unfolding highest_period notification_of
returns-then-n c =
    let n = c.args.n in
    rw (ne_eqb n.first n.last c.if-n.true)

pub returns : goal.returns
unfolding highest_period notification_of
returns c =
    let b = c.args.b in
    let n = c.args.n in
    rw (eq-eqb n.first n.last c.if-n.false)
    (c.periods_at.ensures
    ∙ ap (λ (t : Time). periods_at t.codes c.place_of-place.result) (clock-time b c.clock_of.ensures)
    ∙ ap (periods_at (time_in b).codes) c.place_of-place.ensures
    ∙ periods-capped b.setup.days b.setup.codes (day_of (time_in b) n.first) 255 (omega (arith, days-few b c.well_formed.0)))
