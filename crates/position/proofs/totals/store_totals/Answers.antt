-- After some turns the day's places hold what the first slots count together.
use mathlib.Core.Path.{◌≡◌, ap, ◌∙◌}
use Prim.Native.Nat.{◌≤◌}
use native.Mathlib.Omega.{arith}
use lib.ListN.{length}
use Rattle.words.specs.Lists.{on_front}
use Rattle.laws.proofs.Fronts.{front_length}
use Rattle.meaning.specs.Time.{Time, periods_at}
use Rattle.meaning.specs.Totals.{sum_of}
use Rattle.meaning.proofs.Clock.{periods-le}
use Rattle.book.specs.Structs.{time_in}
use Rattle.book.proofs.StateLaws.{clock-time}
use Rattle.setups.specs.Structs.{row_of}
use Rattle.position.proofs.DayLaws.{day-inside, sums-begin, sums-more, sums-end, sums-bounded}
use Rattle.position.proofs.totals.store_totals.Goals as goal
use Rattle.position.proofs.totals.store_totals.Goals.{After-clear, After-periods_at-periods}

-- the day's periods
day-periods : (c : After-periods_at-periods) → let day = c.args.day in c.periods_at-periods.result ≡ periods_at (time_in day.view.book).codes day.place
day-periods c =
    let day = c.args.day in
    c.periods_at-periods.ensures ∙ ap (λ (t : Time). periods_at t.codes day.place) (clock-time day.view.book c.clock_of.ensures)

pub clear-requires : goal.clear-requires
clear-requires c = omega (arith, day-periods (goal.at.clear-requires c).After-periods_at-periods, c.requires)

-- what was cleared is as long as what is lent, and has room for the day
cleared-length : (c : After-clear) → length c.clear.new.out ≡ length c.args.out.now
cleared-length c = ap length c.clear.ensures ∙ front_length _ _ c.args.out.now

room : (c : After-clear) → c.periods_at-periods.result ≤ length c.args.out.now
room c = omega (arith, day-periods (goal.at.After-clear c).After-periods_at-periods, c.requires)

pub loop-slot-init : goal.loop-slot-init
loop-slot-init c =
    let a = c.args in
    let v = a.day.view in
    sums-begin v.book v.held.now v.side1.now v.side2.now a.account a.day.place c.periods_at-periods.result a.out.now c.clear.new.out (room (goal.at.loop-slot-init c).After-clear) c.clear.ensures

pub add_slot-requires : goal.add_slot-requires
add_slot-requires c =
    let n = c.periods_at-periods.result in
    let a = c.args in
    let v = a.day.view in
    let after = (goal.at.add_slot-requires c).After-clear in
    let long : n ≤ length c.clear.new.out = omega (arith, room after, cleared-length after) in (
      day-inside v.book v.held.now v.side1.now v.side2.now a.day.place a.day.asked c.loop-slot.slot c.slot_day-at.result.first n c.loop-slot-test.true c.slot_day-at.ensures.1
          (omega (arith, day-periods (goal.at.add_slot-requires c).After-periods_at-periods, periods-le (time_in v.book).codes a.day.place)),
      rw (ap length c.loop-slot.invariant ∙ front_length _ _ c.clear.new.out) long,
      sums-bounded v.book v.held.now v.side1.now v.side2.now a.account a.day.place a.day.asked c.loop-slot.slot n c.clear.new.out c.loop-slot.out (omega arith) long c.loop-slot.invariant,
    )

pub loop-slot-preserved : goal.loop-slot-preserved
loop-slot-preserved c =
    let n = c.periods_at-periods.result in
    let a = c.args in
    let v = a.day.view in
    let slot = c.slot_day-at in
    c.add_slot.ensures
    ∙ ap (on_front n _) c.loop-slot.invariant
    ∙ sums-more v.book v.held.now v.side1.now v.side2.now a.account a.day.place c.loop-slot.slot n slot.result.first (row_of slot.result.origin) c.clear.new.out slot.ensures.0 slot.ensures.1

pub returns : goal.returns
unfolding sum_of
returns c =
    let l = c.loop-slot in
    let a = c.args in
    let v = a.day.view in
    let e : l.slot ≡ length v.held.now = omega arith in
    sums-end v.book v.held.now v.side1.now v.side2.now a.account a.day.place l.slot c.periods_at-periods.result a.out.now c.clear.new.out l.out c.clear.ensures l.invariant
    ∙ rw (e, day-periods (goal.at.returns c).After-periods_at-periods)
