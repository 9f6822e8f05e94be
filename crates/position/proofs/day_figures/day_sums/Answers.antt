-- After some turns the two locals hold the sums of the first slots' parts.
use mathlib.Core.Bool.{Bool, true, false}
use mathlib.Core.Path.{◌≡◌, ap, ◌∙◌}
use Prim.Native.Nat.{ℕ, suc, ◌+◌, ◌*◌, ◌^◌, ◌≤◌, ◌<◌}
use native.Mathlib.Omega.{arith}
use lib.IntN.{ℤ, nat_abs}
use lib.ListN.{length}
use Rattle.words.specs.Below.{sum_belowℤ}
use Rattle.position.proofs.Gathering.{gathered_none, gathered-fits, gathered-more}
use Rattle.meaning.specs.Time.{Time, periods_at}
use Rattle.meaning.specs.Totals.{counted, day_sum}
use Rattle.meaning.proofs.Clock.{periods-le}
use Rattle.setups.specs.Structs.{row_of}
use Rattle.book.specs.Structs.{time_in, book_seen}
use Rattle.book.proofs.StateLaws.{clock-time}
use Rattle.position.specs.Counting.{part_of, slot_part}
use Rattle.position.proofs.DayLaws.{slots-few, day-inside}
use Rattle.position.proofs.FigureLaws.{slot-parts}
use Rattle.position.proofs.day_figures.day_sums.Goals as goal
use Rattle.position.proofs.day_figures.day_sums.Goals.{After-periods_at-periods, After-slot_sums-sums, Start}

-- the day's periods
day-periods : (c : After-periods_at-periods) → let day = c.args.day in c.periods_at-periods.result ≡ periods_at (time_in day.view.book).codes day.place
day-periods c =
    let day = c.args.day in
    c.periods_at-periods.ensures ∙ ap (λ (t : Time). periods_at t.codes day.place) (clock-time day.view.book c.clock_of.ensures)

pub loop-slot-init : goal.loop-slot-init
loop-slot-init c = record { sold_so_far = gathered_none _ _; bought_so_far = gathered_none _ _ }

-- a sound book's slots are few
few : (s : Start) → length s.args.day.view.held.now ≤ 256
few s =
    let day = s.args.day in
    let v = day.view in
    slots-few v.book v.held.now v.side1.now v.side2.now day.place day.asked

pub slot_sums-sums-requires : goal.slot_sums-sums-requires
slot_sums-sums-requires c =
    let a = c.args in
    let v = a.day.view in
    let periods = c.periods_at-periods.result in
    let short : periods ≤ 50 = omega (arith, day-periods (goal.at.slot_sums-sums-requires c).After-periods_at-periods, periods-le (time_in v.book).codes a.day.place) in
    (day-inside v.book v.held.now v.side1.now v.side2.now a.day.place a.day.asked c.loop-slot.slot c.slot_day-at.result.first periods c.loop-slot-test.true c.slot_day-at.ensures.1 short, short)

-- a turn: the slot's parts
module _ (c : After-slot_sums-sums) where
  abbrev sums : Bool → ℕ → ℤ
  sums below k =
      let a = c.args in
      sum_belowℤ c.periods_at-periods.result (λ (p : ℕ). part_of below (counted (book_seen a.day.view) a.account a.day.place (suc p) k))

  part : (below : Bool) → let a = c.args in
      slot_part below (row_of c.slot_day-at.result.origin) a.account a.day.view.side1.now a.day.view.side2.now c.slot_day-at.result.first c.periods_at-periods.result
      ≡ sums below c.loop-slot.slot
  part below =
      let a = c.args in
      let v = a.day.view in
      let slot = c.slot_day-at in
      slot-parts v.book v.held.now v.side1.now v.side2.now a.account a.day.place c.loop-slot.slot c.periods_at-periods.result below (row_of slot.result.origin) slot.result.first slot.ensures.0 slot.ensures.1

  sold-term : c.slot_sums-sums.result.sold ≡ sums false c.loop-slot.slot
  sold-term = c.slot_sums-sums.ensures.sold-is ∙ part false

  bought-term : c.slot_sums-sums.result.bought ≡ sums true c.loop-slot.slot
  bought-term = c.slot_sums-sums.ensures.bought-is ∙ part true

  sold-small : nat_abs (sums false c.loop-slot.slot) ≤ 107374182400
  sold-small = rw (← sold-term) c.slot_sums-sums.ensures.sold-fits

  bought-small : nat_abs (sums true c.loop-slot.slot) ≤ 107374182400
  bought-small = rw (← bought-term) c.slot_sums-sums.ensures.bought-fits

pub overflow_add-sold : goal.overflow_add-sold
overflow_add-sold c =
    let at = (goal.at.overflow_add-sold c).After-slot_sums-sums in
    gathered-fits c.slot_sums-sums.result.sold c.loop-slot.invariant.sold_so_far (sold-term at) (sold-small at) (omega (arith, few (goal.at.overflow_add-sold c).Start))

pub overflow_add-bought : goal.overflow_add-bought
overflow_add-bought c =
    let at = (goal.at.overflow_add-bought c).After-slot_sums-sums in
    gathered-fits c.slot_sums-sums.result.bought c.loop-slot.invariant.bought_so_far (bought-term at) (bought-small at) (omega (arith, few (goal.at.overflow_add-bought c).Start))

pub loop-slot-preserved : goal.loop-slot-preserved
loop-slot-preserved c =
    let l = c.loop-slot.invariant in
    let at = (goal.at.loop-slot-preserved c).After-slot_sums-sums in
    let more : (c.loop-slot.slot + 1) * 107374182400 < 2 ^ 63 = omega (arith, few (goal.at.loop-slot-preserved c).Start) in
    record {
      sold_so_far = gathered-more c.slot_sums-sums.result.sold l.sold_so_far (sold-term at) (sold-small at) more;
      bought_so_far = gathered-more c.slot_sums-sums.result.bought l.bought_so_far (bought-term at) (bought-small at) more;
    }

pub returns : goal.returns
unfolding day_sum
returns c =
    let l = c.loop-slot in
    let e : l.slot ≡ length c.args.day.view.held.now = omega arith in
    let sold = l.invariant.sold_so_far in
    let bought = l.invariant.bought_so_far in
    record {
      sold-is = sold.is ∙ rw (e, day-periods (goal.at.returns c).After-periods_at-periods);
      bought-is = bought.is ∙ rw (e, day-periods (goal.at.returns c).After-periods_at-periods);
      sold-fits = rw sold.is (omega (arith, few (goal.at.returns c).Start, sold.bound));
      bought-fits = rw bought.is (omega (arith, few (goal.at.returns c).Start, bought.bound));
    }
