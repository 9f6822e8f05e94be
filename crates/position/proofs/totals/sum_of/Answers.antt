-- After some turns the local holds what the first slots count together.
use mathlib.Core.Path.{◌≡◌, ap, ◌∙◌}
use Prim.Native.Nat.{ℕ, suc, ◌+◌, ◌^◌, ◌≤◌, ◌<◌}
use native.Mathlib.Omega.{arith}
use borrow.Author.Rules.{rules}
use lib.IntN.{ℤ, nat_abs}
use lib.ListN.{length}
use Rattle.setups.specs.Structs.{row_of}
use Rattle.ledger.proofs.PlaceLaws.{index-next}
use Rattle.meaning.specs.Ledgers.{index}
use Rattle.meaning.specs.Totals.{counted, sum_of}
use Rattle.book.specs.Structs.{book_seen}
use Rattle.position.proofs.Gathering.{gathered_none, gathered-fits, gathered-more}
use Rattle.position.proofs.DayLaws.{slots-few, place_inside, counted-from}
use Rattle.position.proofs.totals.sum_of.Goals as goal
use Rattle.position.proofs.totals.sum_of.Goals.{After-counted_at-kwh, After-slot_day-at, Start}

-- a sound book's slots are few
few : (s : Start) → length s.args.day.view.held.now ≤ 256
few s =
    let day = s.args.day in
    let v = day.view in
    slots-few v.book v.held.now v.side1.now v.side2.now day.place day.asked

pub loop-slot-init : goal.loop-slot-init
loop-slot-init c = gathered_none _ _

-- the slot's place
inside : (c : After-slot_day-at) → let v = c.args.day.view in let place = c.slot_day-at.result.first + c.args.p in (place < length v.side1.now) × (place < length v.side2.now)
inside c =
    let v = c.args.day.view in
    let place-is : c.slot_day-at.result.first + c.args.p ≡ index v.book.setup.days c.loop-slot.slot c.args.day.place (suc c.args.p) =
    ap (λ (k : ℕ). k + c.args.p) c.slot_day-at.ensures.1 ∙ index-next v.book.setup.days c.loop-slot.slot c.args.day.place c.args.p in
    place_inside v.book v.held.now v.side1.now v.side2.now c.args.day.place c.args.day.asked c.loop-slot.slot (c.slot_day-at.result.first + c.args.p) c.args.p c.loop-slot-test.true place-is c.requires

pub overflow_add-place : goal.overflow_add-place
overflow_add-place c =
    let short : length c.args.day.view.side1.now < 2 ^ 64 = search rules in
    omega (arith, (inside (goal.at.overflow_add-place c).After-slot_day-at).0, short)

pub counted_at-kwh-requires : goal.counted_at-kwh-requires
counted_at-kwh-requires c = inside (goal.at.counted_at-kwh-requires c).After-slot_day-at

-- a turn: what the slot counts
module _ (c : After-counted_at-kwh) where
  abbrev counts : ℕ → ℤ
  counts = counted (book_seen c.args.day.view) c.args.account c.args.day.place (suc c.args.p)

  term : c.counted_at-kwh.result ≡ counts c.loop-slot.slot
  term =
      let a = c.args in
      let v = a.day.view in
      let slot = c.slot_day-at in
      c.counted_at-kwh.ensures.0
      ∙ counted-from v.book v.held.now v.side1.now v.side2.now a.account a.day.place c.loop-slot.slot (row_of slot.result.origin) slot.result.first slot.ensures.0 slot.ensures.1 a.p

  small : nat_abs (counts c.loop-slot.slot) ≤ 2147483648
  small = rw (← term) c.counted_at-kwh.ensures.1

pub overflow_add-kwh : goal.overflow_add-kwh
overflow_add-kwh c =
    let at = (goal.at.overflow_add-kwh c).After-counted_at-kwh in
    gathered-fits c.counted_at-kwh.result c.loop-slot.invariant (term at) (small at) (omega (arith, few (goal.at.overflow_add-kwh c).Start))

pub loop-slot-preserved : goal.loop-slot-preserved
loop-slot-preserved c =
    let at = (goal.at.loop-slot-preserved c).After-counted_at-kwh in
    gathered-more c.counted_at-kwh.result c.loop-slot.invariant (term at) (small at) (omega (arith, few (goal.at.loop-slot-preserved c).Start))

pub returns : goal.returns
unfolding sum_of
returns c =
    let l = c.loop-slot in
    let e : l.slot ≡ length c.args.day.view.held.now = omega arith in
    l.invariant.is ∙ rw e
