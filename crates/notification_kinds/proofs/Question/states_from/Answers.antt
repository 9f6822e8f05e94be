-- Nothing found yet: nothing on a day before d, nor in a period of d before p.
use mathlib.Core.List.{[]}
use mathlib.Core.Path.{sym, ◌∙◌}
use Prim.Native.Nat.{◌≤◌, ◌<◌}
use native.Mathlib.Omega.{arith}
use Rattle.laws.proofs.Below.{some-none, some-hit}
use Rattle.messages.specs.Structs.{notification_of}
use Rattle.book.specs.Structs.{book_of, time_in}
use Rattle.notification_kinds.specs.Kinds.{periods_from, from_first}
use Rattle.notification_kinds.proofs.KindLaws.{some-keep, some-upto, from-miss, from-hit, place-states, from-few, place_inside}
use Rattle.notification_kinds.proofs.Question.states_from.Goals as goal

pub loop-d-init : goal.loop-d-init
loop-d-init c = some-none _

pub loop-p-init : goal.loop-p-init
loop-p-init c =
    some-none _

pub states_at-requires : goal.states_at-requires
unfolding notification_of
states_at-requires c =
    let q = c.args.self.now in
    let v = q.view in
    let d = c.loop-d.d in
    let p = c.loop-p.p in
    let few : p < 50 = omega (arith, c.loop-p-test.true, c.periods_from-periods.ensures, from-few (time_in v.book) q.notification.first d) in
    place_inside v.book v.held.now v.side1.now v.side2.now c.args.s d p q.fits c.requires c.loop-d-test.true few

pub loop-p-preserved : goal.loop-p-preserved
loop-p-preserved c =
    let q = c.args.self.now in
    let v = q.view in
    let stated = place-states v.book q.notification q.row q.is_row c.writes_side1-w1.ensures c.writes_side2-w2.ensures [] v.side1.now v.side2.now c.args.s c.loop-d.d c.loop-p.p c.states_at.ensures in
    some-keep _ _ c.loop-p.invariant (stated ∙ c.if-states_at.false)

pub loop-d-preserved : goal.loop-d-preserved
unfolding notification_of
loop-d-preserved c =
    let q = c.args.self.now in
    let v = q.view in
    let m = book_of v.book [] v.side1.now v.side2.now in
    let n = notification_of q.notification in
    let d = c.loop-d.d in
    let p = c.loop-p.p in
    let l : periods_from (time_in v.book) n.first d ≤ p = rw (← c.periods_from-periods.ensures) c.loop-p-test.false in
    some-keep _ _ c.loop-d.invariant (from-miss m n c.args.s d p c.loop-p.invariant l)

pub returns : goal.returns
returns c = sym (some-upto _ _ _ c.loop-d.invariant c.loop-d-test.false)

pub returns-then-states_at : goal.returns-then-states_at
unfolding notification_of
returns-then-states_at c =
    let q = c.args.self.now in
    let v = q.view in
    let m = book_of v.book [] v.side1.now v.side2.now in
    let n = notification_of q.notification in
    let d = c.loop-d.d in
    let p = c.loop-p.p in
    let stated = place-states v.book q.notification q.row q.is_row c.writes_side1-w1.ensures c.writes_side2-w2.ensures [] v.side1.now v.side2.now c.args.s d p c.states_at.ensures in
    let l : p < periods_from (time_in v.book) n.first d = rw (← c.periods_from-periods.ensures) c.loop-p-test.true in
    sym (some-hit v.book.setup.days (from_first m n c.args.s) d c.loop-d-test.true (from-hit m n c.args.s d p l (stated ∙ c.if-states_at.true)))
