-- Nothing found yet: no slot before s overlaps, no day of s before d, no period of d before p.
use mathlib.Core.Path.{sym, ap, ◌∙◌}
use Prim.Native.Nat.{ℕ, ◌-◌, ◌≤◌, ◌<◌}
use native.Mathlib.Omega.{arith}
use lib.ListN.{length}
use Rattle.words.specs.Below.{some_below}
use Rattle.laws.proofs.Below.{some-none, some-hit}
use Rattle.meaning.specs.Time.{gates_before}
use Rattle.meaning.specs.Notifications.{overlaps}
use Rattle.messages.specs.Structs.{notification_of}
use Rattle.setups.proofs.SetupHeld.{codes-own}
use Rattle.book.specs.Structs.{book_seen, time_in}
use Rattle.notification_kinds.specs.Kinds.{periods_within}
use Rattle.notification_kinds.proofs.KindLaws.{some-keep, some-upto, on_period, slot-skip, slot-miss, slot-hit, day-miss, day-hit, closed-miss, open-states, within-few, place_inside}
use Rattle.notification_kinds.proofs.Question.is_overlapped.Goals as goal
use Rattle.notification_kinds.proofs.Question.is_overlapped.Goals.{then-is_other+else-loop-d-test, else-is_other}

pub loop-s-init : goal.loop-s-init
loop-s-init c = some-none _

pub loop-d-init : goal.loop-d-init
loop-d-init c =
    some-none _

pub loop-p-init : goal.loop-p-init
loop-p-init c =
    let q = c.args.self.now in
    let v = q.view in
    let m = book_seen v in
    let n = notification_of q.notification in
    let s = c.loop-s.s in
    let d = c.loop-d.d in
    (omega arith, ap (λ (k : ℕ). some_below k (on_period m n s d)) c.first_open-first.ensures ∙ closed-miss m n s d)

pub states_at-requires : goal.states_at-requires
unfolding notification_of
states_at-requires c =
    let q = c.args.self.now in
    let v = q.view in
    let n = notification_of q.notification in
    let s = c.loop-s.s in
    let d = c.loop-d.d in
    let p = c.loop-p.p in
    let few : p < 50 = omega (arith, c.loop-p-test.true, c.periods_within-periods.ensures, within-few (time_in v.book) n.first n.last d) in
    place_inside v.book v.held.now v.side1.now v.side2.now s d p q.fits c.loop-s-test.true c.loop-d-test.true few

pub loop-p-preserved : goal.loop-p-preserved
loop-p-preserved c =
    let q = c.args.self.now in
    let v = q.view in
    let d = c.loop-d.d in
    let p = c.loop-p.p in
    let l : v.book.closed - gates_before (time_in v.book).codes d ≤ p = omega (arith, c.first_open-first.ensures, c.loop-p.invariant.0) in
    let stated = open-states v.book q.notification q.row q.is_row c.writes_side1-w1.ensures c.writes_side2-w2.ensures v.held.now v.side1.now v.side2.now c.loop-s.s d p c.states_at.ensures l in
    (omega (arith, c.loop-p.invariant.0), some-keep _ _ c.loop-p.invariant.1 (stated ∙ c.if-states_at.false))

pub loop-d-preserved : goal.loop-d-preserved
unfolding notification_of
loop-d-preserved c =
    let q = c.args.self.now in
    let v = q.view in
    let m = book_seen v in
    let n = notification_of q.notification in
    let d = c.loop-d.d in
    let p = c.loop-p.p in
    let l : periods_within (time_in v.book) n.first n.last d ≤ p = rw (← c.periods_within-periods.ensures) c.loop-p-test.false in
    some-keep _ _ c.loop-d.invariant (day-miss m n c.loop-s.s d p c.loop-p.invariant.1 l)

pub loop-s-preserved : goal.loop-s-preserved
loop-s-preserved c =
    let q = c.args.self.now in
    let v = q.view in
    let m = book_seen v in
    let n = notification_of q.notification in
    let s = c.loop-s.s in
    elim c.if-is_other.branch [
      | then-is_other+else-loop-d-test w ↦
          some-keep _ _ c.loop-s.invariant (slot-miss m n s w.loop-d.d w.loop-d.invariant (rw (codes-own v.book.setup.days v.book.setup.codes) w.loop-d-test.false))
      | else-is_other w ↦ some-keep _ _ c.loop-s.invariant (slot-skip m n s (sym c.is_other.ensures ∙ w.if-is_other.false))
    ]

pub returns : goal.returns
returns c = sym (some-upto _ _ _ c.loop-s.invariant c.loop-s-test.false)

pub returns-then-states_at : goal.returns-then-states_at
unfolding notification_of
returns-then-states_at c =
    let q = c.args.self.now in
    let v = q.view in
    let m = book_seen v in
    let n = notification_of q.notification in
    let s = c.loop-s.s in
    let d = c.loop-d.d in
    let p = c.loop-p.p in
    let l : v.book.closed - gates_before (time_in v.book).codes d ≤ p = omega (arith, c.first_open-first.ensures, c.loop-p.invariant.0) in
    let stated = open-states v.book q.notification q.row q.is_row c.writes_side1-w1.ensures c.writes_side2-w2.ensures v.held.now v.side1.now v.side2.now s d p c.states_at.ensures l in
    let k : p < periods_within (time_in v.book) n.first n.last d = rw (← c.periods_within-periods.ensures) c.loop-p-test.true in
    sym
    (some-hit (length v.held.now) (overlaps m n) s c.loop-s-test.true
    (slot-hit m n s d (sym c.is_other.ensures ∙ c.if-is_other.true) (rw (codes-own v.book.setup.days v.book.setup.codes) c.loop-d-test.true)
    (day-hit m n s d p k (stated ∙ c.if-states_at.true))))
