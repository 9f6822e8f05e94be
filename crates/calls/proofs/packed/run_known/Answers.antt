-- Between two turns the book is sound, and what is done and what is ahead make up the whole run.
use borrow.Author.Tests.{ltb-true, ltb-false}
use mathlib.Core.Bool.{Bool, true, ◌&&◌}
use mathlib.Core.List.{List}
use mathlib.Core.Path.{◌≡◌, ap, subst}
use Prim.Native.Nat.{ℕ, ◌<◌, min}
use native.Mathlib.Omega.{arith}
use lib.Dec.{ltb}
use lib.ListN.{length, drop}
use Rattle.std.specs.Prelude.{Option, IfSome}
use Rattle.std.specs.Option.{unwrap_or}
use Rattle.laws.proofs.Cases.{on, and_left, and_right}
use Rattle.calls.specs.Answers.{stepped_seen}
use Rattle.calls.proofs.Promises.{Steps}
use Rattle.calls.proofs.RunLaws.{rest_part, running-start, running-last, running-one, takes-some, running-full, running-out}
use Rattle.calls.proofs.packed.run_known.Goals as goal
use Rattle.calls.proofs.packed.run_known.Goals.{After-step-one, In-loop-run, Start}

pub loop-run-init : goal.loop-run-init
loop-run-init c =
    running-start _ _ _ _ _ _ _ c.requires

module _ (c : In-loop-run) where
  abbrev start : Start
  start = (goal.at.In-loop-run c).Start

  abbrev answers_left : Bool
  answers_left = ltb c.loop-run.run.done (length c.loop-run.answers)

  abbrev places_left : Bool
  places_left = ltb c.loop-run.run.done (length c.loop-run.places)

  abbrev bytes_left : Bool
  bytes_left = ltb c.loop-run.run.used (length start.args.bytes.now)

  roomy : answers_left && places_left ≡ true
  roomy = and_left (answers_left && places_left) bytes_left c.loop-run-test.true

  room : c.loop-run.run.done < min (length start.args.answers.now) (length start.args.places.now)
  room =
      let l = c.loop-run in
      let first = ltb-true l.run.done (length l.answers) (and_left answers_left places_left roomy) in
      let second = ltb-true l.run.done (length l.places) (and_right answers_left places_left roomy) in
      omega (arith, l.invariant.answers-length, l.invariant.places-length, first, second)

  more : c.loop-run.run.used < length start.args.bytes.now
  more = ltb-true c.loop-run.run.used (length start.args.bytes.now) (and_right (answers_left && places_left) bytes_left c.loop-run-test.true)

module _ (c : After-step-one) where
  abbrev turn : In-loop-run
  turn = (goal.at.After-step-one c).In-loop-run

  promised : let l = turn.loop-run in
      let left = c.step-one.new in
      Steps l.run.book l.held l.side1 l.side2 (drop l.run.used (start turn).args.bytes.now) (stepped_seen c.step-one.result) left.held left.side1 left.side2
  promised =
      let l = turn.loop-run in
      let left = c.step-one.new in
      subst
      (λ (rest : List ℕ). Steps l.run.book l.held l.side1 l.side2 rest (stepped_seen c.step-one.result) left.held left.side1 left.side2)
      (rest_part (start turn).args.bytes.now l.run.used)
      (c.step-one.ensures.0, c.step-one.ensures.1, c.step-one.ensures.2, c.step-one.ensures.3)

pub slice_bounds-step-count : goal.slice_bounds-step-count
slice_bounds-step-count c = omega (arith, more (goal.at.slice_bounds-step-count c).In-loop-run)

pub slice_bounds-step-start : goal.slice_bounds-step-start
slice_bounds-step-start c = omega (arith, more (goal.at.slice_bounds-step-start c).In-loop-run)

pub step-one-requires : goal.step-one-requires
step-one-requires c = c.loop-run.invariant.is-sound

pub bounds-answers-run : goal.bounds-answers-run
bounds-answers-run c =
    omega (arith, room (goal.at.bounds-answers-run c).In-loop-run, c.loop-run.invariant.answers-length)

pub bounds-places-run : goal.bounds-places-run
bounds-places-run c =
    omega (arith, room (goal.at.bounds-places-run c).In-loop-run, c.loop-run.invariant.places-length)

pub overflow_add-run : goal.overflow_add-run
overflow_add-run c =
    omega (arith, room (goal.at.overflow_add-run c).In-loop-run, c.loop-run.invariant.answers-length)

pub returns-in_default : goal.returns-in_default
returns-in_default c =
    let t = turn (goal.at.returns-in_default c).After-step-one in
    let none : unwrap_or c.step-one.result.taken 0 ≡ 0 = ap (λ (o : Option ℕ). unwrap_or o 0) c.in_default.is in
    rw (c.answer_told.ensures, c.place_told.ensures)
    (running-last _ _ _ _ _ _ _ t.loop-run.invariant (room t) (more t) (stepped_seen c.step-one.result) _ _ _ (promised (goal.at.returns-in_default c).After-step-one) none)

pub overflow_add-run-in-loop-run : goal.overflow_add-run-in-loop-run
overflow_add-run-in-loop-run c =
    let t = turn (goal.at.overflow_add-run-in-loop-run c).After-step-one in
    let few = takes-some _ _ _ _ _ _ _ t.loop-run.invariant (room t) (more t) (stepped_seen c.step-one.result) _ _ _ (promised (goal.at.overflow_add-run-in-loop-run c).After-step-one) in
    let taken : unwrap_or c.step-one.result.taken 0 ≡ c.in-Some.taken = ap (λ (o : Option ℕ). unwrap_or o 0) c.in-Some.is in
    omega (arith, few, taken)

pub loop-run-smaller : goal.loop-run-smaller
loop-run-smaller c =
    omega (arith, room (goal.at.loop-run-smaller c).In-loop-run)

pub loop-run-preserved : goal.loop-run-preserved
loop-run-preserved c =
    let t = turn (goal.at.loop-run-preserved c).After-step-one in
    let taken : unwrap_or c.step-one.result.taken 0 ≡ c.in-Some.taken = ap (λ (o : Option ℕ). unwrap_or o 0) c.in-Some.is in
    let some : 0 < c.in-Some.taken = subst (λ (o : Option ℕ). IfSome o (λ n. 0 < n)) c.in-Some.is c.step-one.ensures.4 in
    rw (← taken, c.answer_told.ensures, c.place_told.ensures)
    (running-one _ _ _ _ _ _ _ t.loop-run.invariant (room t) (more t) (stepped_seen c.step-one.result) _ _ _ (promised (goal.at.loop-run-preserved c).After-step-one) (λ z. omega (arith, some, taken, z))
    c.step-one.auto.held c.step-one.auto.side1 c.step-one.auto.side2)

pub shape_of-held : goal.shape_of-held
shape_of-held c = c.loop-run.invariant.held-length

pub shape_of-side1 : goal.shape_of-side1
shape_of-side1 c = c.loop-run.invariant.side1-length

pub shape_of-side2 : goal.shape_of-side2
shape_of-side2 c = c.loop-run.invariant.side2-length

pub shape_of-answers : goal.shape_of-answers
shape_of-answers c = c.loop-run.invariant.answers-length

pub shape_of-places : goal.shape_of-places
shape_of-places c = c.loop-run.invariant.places-length

pub returns : goal.returns
returns c =
    let l = c.loop-run in
    on (ltb l.run.done (length l.answers))
    (λ e.
    on (ltb l.run.done (length l.places))
    (λ q. running-out _ _ _ _ _ _ _ l.invariant (ltb-false l.run.used (length c.args.bytes.now) (rw (e, q) at c.loop-run-test.false)))
    (λ q. running-full _ _ _ _ _ _ _ l.invariant (omega (arith, l.invariant.places-length, ltb-false l.run.done (length l.places) q))))
    (λ e. running-full _ _ _ _ _ _ _ l.invariant (omega (arith, l.invariant.answers-length, ltb-false l.run.done (length l.answers) e)))
