-- Every day before d has its gates closed; the search stops at the first that has not.
use mathlib.Core.Bool.{true, false}
use mathlib.Core.Path.{◌≡◌, sym, ap, ◌∙◌}
use Prim.Native.Nat.{ℕ, suc, ◌+◌, ◌≤◌, ◌<◌}
use native.Mathlib.Numerals.{add-one}
use native.Mathlib.Omega.{arith}
use borrow.Author.Tests.{lt-ltb, le-ltb}
use Rattle.laws.proofs.Below.{first-is}
use Rattle.laws.proofs.Builds.{length-build}
use Rattle.laws.proofs.Cases.{by-eq}
use Rattle.meaning.specs.Time.{gates_before, current_day}
use Rattle.clock.specs.declared.Clock.{Clock}
use Rattle.clock.specs.Structs.{time_of}
use Rattle.clock.proofs.current_day.Invariants.{open-day}
use Rattle.clock.proofs.current_day.Goals as goal

-- where the search stops
current-is : (c : Clock) (d : ℕ) → d ≤ c.days → ((k : ℕ) → k < d → open-day c k ≡ false) → (d < c.days → open-day c d ≡ true) → c.first + d ≡ current_day (time_of c)
unfolding current_day
current-is c d h none hit =
    rw length-build (ap (λ (n : ℕ). c.first + n) (sym (first-is c.days (open-day c) d h none hit)))

pub loop-d-init : goal.loop-d-init
loop-d-init c = λ k h. absurd (omega arith)

pub returns-then-c-gates : goal.returns-then-c-gates
returns-then-c-gates c =
    let book = c.args.c in
    let l = c.loop-d in
    let gates = c.gates_before-gates in
    current-is book l.d (omega arith) l.invariant
    (λ h. lt-ltb book.closed (gates_before (time_of book).codes (suc l.d)) (omega (arith, gates.ensures, ap (gates_before (time_of book).codes) (add-one l.d), c.if-c-gates.true)))

pub loop-d-preserved : goal.loop-d-preserved
loop-d-preserved c =
    let book = c.args.c in
    let l = c.loop-d in
    let gates = c.gates_before-gates in
    λ k h. by-eq k l.d
    (λ e. rw e (le-ltb book.closed (gates_before (time_of book).codes (suc l.d)) (omega (arith, gates.ensures, ap (gates_before (time_of book).codes) (add-one l.d), c.if-c-gates.false))))
    (λ n. l.invariant k (omega arith))

pub returns : goal.returns
returns c =
    let book = c.args.c in
    let l = c.loop-d in
    let e : l.d ≡ book.days = omega (arith, c.loop-d-test.false) in
    ap (λ (n : ℕ). book.first + n) (sym e) ∙ current-is book l.d (omega arith) l.invariant (λ h. absurd (omega arith))
