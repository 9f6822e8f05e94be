-- Every day before d agrees; the search stops at the first that does not.
use mathlib.Core.Bool.{not}
use mathlib.Core.Path.{◌≡◌, sym, ap, ◌∙◌}
use Prim.Native.Nat.{ℕ, ◌+◌}
use native.Mathlib.Omega.{arith}
use lib.Dec.{eqb}
use lib.ListN.{get_or}
use borrow.Author.Tests.{eq-eqb, ne_eqb}
use Rattle.words.specs.Below.{some_below}
use Rattle.laws.proofs.Cases.{by-eq, neither}
use Rattle.laws.proofs.Below.{some-none, some_more, some-hit}
use Rattle.calendar.specs.Calendar.{code_of}
use Rattle.checked_setups.proofs.CheckedLaws.{coded-is, disagrees, struct-disagrees}
use Rattle.checked_setups.proofs.codes.some_code_disagrees.Goals as goal
use Rattle.checked_setups.proofs.codes.some_code_disagrees.Goals.{After-ne}

eqb-swapped : (a b : ℕ) → eqb a b ≡ eqb b a
eqb-swapped a b =
    by-eq a b
    (λ e. eq-eqb a b e ∙ sym (eq-eqb b a (sym e)))
    (λ e. ne_eqb a b e ∙ sym (ne_eqb b a (λ q. e (sym q))))

-- what the calendar's code says of a day
verdict : (c : After-ne) → disagrees c.args.s.first c.args.s.codes c.loop-d.d ≡ c.ne.result
verdict c =
    let s = c.args.s in
    let d = c.loop-d.d in
    let given = coded-is (s.first + d) c.code_of_day-coded.result (omega arith) c.code_of_day-coded.ensures in
    ap not (eqb-swapped (get_or s.codes d 0) (code_of (s.first + d))) ∙ sym (rw given at c.ne.ensures)

pub loop-d-init : goal.loop-d-init
loop-d-init c = some-none _

pub returns-then-ne : goal.returns-then-ne
returns-then-ne c =
    let s = c.args.s in
    let k = (goal.at.returns-then-ne c).After-ne in
    sym (struct-disagrees s ∙ some-hit s.days (disagrees s.first s.codes) c.loop-d.d c.loop-d-test.true (verdict k ∙ c.if-ne.true))

pub loop-d-preserved : goal.loop-d-preserved
loop-d-preserved c =
    let s = c.args.s in
    let k = (goal.at.loop-d-preserved c).After-ne in
    some_more c.loop-d.d (disagrees s.first s.codes) ∙ neither c.loop-d.invariant (verdict k ∙ c.if-ne.false)

pub returns : goal.returns
returns c =
    let s = c.args.s in
    let l = c.loop-d in
    let e : l.d ≡ s.days = omega arith in
    sym (struct-disagrees s ∙ ap (λ (n : ℕ). some_below n (disagrees s.first s.codes)) (sym e) ∙ l.invariant)
