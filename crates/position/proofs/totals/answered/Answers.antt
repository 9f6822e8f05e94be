-- The range of a total is one bound of its size.
use mathlib.Core.Path.{◌≡◌, sym, ap, ◌∙◌}
use lib.IntN.{ℤ}
use mir.Facts.{to_z-of_z}
use mir.Syntax.{w64}
use mir.Val.{to_z, of_z}
use Rattle.words.specs.Tests.{within}
use Rattle.position.specs.Counting.{sum_answered}
use Rattle.position.specs.declared.Totalled.{Totalled}
use Rattle.position.proofs.WholeRanges.{in-range-within}
use Rattle.position.proofs.totals.answered.Goals as goal
use Rattle.position.proofs.totals.answered.Goals.{After-contains}

asked : (c : After-contains) → c.contains.result ≡ within 99999999999 c.args.kwh
asked c =
    let r = c.new.ensures in
    c.contains.ensures.value
    ∙ in-range-within c.new.result 99999999999 (to_z w64 (of_z w64 c.args.kwh)) r.start r.end r.exhausted
    ∙ ap (within 99999999999) (to_z-of_z {w = w64} c.ranges.kwh)

pub returns-then-contains : goal.returns-then-contains
unfolding sum_answered
returns-then-contains c =
    let made : ℤ → Totalled = λ (kwh : ℤ). record { answer = 0; kwh = kwh } in
    ap made (to_z-of_z {w = w64} c.ranges.kwh) ∙ rw (sym (asked (goal.at.returns-then-contains c).After-contains) ∙ c.if-contains.true)

pub returns : goal.returns
unfolding sum_answered
returns c = rw (sym (asked (goal.at.returns c).After-contains) ∙ c.if-contains.false)
