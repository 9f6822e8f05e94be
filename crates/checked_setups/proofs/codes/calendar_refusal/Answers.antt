-- Each return is the first rule met.
use mathlib.Core.Path.{sym, ◌∙◌}
use native.Mathlib.Omega.{arith}
use Rattle.laws.proofs.RuleByRule.{Answers, answered}
use Rattle.calendar.proofs.Following.{inside, outside}
use Rattle.checked_setups.specs.Checked.{calendar_rules}
use Rattle.checked_setups.proofs.CheckedLaws.{struct-outside}
use Rattle.checked_setups.proofs.codes.calendar_refusal.Goals as goal

pub returns-then-s : goal.returns-then-s
unfolding calendar_rules
returns-then-s c =
    let s = c.args.s in
    answered _ (Answers.met (struct-outside s ∙ outside s.first s.days (omega arith) (omega arith)))

pub returns-then-some_code_disagrees : goal.returns-then-some_code_disagrees
unfolding calendar_rules
returns-then-some_code_disagrees c =
    let s = c.args.s in
    answered _
    (Answers.passed (struct-outside s ∙ inside s.first s.days (omega arith))
    (Answers.met (sym c.some_code_disagrees.ensures ∙ c.if-some_code_disagrees.true)))

pub returns : goal.returns
unfolding calendar_rules
returns c =
    let s = c.args.s in
    answered _
    (Answers.passed (struct-outside s ∙ inside s.first s.days (omega arith))
    (Answers.passed (sym c.some_code_disagrees.ensures ∙ c.if-some_code_disagrees.false) Answers.none))
