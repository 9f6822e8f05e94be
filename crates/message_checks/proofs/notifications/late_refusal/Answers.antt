-- Each test is the rule's.
use borrow.Author.Tests.{le-leb, lt-leb}
use Rattle.laws.proofs.RuleByRule.{Answers, answered}
use Rattle.message_checks.specs.Checks.{late_rules}
use Rattle.message_checks.proofs.notifications.late_refusal.Goals as goal

pub returns-then-kind-amendment : goal.returns-then-kind-amendment
unfolding late_rules
returns-then-kind-amendment c = answered _ (Answers.met c.if-kind-amendment.true)

pub returns-then-kind-amendment-2 : goal.returns-then-kind-amendment-2
unfolding late_rules
returns-then-kind-amendment-2 c =
    answered _ (Answers.passed c.if-kind-amendment.false (Answers.met c.if-kind-amendment-2.true))

pub returns-then-slots-slot : goal.returns-then-slots-slot
unfolding late_rules
returns-then-slots-slot c =
    answered _
    (Answers.passed c.if-kind-amendment.false
    (Answers.passed c.if-kind-amendment-2.false (Answers.met (le-leb c.args.slots c.args.slot c.if-slots-slot.true))))

pub returns : goal.returns
unfolding late_rules
returns c =
    answered _
    (Answers.passed c.if-kind-amendment.false
    (Answers.passed c.if-kind-amendment-2.false (Answers.passed (lt-leb c.args.slots c.args.slot c.if-slots-slot.false) Answers.none)))
