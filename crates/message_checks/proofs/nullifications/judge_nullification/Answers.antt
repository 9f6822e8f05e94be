-- Each test is the rule's: the book has as many days as it has codes.
use borrow.Author.Tests.{le-leb, lt-leb}
use mathlib.Core.Path.{sym, ◌∙◌}
use Prim.Native.Nat.{◌+◌}
use Rattle.laws.proofs.RuleByRule.{Answers, answered}
use Rattle.setups.proofs.SetupHeld.{codes-own}
use Rattle.message_checks.specs.Checks.{pair_check_rules}
use Rattle.message_checks.proofs.CheckLaws.{gates-test}
use Rattle.message_checks.proofs.nullifications.judge_nullification.Goals as goal

pub returns-then-every_gate_closed : goal.returns-then-every_gate_closed
unfolding pair_check_rules
returns-then-every_gate_closed c =
    answered _ (Answers.met (sym (gates-test c.args.b c.clock_of-c.ensures c.every_gate_closed.ensures) ∙ c.if-every_gate_closed.true))

pub returns-then-accounts_wrong : goal.returns-then-accounts_wrong
unfolding pair_check_rules
returns-then-accounts_wrong c =
    answered _
    (Answers.passed (sym (gates-test c.args.b c.clock_of-c.ensures c.every_gate_closed.ensures) ∙ c.if-every_gate_closed.false)
    (Answers.met (sym c.accounts_wrong.ensures ∙ c.if-accounts_wrong.true)))

pub returns-then-b-x : goal.returns-then-b-x
unfolding pair_check_rules
returns-then-b-x c =
    let s = c.args.b.setup in
    answered _
    (Answers.passed (sym (gates-test c.args.b c.clock_of-c.ensures c.every_gate_closed.ensures) ∙ c.if-every_gate_closed.false)
    (Answers.passed (sym c.accounts_wrong.ensures ∙ c.if-accounts_wrong.false)
    (Answers.met (rw codes-own (le-leb (s.first + s.days) c.args.x.first c.if-b-x.true)))))

pub returns : goal.returns
unfolding pair_check_rules
returns c =
    let s = c.args.b.setup in
    answered _
    (Answers.passed (sym (gates-test c.args.b c.clock_of-c.ensures c.every_gate_closed.ensures) ∙ c.if-every_gate_closed.false)
    (Answers.passed (sym c.accounts_wrong.ensures ∙ c.if-accounts_wrong.false)
    (Answers.passed (rw codes-own (lt-leb (s.first + s.days) c.args.x.first c.if-b-x.false)) Answers.none)))
