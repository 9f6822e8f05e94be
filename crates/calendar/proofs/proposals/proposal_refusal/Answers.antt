-- Each test is a part of a rule.
use mathlib.Core.Bool.{false, not, ◌||◌}
use mathlib.Core.Path.{◌≡◌, sym, ap, ◌∙◌}
use Prim.Native.Nat.{◌+◌, ◌-◌, ◌≤◌, ◌<◌}
use native.Mathlib.Omega.{arith}
use borrow.Author.Tests.{lt-ltb, le-ltb}
use Rattle.words.specs.Tests.{◌<?◌, between}
use Rattle.laws.proofs.Ranges.{contained}
use Rattle.laws.proofs.RuleByRule.{Answers, answered}
use Rattle.calendar.specs.Answers.{proposal_rules}
use Rattle.calendar.proofs.Following.{outside, inside, days-right}
use Rattle.calendar.proofs.proposals.proposal_refusal.Goals as goal
use Rattle.calendar.proofs.proposals.proposal_refusal.Goals.{After-contains, Else-not-contains, Else-days-first}

counted_right : (c : After-contains) → c.contains.result ≡ between 1 8 c.args.days
counted_right c = let n = c.new.ensures in c.contains.ensures.value ∙ contained c.new.result 1 8 c.args.days n.start n.end n.exhausted

module _ (c : Else-not-contains) where
  counts-pass : not (between 1 8 c.args.days) ≡ false
  counts-pass = ap not (sym (counted_right c.before) ∙ c.if-not-contains.false)

  counted : (1 ≤ c.args.days) × (c.args.days ≤ 8)
  counted = days-right c.args.days counts-pass

  late : 65535 - c.args.days < c.args.first → 65535 < c.args.first + c.args.days
  late h = omega (arith, counted)

setup-passes : (c : Else-days-first) → not (between 1 8 c.args.days) || 65535 <? c.args.first + c.args.days ≡ false
setup-passes c = rw (counts-pass c.before, le-ltb 65535 (c.args.first + c.args.days) (omega (arith, counted c.before)))

pub returns-then-not-contains : goal.returns-then-not-contains
unfolding proposal_rules
returns-then-not-contains c = answered _ (Answers.met (rw (sym (counted_right c.before) ∙ c.if-not-contains.true)))

pub overflow_sub-days : goal.overflow_sub-days
overflow_sub-days c = omega (arith, counted (goal.at.overflow_sub-days c).Else-not-contains)

pub returns-then-days-first : goal.returns-then-days-first
unfolding proposal_rules
returns-then-days-first c =
    answered _ (Answers.met (rw (counts-pass (goal.at.returns-then-days-first c).Else-not-contains, lt-ltb _ _ (late (goal.at.returns-then-days-first c).Else-not-contains c.if-days-first.true))))

pub overflow_sub-days-2 : goal.overflow_sub-days-2
overflow_sub-days-2 c = omega (arith, counted (goal.at.overflow_sub-days-2 c).Else-not-contains)

pub returns-then-days-first-2 : goal.returns-then-days-first-2
unfolding proposal_rules
returns-then-days-first-2 c =
    let a = c.args in
    answered _ (Answers.passed (setup-passes (goal.at.returns-then-days-first-2 c).Else-days-first) (Answers.met (outside a.first a.days (counted (goal.at.returns-then-days-first-2 c).Else-not-contains).0 (omega (arith, counted (goal.at.returns-then-days-first-2 c).Else-not-contains)))))

pub returns : goal.returns
unfolding proposal_rules
returns c =
    let a = c.args in
    answered _ (Answers.passed (setup-passes (goal.at.returns c).Else-days-first) (Answers.passed (inside a.first a.days (omega (arith, counted (goal.at.returns c).Else-not-contains))) Answers.none))
