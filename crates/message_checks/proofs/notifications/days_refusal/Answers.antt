-- Each test is the rule's: today is the current day, and the book has as many days as it has codes.
use borrow.Author.Tests.{lt-ltb, le-ltb, le-leb, lt-leb}
use mathlib.Core.Bool.{false}
use mathlib.Core.Path.{◌≡◌}
use Prim.Native.Nat.{◌+◌, ◌≤◌}
use native.Mathlib.Omega.{arith}
use Rattle.words.specs.Tests.{◌<?◌}
use Rattle.laws.proofs.RuleByRule.{Answers, answered}
use Rattle.meaning.specs.Time.{current_day}
use Rattle.messages.specs.Structs.{notification_of}
use Rattle.setups.proofs.SetupHeld.{codes-own}
use Rattle.book.specs.Structs.{time_in}
use Rattle.message_checks.proofs.notifications.days_refusal.Goals as goal
use Rattle.message_checks.proofs.notifications.days_refusal.Goals.{Start}

module _ (s : Start) where
  in_order : s.args.n.first ≤ s.args.n.last → (notification_of s.args.n).last <? (notification_of s.args.n).first ≡ false
  unfolding notification_of
  in_order h = le-ltb s.args.n.last s.args.n.first h

  not-past : s.args.today ≤ s.args.n.last → (notification_of s.args.n).last <? current_day (time_in s.args.b) ≡ false
  unfolding notification_of
  not-past h = le-ltb s.args.n.last (current_day (time_in s.args.b)) (omega (arith, s.requires))

pub returns-then-n : goal.returns-then-n
unfolding notification_of
returns-then-n c =
    let n = c.args.n in
    answered _ (Answers.met (lt-ltb n.last n.first c.if-n.true))

pub returns-then-n-today : goal.returns-then-n-today
unfolding notification_of
returns-then-n-today c =
    let n = c.args.n in
    answered _
    (Answers.passed (in_order (goal.at.returns-then-n-today c).Start (search))
    (Answers.met (lt-ltb n.last (current_day (time_in c.args.b)) (omega arith))))

pub returns-then-s-n : goal.returns-then-s-n
unfolding notification_of
returns-then-s-n c =
    let s = c.args.b.setup in
    answered _
    (Answers.passed (in_order (goal.at.returns-then-s-n c).Start (search))
    (Answers.passed (not-past (goal.at.returns-then-s-n c).Start (search))
    (Answers.met (rw codes-own (le-leb (s.first + s.days) c.args.n.first c.if-s-n.true)))))

pub returns : goal.returns
unfolding notification_of
returns c =
    let s = c.args.b.setup in
    answered _
    (Answers.passed (in_order (goal.at.returns c).Start (search))
    (Answers.passed (not-past (goal.at.returns c).Start (search))
    (Answers.passed (rw codes-own (lt-leb (s.first + s.days) c.args.n.first c.if-s-n.false)) Answers.none)))
