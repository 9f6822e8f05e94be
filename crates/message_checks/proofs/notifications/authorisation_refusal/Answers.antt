-- Each test is the rule's: its row is the authorisation's, and today is the current day.
use borrow.Author.Tests.{lt-ltb, le-ltb}
use mathlib.Core.Bool.{false, not}
use mathlib.Core.Path.{◌≡◌, sym, ap, ◌∙◌}
use Prim.Native.Nat.{◌<◌}
use Rattle.laws.proofs.RuleByRule.{Answers, answered}
use Rattle.meaning.specs.Settings as Settings
use Rattle.messages.specs.Structs.{notification_of}
use Rattle.setups.proofs.SetupHeld.{rows-own}
use Rattle.book.specs.Structs.{setting_in}
use Rattle.message_checks.proofs.CheckLaws.{key-test, force-test}
use Rattle.message_checks.proofs.notifications.authorisation_refusal.Goals as goal
use Rattle.message_checks.proofs.notifications.authorisation_refusal.Goals.{Start}

known : (s : Start) → s.args.n.authorisation < s.args.b.setup.authorisations
    → not (Settings.known (setting_in s.args.b) (notification_of s.args.n).authorisation) ≡ false
unfolding notification_of
known s h = rw rows-own (ap not (lt-ltb s.args.n.authorisation s.args.b.setup.authorisations h))

pub returns-then-b-n : goal.returns-then-b-n
unfolding notification_of
returns-then-b-n c =
    answered _ (Answers.met (rw rows-own (ap not (le-ltb c.args.n.authorisation c.args.b.setup.authorisations c.if-b-n.true))))

pub returns-then-key_or_agent_wrong : goal.returns-then-key_or_agent_wrong
returns-then-key_or_agent_wrong c =
    answered _ (Answers.passed (known (goal.at.returns-then-key_or_agent_wrong c).Start (search)) (Answers.met (sym (key-test c.args.b c.args.n c.row_of-row.ensures c.key_or_agent_wrong.ensures) ∙ c.if-key_or_agent_wrong.true)))

pub returns-then-not-in_force : goal.returns-then-not-in_force
returns-then-not-in_force c =
    answered _
    (Answers.passed (known (goal.at.returns-then-not-in_force c).Start (search))
    (Answers.passed (sym (key-test c.args.b c.args.n c.row_of-row.ensures c.key_or_agent_wrong.ensures) ∙ c.if-key_or_agent_wrong.false)
    (Answers.met (sym (force-test c.args.b c.args.n c.row_of-row.ensures c.requires c.in_force.ensures) ∙ ap not c.if-not-in_force.true))))

pub returns-then-originator_wrong : goal.returns-then-originator_wrong
returns-then-originator_wrong c =
    answered _
    (Answers.passed (known (goal.at.returns-then-originator_wrong c).Start (search))
    (Answers.passed (sym (key-test c.args.b c.args.n c.row_of-row.ensures c.key_or_agent_wrong.ensures) ∙ c.if-key_or_agent_wrong.false)
    (Answers.passed (sym (force-test c.args.b c.args.n c.row_of-row.ensures c.requires c.in_force.ensures) ∙ ap not c.if-not-in_force.false)
    (Answers.met (sym c.originator_wrong.ensures ∙ c.if-originator_wrong.true)))))

pub returns : goal.returns
returns c =
    answered _
    (Answers.passed (known (goal.at.returns c).Start (search))
    (Answers.passed (sym (key-test c.args.b c.args.n c.row_of-row.ensures c.key_or_agent_wrong.ensures) ∙ c.if-key_or_agent_wrong.false)
    (Answers.passed (sym (force-test c.args.b c.args.n c.row_of-row.ensures c.requires c.in_force.ensures) ∙ ap not c.if-not-in_force.false)
    (Answers.passed (sym c.originator_wrong.ensures ∙ c.if-originator_wrong.false) Answers.none))))
