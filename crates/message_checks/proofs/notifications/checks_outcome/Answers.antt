-- Part by part: a part's refusal is the outcome, and where it has none the parts after it decide. The entries' alone carry a place.
use mathlib.Core.List.{List, ◌++◌}
use mathlib.Core.Path.{refl, sym, ◌∙◌}
use Rattle.std.proofs.lemmas.Result.{err_from_is_err_and}
use Rattle.words.specs.Rules.{Rule}
use Rattle.laws.proofs.RuleByRule.{Outcomes, told, placeless-met, placeless-passed}
use Rattle.limits.proofs.AnswerNumbers.{never-done}
use Rattle.meaning.specs.Notifications.{authorisation_rules, day_rules, entry_rules}
use Rattle.messages.specs.Structs.{notification_of}
use Rattle.book.specs.Structs.{setting_in}
use Rattle.message_checks.specs.Checks.{check_rules}
use Rattle.message_checks.proofs.CheckLaws.{gates-test, today-is}
use Rattle.message_checks.proofs.notifications.checks_outcome.Goals as goal
use Rattle.message_checks.proofs.notifications.checks_outcome.Goals.{Start}

module _ (s : Start) where
  abbrev authorisation : List Rule
  authorisation = authorisation_rules (setting_in s.args.b) (notification_of s.args.n)

  abbrev days : List Rule
  days = day_rules (setting_in s.args.b) (notification_of s.args.n)

  abbrev entries : List Rule
  entries = entry_rules (setting_in s.args.b) (notification_of s.args.n)

pub returns-then-every_gate_closed : goal.returns-then-every_gate_closed
unfolding check_rules
returns-then-every_gate_closed c =
    rw c.into.ensures
    (told _ (Outcomes.met (sym (gates-test c.args.b c.clock_of-time.ensures c.every_gate_closed.ensures) ∙ c.if-every_gate_closed.true)))

pub authorisation_refusal-requires : goal.authorisation_refusal-requires
authorisation_refusal-requires c = today-is c.args.b c.clock_of-time.ensures c.current_day-today.ensures

pub returns-in_err-authorisation_refusal : goal.returns-in_err-authorisation_refusal
unfolding check_rules
returns-in_err-authorisation_refusal c =
    let s = (goal.at.returns-in_err-authorisation_refusal c).Start in
    let p = err_from_is_err_and c.from_residual.result c.from_residual.ensures.1 in
    rw (p.1, p.2)
    (told _
    (Outcomes.passed (sym (gates-test c.args.b c.clock_of-time.ensures c.every_gate_closed.ensures) ∙ c.if-every_gate_closed.false)
    (placeless-met (authorisation s) (days s ++ entries s) c.in_err-authorisation_refusal.ensures refl (never-done c.in_err-authorisation_refusal.field-0.0))))

pub days_refusal-requires : goal.days_refusal-requires
days_refusal-requires c = today-is c.args.b c.clock_of-time.ensures c.current_day-today.ensures

pub returns-in_err-days_refusal : goal.returns-in_err-days_refusal
unfolding check_rules
returns-in_err-days_refusal c =
    let s = (goal.at.returns-in_err-days_refusal c).Start in
    let p = err_from_is_err_and c.from_residual-in_err-days_refusal.result c.from_residual-in_err-days_refusal.ensures.1 in
    rw (p.1, p.2)
    (told _
    (Outcomes.passed (sym (gates-test c.args.b c.clock_of-time.ensures c.every_gate_closed.ensures) ∙ c.if-every_gate_closed.false)
    (placeless-passed (authorisation s) (days s ++ entries s) c.in_ok-authorisation_refusal.ensures refl refl
    (placeless-met (days s) (entries s) c.in_err-days_refusal.ensures refl (never-done c.in_err-days_refusal.field-0.0)))))

pub returns : goal.returns
unfolding check_rules
returns c =
    let s = (goal.at.returns c).Start in
    c.entries_outcome.ensures
    ∙ told _
    (Outcomes.passed (sym (gates-test c.args.b c.clock_of-time.ensures c.every_gate_closed.ensures) ∙ c.if-every_gate_closed.false)
    (placeless-passed (authorisation s) (days s ++ entries s) c.in_ok-authorisation_refusal.ensures refl refl
    (placeless-passed (days s) (entries s) c.in_ok-days_refusal.ensures refl refl
    (Outcomes.asked refl))))
