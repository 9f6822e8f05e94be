-- Opening answers first, and where it refuses nothing the calendar does.
use mathlib.Core.Path.{◌≡◌, refl, sym, ap, ◌∙◌}
use mathlib.Core.Bool.{true}
use Prim.Native.Nat.{ℕ}
use Rattle.std.proofs.Common.{Err, rules}
use Rattle.limits.specs.Refusals.{answer_of}
use Rattle.book.proofs.OpeningLaws.{number-refuses}
use Rattle.laws.proofs.Rules.{numbered}
use Rattle.laws.proofs.RuleByRule.{Answers, answered, part-met, part-passed}
use Rattle.meaning.specs.Books.{Setup, opening_rules}
use Rattle.setups.specs.Structs.{setup_of}
use Rattle.checked_setups.specs.Checked.{calendar_rules, checked_opening_rules}
use Rattle.checked_setups.proofs.CheckedLaws.{days-counted}
use Rattle.checked_setups.proofs.opening.checked_opening_refusal.Goals as goal

opening-numbered : (s : Setup) (slots lent1 lent2 : ℕ) → numbered (opening_rules s slots lent1 lent2) ≡ true
unfolding opening_rules
opening-numbered s slots lent1 lent2 = refl

pub returns-in_err-opening_refusal : goal.returns-in_err-opening_refusal
unfolding checked_opening_rules
returns-in_err-opening_refusal c =
    let a = c.args in
    let refusal = c.in_err-opening_refusal.field-0.0 in
    let given : c.from_residual.result ≡ Err refusal = search rules in
    ap answer_of given
    ∙ answered _ (part-met (opening_rules (setup_of a.s) a.slots a.lent1 a.lent2) (calendar_rules (setup_of a.s)) c.in_err-opening_refusal.ensures (number-refuses refusal))

pub calendar_refusal-requires : goal.calendar_refusal-requires
calendar_refusal-requires c = let a = c.args in days-counted a.s a.slots a.lent1 a.lent2 (sym c.in_ok-opening_refusal.ensures)

pub returns : goal.returns
unfolding checked_opening_rules
returns c =
    let a = c.args in
    answered _
    (part-passed (opening_rules (setup_of a.s) a.slots a.lent1 a.lent2) (calendar_rules (setup_of a.s)) c.in_ok-opening_refusal.ensures
    (opening-numbered (setup_of a.s) a.slots a.lent1 a.lent2) refl (Answers.asked c.calendar_refusal.ensures))
