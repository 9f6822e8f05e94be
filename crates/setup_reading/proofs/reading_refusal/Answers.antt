-- The content answers first, and where nothing of it is refused the padding does.
use mathlib.Core.Path.{◌≡◌, refl, sym, ap, ◌∙◌}
use Rattle.std.proofs.Common.{Err, rules}
use Rattle.limits.specs.Refusals.{answer_of}
use Rattle.limits.proofs.AnswerNumbers.{never-done}
use Rattle.laws.proofs.RuleByRule.{Answers, answered, part-met, part-passed}
use Rattle.meaning.specs.PackedSetups.{content_rules, padding_rules, setup_reading_rules}
use Rattle.setup_reading.proofs.ContentLaws.{padding-same}
use Rattle.setup_reading.proofs.reading_refusal.Goals as goal

pub returns-in_err-content : goal.returns-in_err-content
unfolding setup_reading_rules
returns-in_err-content c =
    let a = c.args in
    let refusal = c.in_err-content.field-0.0 in
    let given : c.from_residual.result ≡ Err refusal = search rules in
    let content = sym (ap answer_of c.in_err-content.was) ∙ c.content_in-content.ensures.outcome in
    ap answer_of given ∙ answered _ (part-met (content_rules a.bytes.now a.slots a.lent1 a.lent2) (padding_rules a.bytes.now) content (never-done refusal))

pub returns-then-padding_set : goal.returns-then-padding_set
unfolding setup_reading_rules
returns-then-padding_set c =
    let a = c.args in
    let content = sym (ap answer_of c.in_ok-content.was) ∙ c.content_in-content.ensures.outcome in
    let padding = padding-same a.bytes.now a.slots a.lent1 a.lent2 c.content_in-content.result.setup c.content_in-content.ensures.setup c.padding_set.ensures in
    answered _ (part-passed (content_rules a.bytes.now a.slots a.lent1 a.lent2) (padding_rules a.bytes.now) content refl refl (Answers.met (padding ∙ c.if-padding_set.true)))

pub returns : goal.returns
unfolding setup_reading_rules
returns c =
    let a = c.args in
    let content = sym (ap answer_of c.in_ok-content.was) ∙ c.content_in-content.ensures.outcome in
    let padding = padding-same a.bytes.now a.slots a.lent1 a.lent2 c.content_in-content.result.setup c.content_in-content.ensures.setup c.padding_set.ensures in
    answered _ (part-passed (content_rules a.bytes.now a.slots a.lent1 a.lent2) (padding_rules a.bytes.now) content refl refl (Answers.passed (padding ∙ c.if-padding_set.false) Answers.none))
