-- The content answers first, then the calendar, then the padding.
use mathlib.Core.Bool.{Bool}
use mathlib.Core.List.{List, ◌++◌}
use mathlib.Core.Path.{◌≡◌, refl, sym, ap, ◌∙◌}
use Prim.Native.Nat.{ℕ, ◌≤◌}
use Rattle.std.proofs.Common.{Err, rules}
use Rattle.limits.specs.Refusals.{answer_of}
use Rattle.words.specs.Rules.{Rule, answer}
use Rattle.laws.proofs.RuleByRule.{Answers, answered, part-met, part-passed}
use Rattle.meaning.specs.Books.{Setup}
use Rattle.meaning.specs.PackedSetups.{setup_in, setup_layout_for, setup_layout_in, content_rules, padding_rules}
use Rattle.setups.specs.Structs.{setup_of}
use Rattle.setups.specs.declared.Setup as Struct
use Rattle.setup_reading.proofs.ContentLaws.{padding_in, padding-same}
use Rattle.book.proofs.OpeningLaws.{number-refuses}
use Rattle.checked_setups.specs.Checked.{calendar_rules, checked_reading_rules}
use Rattle.checked_setups.proofs.CheckedLaws.{calendar-numbered, content-held, content-counted}
use Rattle.checked_setups.proofs.reading.checked_reading_refusal.Goals as goal
use Rattle.checked_setups.proofs.reading.checked_reading_refusal.Goals.{After-content_in-content, In_ok-content, Start}

-- the three parts of the chain, and what is in hand
module _ (c : After-content_in-content) where
  abbrev start : Start
  start = (goal.at.After-content_in-content c).Start

  abbrev bytes : List ℕ
  bytes = start.args.bytes.now

  abbrev content : List Rule
  content = content_rules bytes start.args.slots start.args.lent1 start.args.lent2

  abbrev calendar : List Rule
  calendar = calendar_rules (setup_in bytes)

  abbrev rest : List Rule
  rest = calendar ++ padding_rules bytes

  abbrev setup : Struct.Setup
  setup = c.content_in-content.result.setup

  padding-is : {r : Bool} → r ≡ padding_in bytes (setup_layout_for setup.days setup.authorisations) → padding_in bytes (setup_layout_in bytes) ≡ r
  padding-is = padding-same bytes start.args.slots start.args.lent1 start.args.lent2 setup c.content_in-content.ensures.setup

-- once the content has passed, the calendar is asked of the setup that the bytes hold
module _ (c : In_ok-content) where
  abbrev before : After-content_in-content
  before = (goal.at.In_ok-content c).After-content_in-content

  passes : 0 ≡ answer (content before)
  passes = sym (ap answer_of c.in_ok-content.was) ∙ c.content_in-content.ensures.outcome

  held : setup_of (setup before) ≡ setup_in (bytes before)
  held =
      let a = (start before).args in
      content-held (bytes before) a.slots a.lent1 a.lent2 (sym passes) (setup before) c.content_in-content.ensures.setup

  counted : (1 ≤ (setup before).days) × ((setup before).days ≤ 8)
  counted =
      let a = (start before).args in
      content-counted (bytes before) a.slots a.lent1 a.lent2 (sym passes) (setup before) c.content_in-content.ensures.setup

  calendar-is : {r : ℕ} → r ≡ answer (calendar_rules (setup_of (setup before))) → r ≡ answer (calendar before)
  calendar-is e = e ∙ ap (λ (s : Setup). answer (calendar_rules s)) held

pub returns-in_err-content : goal.returns-in_err-content
unfolding checked_reading_rules
returns-in_err-content c =
    let k = (goal.at.returns-in_err-content c).After-content_in-content in
    let refusal = c.in_err-content.field-0.0 in
    let given : c.from_residual.result ≡ Err refusal = search rules in
    let refused = sym (ap answer_of c.in_err-content.was) ∙ c.content_in-content.ensures.outcome in
    ap answer_of given ∙ answered _ (part-met (content k) (rest k) refused (number-refuses refusal))

pub calendar_refusal-requires : goal.calendar_refusal-requires
calendar_refusal-requires c = counted (goal.at.calendar_refusal-requires c).In_ok-content

pub returns-in_err-calendar_refusal : goal.returns-in_err-calendar_refusal
unfolding checked_reading_rules
returns-in_err-calendar_refusal c =
    let o = (goal.at.returns-in_err-calendar_refusal c).In_ok-content in
    let k = before o in
    let refusal = c.in_err-calendar_refusal.field-0.0 in
    let given : c.from_residual-in_err-calendar_refusal.result ≡ Err refusal = search rules in
    ap answer_of given
    ∙ answered _
    (part-passed (content k) (rest k) (passes o) refl refl
    (part-met (calendar k) (padding_rules (bytes k)) (calendar-is o c.in_err-calendar_refusal.ensures) (number-refuses refusal)))

pub returns-then-padding_set : goal.returns-then-padding_set
unfolding checked_reading_rules
returns-then-padding_set c =
    let o = (goal.at.returns-then-padding_set c).In_ok-content in
    let k = before o in
    answered _
    (part-passed (content k) (rest k) (passes o) refl refl
    (part-passed (calendar k) (padding_rules (bytes k)) (calendar-is o c.in_ok-calendar_refusal.ensures) (calendar-numbered (setup_in (bytes k))) refl
    (Answers.met (padding-is k c.padding_set.ensures ∙ c.if-padding_set.true))))

pub returns : goal.returns
unfolding checked_reading_rules
returns c =
    let o = (goal.at.returns c).In_ok-content in
    let k = before o in
    answered _
    (part-passed (content k) (rest k) (passes o) refl refl
    (part-passed (calendar k) (padding_rules (bytes k)) (calendar-is o c.in_ok-calendar_refusal.ensures) (calendar-numbered (setup_in (bytes k))) refl
    (Answers.passed (padding-is k c.padding_set.ensures ∙ c.if-padding_set.false) Answers.none)))
