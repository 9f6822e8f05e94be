-- Each test is the rule's: an entry offends where the first place that does is below the count.
use borrow.Author.Tests.{lt-ltb, le-ltb}
use mathlib.Core.Bool.{false}
use mathlib.Core.Path.{◌≡◌, ap, ◌∙◌}
use Prim.Native.Nat.{ℕ}
use Rattle.laws.proofs.RuleByRule.{Outcomes, told}
use Rattle.meaning.specs.Notifications.{period_offends, volume_offends, some_entry}
use Rattle.messages.specs.Structs.{notification_of}
use Rattle.book.specs.Structs.{setting_in}
use Rattle.message_checks.proofs.CheckLaws.{some-below-count}
use Rattle.message_checks.proofs.notifications.entries_outcome.Goals as goal
use Rattle.message_checks.proofs.notifications.entries_outcome.Goals.{Else-period-n, Start}

pub returns-then-period-n : goal.returns-then-period-n
returns-then-period-n c =
    let n = c.args.n in
    let place = c.first_wrong_period-period in
    let met = some-below-count n (period_offends (setting_in c.args.b) (notification_of n)) place.ensures ∙ lt-ltb place.result n.count c.if-period-n.true in
    ap (λ (k : ℕ). record { answer = 10; place = k }) place.ensures ∙ told _ (Outcomes.met met)

-- no period offends
abbrev start_of : Else-period-n → Start
start_of c = (goal.at.Else-period-n c).Start

rise : (c : Else-period-n) → let a = (start_of c).args in some_entry (notification_of a.n) (period_offends (setting_in a.b) (notification_of a.n)) ≡ false
rise c =
    let a = (start_of c).args in
    let place = c.first_wrong_period-period in
    some-below-count a.n (period_offends (setting_in a.b) (notification_of a.n)) place.ensures ∙ le-ltb place.result a.n.count c.if-period-n.false

pub returns-then-volume-n : goal.returns-then-volume-n
returns-then-volume-n c =
    let n = c.args.n in
    let place = c.first_wrong_volume-volume in
    let met = some-below-count n (volume_offends (notification_of n)) place.ensures ∙ lt-ltb place.result n.count c.if-volume-n.true in
    ap (λ (k : ℕ). record { answer = 11; place = k }) place.ensures ∙ told _ (Outcomes.passed (rise (search)) (Outcomes.met met))

pub returns : goal.returns
returns c =
    let n = c.args.n in
    let place = c.first_wrong_volume-volume in
    let passed = some-below-count n (volume_offends (notification_of n)) place.ensures ∙ le-ltb place.result n.count c.if-volume-n.false in
    told _ (Outcomes.passed (rise (search)) (Outcomes.passed passed Outcomes.none))
