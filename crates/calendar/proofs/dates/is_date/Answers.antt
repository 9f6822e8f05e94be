-- The tests of the definition, in its order.
use Rattle.std.proofs.Common.{◌≡◌, sym, ◌∙◌, ◌&&◌}
use Rattle.words.specs.Tests.{between}
use Rattle.laws.proofs.Ranges.{contained}
use Rattle.calendar.specs.Calendar.{is_date}
use Rattle.calendar.proofs.dates.is_date.Goals as goal
use Rattle.calendar.proofs.dates.is_date.Goals.{After-contains-2}

month_exists : (c : After-contains-2) → c.contains.result && c.contains-2.result ≡ between 2000 2099 c.args.year && between 1 12 c.args.month
month_exists c =
    let n = c.new.ensures in
    let m = c.new-2.ensures in
    rw (c.contains.ensures.value ∙ contained c.new.result _ _ c.args.year n.start n.end n.exhausted, c.contains-2.ensures.value ∙ contained c.new-2.result _ _ c.args.month m.start m.end m.exhausted)

pub returns-then-month_exists : goal.returns-then-month_exists
unfolding is_date
returns-then-month_exists c =
    let n = c.new-then-month_exists.ensures in
    let a = c.args in
    rw (sym (month_exists (goal.at.returns-then-month_exists c).After-contains-2) ∙ c.if-month_exists.true, sym c.is_leap.ensures, sym c.month_length.ensures)
    (c.contains-then-month_exists.ensures.value ∙ contained c.new-then-month_exists.result _ _ a.day n.start n.end n.exhausted)

pub returns-else-month_exists : goal.returns-else-month_exists
unfolding is_date
returns-else-month_exists c = rw (sym (month_exists (goal.at.returns-else-month_exists c).After-contains-2) ∙ c.if-month_exists.false) c.if-month_exists.false
