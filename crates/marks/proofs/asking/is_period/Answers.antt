-- A day of the book, and then the period by the day's place.
use mathlib.Core.Path.{◌≡◌, sym, ap, ◌∙◌}
use Prim.Native.Nat.{ℕ}
use Rattle.meaning.specs.Time.{Time, is_period_at, has_day}
use Rattle.book.specs.Structs.{time_in}
use Rattle.book.proofs.StateLaws.{clock-time}
use Rattle.marks.proofs.RowLaws.{period-none, period-there}
use Rattle.marks.proofs.asking.is_period.Goals as goal
use Rattle.marks.proofs.asking.is_period.Goals.{After-has_day}

has : (c : After-has_day) → c.has_day.result ≡ has_day (time_in c.args.b) c.args.day
has c =
    let a = c.args in
    c.has_day.ensures ∙ ap (λ (t : Time). has_day t a.day) (clock-time a.b c.clock_of-c.ensures)

pub invariant_of-place : goal.invariant_of-place
invariant_of-place c = record { of_book = sym (has (goal.at.invariant_of-place c).After-has_day) ∙ c.if-has_day.true }

pub returns-then-has_day : goal.returns-then-has_day
returns-then-has_day c =
    let a = c.args in
    c.is_period_at.ensures
    ∙ ap (λ (t : Time). is_period_at t.codes c.place.result a.period) (clock-time a.b c.clock_of-c.ensures)
    ∙ ap (λ (d : ℕ). is_period_at (time_in a.b).codes d a.period) c.place.ensures
    ∙ sym (period-there a.b a.day a.period (sym (has (goal.at.returns-then-has_day c).After-has_day) ∙ c.if-has_day.true))

pub returns-else-has_day : goal.returns-else-has_day
returns-else-has_day c =
    let a = c.args in
    c.if-has_day.false ∙ sym (period-none a.b a.day a.period (sym (has (goal.at.returns-else-has_day c).After-has_day) ∙ c.if-has_day.false))
