-- A refusal of the day is the total's; past it only the period and the sum's size are left to ask.
use mathlib.Core.Bool.{true}
use mathlib.Core.Path.{◌≡◌, sym, ap, ap₂, ◌∙◌}
use Prim.Native.Nat.{ℕ, suc, ◌-◌}
use native.Mathlib.Omega.{arith}
use mir.Syntax.{w64}
use borrow.Author.Rules.{rules}
use Rattle.std.specs.Prelude.{Err}
use Rattle.limits.specs.Refusals.{number_of}
use Rattle.limits.proofs.AnswerNumbers.{never-done}
use Rattle.laws.proofs.Machine.{back}
use Rattle.meaning.specs.Time.{Time, is_period_at, day_of}
use Rattle.meaning.specs.Totals.{sum_of}
use Rattle.meaning.proofs.Clock.{IsPeriod, is-period}
use Rattle.book.specs.declared.BookView.{BookView}
use Rattle.book.specs.Structs.{time_in, book_seen}
use Rattle.book.proofs.StateLaws.{clock-time}
use Rattle.position.specs.Counting.{sum_answered}
use Rattle.position.specs.Totals.{totalled_of}
use Rattle.position.proofs.TotalLaws.{Asked, asked, total-day-refused, total-no-period, total-answered}
use Rattle.position.proofs.totals.total.Goals as goal
use Rattle.position.proofs.totals.total.Goals.{After-is_period_at, Else-not-is_period_at, In_ok-asked}

pub returns-in_err-asked : goal.returns-in_err-asked
returns-in_err-asked c =
    let a = c.args in
    let refusal = c.in_err-asked.field-0.0 in
    let same : c.from_residual.result ≡ Err refusal = search rules in
    ap totalled_of same ∙ total-day-refused (book_seen a.view) a.account a.day a.period (number_of refusal) c.in_err-asked.ensures.refusal (λ q. never-done refusal q)

-- what holds where the day is not refused
given : (c : In_ok-asked) → Asked (book_seen c.args.view) c.args.account c.args.day
given c = asked (book_seen c.args.view) c.args.account c.args.day c.in_ok-asked.ensures.refusal

period-there : (c : After-is_period_at) → let a = c.args in
    c.is_period_at.result ≡ is_period_at (time_in a.view.book).codes (day_of (time_in a.view.book) a.day) a.period
period-there c =
    let a = c.args in
    c.is_period_at.ensures
    ∙ ap (λ (t : Time). is_period_at t.codes c.in_ok-asked.asked.place a.period) (clock-time a.view.book c.clock_of.ensures)
    ∙ ap (λ (d : ℕ). is_period_at (time_in a.view.book).codes d a.period) c.in_ok-asked.ensures.place.1

pub returns-then-not-is_period_at : goal.returns-then-not-is_period_at
returns-then-not-is_period_at c =
    let a = c.args in
    total-no-period (book_seen a.view) a.account a.day a.period (given (goal.at.returns-then-not-is_period_at c).In_ok-asked) (sym (period-there (goal.at.returns-then-not-is_period_at c).After-is_period_at) ∙ c.if-not-is_period_at.true)

-- past the second test
module _ (c : Else-not-is_period_at) where
  period-given : let a = c.args in is_period_at (time_in a.view.book).codes (day_of (time_in a.view.book) a.day) a.period ≡ true
  period-given = sym (period-there (goal.at.Else-not-is_period_at c).After-is_period_at) ∙ c.if-not-is_period_at.false

  inside : let a = c.args in IsPeriod (time_in a.view.book).codes (day_of (time_in a.view.book) a.day) a.period
  inside = let a = c.args in is-period (time_in a.view.book).codes (day_of (time_in a.view.book) a.day) a.period period-given

pub overflow_sub-period : goal.overflow_sub-period
overflow_sub-period c = omega (arith, (inside (goal.at.overflow_sub-period c).Else-not-is_period_at).low)

pub sum_of-requires : goal.sum_of-requires
sum_of-requires c =
    let a = c.args in
    let i = inside (goal.at.sum_of-requires c).Else-not-is_period_at in
    omega (arith, i.low, i.most)

pub returns : goal.returns
returns c =
    let a = c.args in
    let b = book_seen a.view in
    let at = (goal.at.returns c).Else-not-is_period_at in
    let e : suc (a.period - 1) ≡ a.period = omega (arith, (inside at).low) in
    c.answered.ensures
    ∙ ap sum_answered (back w64 c.sum_of.result c.sum_of.type_inv ∙ c.sum_of.ensures ∙ ap₂ (λ (v : BookView) (d : ℕ). sum_of (book_seen v) a.account d (suc (a.period - 1))) c.in_ok-asked.ensures.place.0 c.in_ok-asked.ensures.place.1 ∙ ap (sum_of b a.account (day_of (time_in a.view.book) a.day)) e)
    ∙ total-answered b a.account a.day a.period (given (goal.at.returns c).In_ok-asked) (period-given at)
