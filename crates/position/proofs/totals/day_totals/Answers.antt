-- A refusal of the day, or too little room, leaves what is lent; otherwise each period's total is stored.
use mathlib.Core.Path.{◌≡◌, ap, ap₂, ◌∙◌}
use native.Mathlib.Omega.{arith}
use Prim.Native.Nat.{ℕ, suc}
use lib.IntN.{ℤ}
use Rattle.words.specs.Lists.{on_front}
use Rattle.meaning.specs.Totals.{sum_of}
use borrow.Author.Rules.{rules}
use Rattle.std.specs.Prelude.{Err}
use Rattle.limits.specs.Refusals.{number_of, answer_of}
use Rattle.limits.proofs.AnswerNumbers.{never-done}
use Rattle.meaning.specs.Time.{Time, periods_at, day_of}
use Rattle.book.specs.declared.BookView.{BookView}
use Rattle.book.specs.Structs.{time_in, book_seen}
use Rattle.book.proofs.StateLaws.{clock-time}
use Rattle.position.proofs.TotalLaws.{Asked, asked, day-totals-refused, day-totals-no-room, day-totals-stored}
use Rattle.position.proofs.totals.day_totals.Goals as goal
use Rattle.position.proofs.totals.day_totals.Goals.{After-periods_at-periods, In_ok-asked}

pub returns-in_err-asked : goal.returns-in_err-asked
returns-in_err-asked c =
    let a = c.args in
    let refusal = c.in_err-asked.field-0.0 in
    let same : c.from_residual.result ≡ Err refusal = search rules in
    let refused = day-totals-refused (book_seen a.view) a.account a.day a.out.now (number_of refusal) c.in_err-asked.ensures.refusal (λ q. never-done refusal q) in
    (ap answer_of same ∙ refused.0, refused.1)

-- what holds where the day is not refused
given : (c : In_ok-asked) → Asked (book_seen c.args.view) c.args.account c.args.day
given c = asked (book_seen c.args.view) c.args.account c.args.day c.in_ok-asked.ensures.refusal

-- the day's periods
day-periods : (c : After-periods_at-periods) → let a = c.args in
    c.periods_at-periods.result ≡ periods_at (time_in a.view.book).codes (day_of (time_in a.view.book) a.day)
day-periods c =
    let a = c.args in
    c.periods_at-periods.ensures
    ∙ ap (λ (t : Time). periods_at t.codes c.in_ok-asked.asked.place) (clock-time a.view.book c.clock_of.ensures)
    ∙ ap (periods_at (time_in a.view.book).codes) c.in_ok-asked.ensures.place.1

pub returns-then-out-periods : goal.returns-then-out-periods
returns-then-out-periods c =
    let a = c.args in
    let at = goal.at.returns-then-out-periods c in
    day-totals-no-room (book_seen a.view) a.account a.day a.out.now (given at.In_ok-asked) (omega (arith, day-periods at.After-periods_at-periods))

pub store_totals-requires : goal.store_totals-requires
store_totals-requires c =
    let a = c.args in
    let at = goal.at.store_totals-requires c in
    let place = c.in_ok-asked.ensures.place in
    rw (place.0, place.1) (omega (arith, day-periods at.After-periods_at-periods))

pub returns : goal.returns
returns c =
    let a = c.args in
    let b = book_seen a.view in
    let at = goal.at.returns c in
    let stored = day-totals-stored b a.account a.day a.out.now (given at.In_ok-asked) (omega (arith, day-periods at.After-periods_at-periods)) in
    let of-day = λ (v : BookView) (d : ℕ). on_front (periods_at (time_in v.book).codes d) (λ (p : ℕ) (old : ℤ). sum_of (book_seen v) a.account d (suc p)) a.out.now in
    (stored.0, c.store_totals.ensures ∙ ap₂ of-day c.in_ok-asked.ensures.place.0 c.in_ok-asked.ensures.place.1 ∙ stored.1)
