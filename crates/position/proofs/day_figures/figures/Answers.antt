-- A refusal gives three zeros; past it two sums and their difference are converted.
use mathlib.Core.Bool.{true, false}
use Prim.Native.Nat.{ℕ}
use Rattle.meaning.specs.Totals.{day_sum}
use mathlib.Core.Path.{◌≡◌, ap, ap₂, ◌∙◌}
use native.Mathlib.Omega.{arith}
use mir.Facts.{to_z-of_z}
use mir.Syntax.{w64}
use mir.Val.{to_z, of_z}
use borrow.Author.Rules.{rules}
use Rattle.std.specs.Prelude.{Err}
use Rattle.limits.specs.Refusals.{number_of}
use Rattle.limits.proofs.AnswerNumbers.{never-done}
use Rattle.laws.proofs.Machine.{abs-fits}
use Rattle.book.specs.declared.BookView.{BookView}
use Rattle.book.specs.Structs.{book_seen}
use Rattle.position.specs.Counting.{part_of, figures_for}
use Rattle.position.specs.Totals.{figured_of}
use Rattle.position.specs.declared.Sums.{Sums}
use Rattle.position.specs.declared.DayFigures.{DayFigures}
use Rattle.position.specs.declared.Figured.{Figured}
use Rattle.position.proofs.TotalLaws.{Asked, asked}
use Rattle.position.proofs.FigureLaws.{figures-refused, figures-given}
use Rattle.position.proofs.day_figures.figures.Goals as goal
use Rattle.position.proofs.day_figures.figures.Goals.{After-day_sums-sums, In_ok-asked}

pub returns-in_err-asked : goal.returns-in_err-asked
returns-in_err-asked c =
    let a = c.args in
    let refusal = c.in_err-asked.field-0.0 in
    let same : c.from_residual.result ≡ Err refusal = search rules in
    ap figured_of same ∙ figures-refused (book_seen a.view) a.account a.day (number_of refusal) c.in_err-asked.ensures.refusal (λ q. never-done refusal q)

-- what holds where the day is not refused
given : (c : In_ok-asked) → Asked (book_seen c.args.view) c.args.account c.args.day
given c = asked (book_seen c.args.view) c.args.account c.args.day c.in_ok-asked.ensures.refusal

-- the two sums, as they are handed over
module _ (c : After-day_sums-sums) where
  abbrev sums : Sums
  sums = c.day_sums-sums.result

  sold-back : to_z w64 (of_z w64 sums.sold) ≡ sums.sold
  sold-back = to_z-of_z {w = w64} (abs-fits (omega (arith, c.day_sums-sums.ensures.sold-fits)))

  bought-back : to_z w64 (of_z w64 sums.bought) ≡ sums.bought
  bought-back = to_z-of_z {w = w64} (abs-fits (omega (arith, c.day_sums-sums.ensures.bought-fits)))

pub returns : goal.returns
returns c =
    let a = c.args in
    let b = book_seen a.view in
    let at = goal.at.returns c in
    let made : DayFigures → Figured = λ (f : DayFigures). record { answer = 0; day = f } in
    let sums = c.day_sums-sums.ensures in
    ap made (c.day_figures.ensures ∙ ap₂ figures_for (sold-back at.After-day_sums-sums ∙ sums.sold-is) (bought-back at.After-day_sums-sums ∙ sums.bought-is))
    ∙ ap₂ (λ (v : BookView) (d : ℕ). made (figures_for (day_sum (part_of false) (book_seen v) a.account d) (day_sum (part_of true) (book_seen v) a.account d))) c.in_ok-asked.ensures.place.0 c.in_ok-asked.ensures.place.1
    ∙ figures-given b a.account a.day (given at.In_ok-asked)
