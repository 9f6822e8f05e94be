-- A refusal leaves every table; otherwise `open` refuses nothing either, and what it promises is promised here.
use mathlib.Core.Path.{refl, sym}
use Rattle.std.proofs.lemmas.Result.{err_from_is_err_and}
use Rattle.book.proofs.OpeningLaws.{number-refuses, opens-nothing, opens_by}
use Rattle.checked_setups.proofs.CheckedLaws.{both-open}
use Rattle.checked_setups.proofs.opening.open_checked.Goals as goal
use Rattle.checked_setups.proofs.opening.open_checked.Goals.{After-open}

pub returns-in_err-checked_opening_refusal : goal.returns-in_err-checked_opening_refusal
returns-in_err-checked_opening_refusal c =
    let a = c.args in
    let refusal = c.in_err-checked_opening_refusal.field-0.0 in
    let p = err_from_is_err_and c.from_residual.result c.from_residual.ensures.1 in
    rw (p.1, p.2) (opens-nothing a.s a.held.now a.side1.now a.side2.now c.in_err-checked_opening_refusal.ensures (number-refuses refusal) refl)

pub returns : goal.returns
returns c =
    let a = c.args in
    opens_by a.s a.held.now a.side1.now a.side2.now
    (both-open a.s a.held.now a.side1.now a.side2.now (sym c.in_ok-checked_opening_refusal.ensures))
    (goal.at.returns c).After-open.«open».ensures
