-- A refusal leaves every table; otherwise each is filled.
use mathlib.Core.Path.{◌≡◌, refl, ap, ◌∙◌}
use Prim.Native.Nat.{ℕ}
use Rattle.std.proofs.lemmas.Result.{err_from_is_err_and}
use Rattle.book.specs.Answers.{opened, held_opened, side_opened}
use Rattle.book.proofs.OpeningLaws.{opening_answer, number-refuses, opens-nothing}
use Rattle.book.proofs.opening.open.Goals as goal

pub returns-in_err-opening_refusal : goal.returns-in_err-opening_refusal
returns-in_err-opening_refusal c =
    let a = c.args in
    let refusal = c.in_err-opening_refusal.field-0.0 in
    let p = err_from_is_err_and c.from_residual.result c.from_residual.ensures.1 in
    rw (p.1, p.2) (opens-nothing a.s a.held.now a.side1.now a.side2.now c.in_err-opening_refusal.ensures (number-refuses refusal) refl)

pub returns : goal.returns
unfolding opened held_opened side_opened
returns c =
    let a = c.args in
    let e : 0 ≡ opening_answer a.s a.held.now a.side1.now a.side2.now = c.in_ok-opening_refusal.ensures in (
      ap (opened a.s) e,
      c.fill.ensures.after (λ y e. e) ∙ ap (λ (n : ℕ). held_opened n a.held.now) e,
      c.fill-2.ensures.after (λ y e. e) ∙ ap (λ (n : ℕ). side_opened n a.side1.now) e,
      c.fill-3.ensures.after (λ y e. e) ∙ ap (λ (n : ℕ). side_opened n a.side2.now) e,
    )
