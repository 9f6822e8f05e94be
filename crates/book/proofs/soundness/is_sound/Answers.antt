-- A refusal of the setup rules is enough; past them each part is a test of its own.
use mathlib.Core.Path.{sym, ◌∙◌}
use Rattle.book.proofs.OpeningLaws.{answer-refuses, answer-done}
use Rattle.book.proofs.StateLaws.{clock-time}
use Rattle.book.proofs.SoundParts.{sound-refused, sound-parts}
use Rattle.book.proofs.soundness.is_sound.Goals as goal

pub returns-then-is_err : goal.returns-then-is_err
returns-then-is_err c =
    let a = c.args in
    sym (sound-refused a.b a.held.now a.side1.now a.side2.now (λ z. answer-refuses c.opening_refusal.result (sym c.is_err.ensures.value ∙ c.if-is_err.true) (c.opening_refusal.ensures ∙ z)))

pub returns : goal.returns
returns c =
    let a = c.args in
    sound-parts a.b a.held.now a.side1.now a.side2.now
    c.clock_of-c.result
    c.gates_before-gates.result
    c.held_right.result
    c.side_right.result
    c.side_right-2.result
    (sym c.opening_refusal.ensures ∙ answer-done c.opening_refusal.result (sym c.is_err.ensures.value ∙ c.if-is_err.false))
    (clock-time a.b c.clock_of-c.ensures)
    c.gates_before-gates.ensures
    c.held_right.ensures
    c.side_right.ensures
    c.side_right-2.ensures
