-- What is not sound is refused by 1; of a sound book the rules that read no table are left.
use mathlib.Core.Path.{sym, ◌∙◌}
use Rattle.calls.proofs.CallLaws.{nullification-answer, nullification-rest}
use Rattle.calls.proofs.PackedLaws.{unsound-nullifies}
use Rattle.calls.proofs.nullifications.nullification_refusal.Goals as goal

pub returns-then-not-is_sound : goal.returns-then-not-is_sound
returns-then-not-is_sound c =
    let a = c.args.view in
    (unsound-nullifies a.book a.held.now a.side1.now a.side2.now c.args.x (sym c.is_sound.ensures ∙ c.if-not-is_sound.true)).0
    ∙ sym (nullification-answer a.book a.held.now a.side1.now a.side2.now c.args.x)

pub returns : goal.returns
returns c =
    let a = c.args.view in
    c.judge_nullification.ensures
    ∙ sym (nullification-rest a.book a.held.now a.side1.now a.side2.now c.args.x (sym c.is_sound.ensures ∙ c.if-not-is_sound.false))
