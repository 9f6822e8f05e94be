-- What is not sound is refused by 1; a sound book judges.
use mathlib.Core.Path.{sym, ◌∙◌}
use Rattle.calls.proofs.PackedLaws.{unsound-notifies}
use Rattle.calls.proofs.notifications.notification_answer.Goals as goal

pub returns-then-not-is_sound : goal.returns-then-not-is_sound
returns-then-not-is_sound c =
    let a = c.args.view in
    rw c.into.ensures
    (unsound-notifies a.book a.held.now a.side1.now a.side2.now c.args.n (sym c.is_sound.ensures ∙ c.if-not-is_sound.true)).0
