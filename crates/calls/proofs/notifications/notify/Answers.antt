-- What is not sound is refused by 1 and stays; a sound book does it.
use mathlib.Core.Path.{sym, ◌∙◌}
use Rattle.calls.proofs.PackedLaws.{unsound-notifies}
use Rattle.calls.proofs.notifications.notify.Goals as goal

pub returns-then-not-is_sound : goal.returns-then-not-is_sound
returns-then-not-is_sound c =
    let a = c.args in
    rw c.into.ensures
    (unsound-notifies a.b a.held.now a.side1.now a.side2.now a.n (sym c.is_sound.ensures ∙ c.if-not-is_sound.true))
