-- What is laid out stands on both sides as the notification gives it.
use mathlib.Core.Bool.{Bool, cond}
use mathlib.Core.List.{List}
use mathlib.Core.Path.{◌≡◌, ap, ◌∙◌}
use Prim.Native.Nat.{suc}
use lib.IntN.{ℤ}
use Rattle.words.specs.Tests.{◌=?◌}
use Rattle.words.specs.Lists.{map_at}
use Rattle.messages.specs.Structs.{notification_of}
use Rattle.clock.specs.Structs.{time_of}
use Rattle.message_effects.specs.Placing.{laid_volume, laid_out}
use Rattle.message_effects.specs.Effects.{slot_rule}
use Rattle.message_effects.proofs.EffectLaws.{laid-side}
use Rattle.message_effects.proofs.write_slot.Goals as goal

pub returns : goal.returns
returns c =
    let a = c.args in
    let n = a.n in
    let as-given : (writes : Bool) (side : List ℤ) → _ ≡ _ = λ writes side.
    ap (λ (v : List ℤ). cond writes (map_at (slot_rule (time_of a.c) a.slot n.first (suc n.last) (laid_volume v)) side) side) (c.laid_out-laid.ensures ∙ ap (laid_out (time_of a.c) (n.first =? n.last)) c.volumes_of-volumes.ensures)
    ∙ ap (λ (v : List ℤ). cond writes v side) (laid-side (time_of a.c) a.slot n.first (suc n.last) (n.first =? n.last) (notification_of n).entries side) in
    (c.write_side.ensures ∙ as-given a.writes1 a.side1.now, c.write_side-2.ensures ∙ as-given a.writes2 a.side2.now)
