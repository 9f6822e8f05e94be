-- After d turns the places of the days before d are written.
use mathlib.Core.Path.{◌≡◌}
use Prim.Native.Nat.{ℕ}
use lib.Dec.{ltb}
use lib.ListN.{length}
use Rattle.words.specs.Lists.{map_at}
use Rattle.meaning.specs.Ledgers.{day_at}
use Rattle.clock.specs.Structs.{time_of}
use Rattle.message_effects.specs.Placing.{laid_volume}
use Rattle.message_effects.specs.Effects.{only, slot_rule}
use Rattle.message_effects.proofs.write_days.Given as goal

abbrev pub invariant-loop-d : goal.invariant-loop-d
invariant-loop-d l =
    (length l.side ≡ length l.initial.side) × (l.side ≡ map_at (only (λ (j : ℕ). ltb (day_at l.c.days j) l.d) (slot_rule (time_of l.c) l.slot l.first l.until (laid_volume l.laid))) l.initial.side)
