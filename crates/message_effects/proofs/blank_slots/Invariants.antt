-- After s turns the places of the slots before s are what the nullification makes of them, and the others as they were.
use mathlib.Core.Path.{◌≡◌}
use Prim.Native.Nat.{ℕ}
use lib.Dec.{ltb}
use lib.ListN.{length}
use Rattle.words.specs.Lists.{map_at}
use Rattle.meaning.specs.Time.{days}
use Rattle.meaning.specs.Ledgers.{slot_at, Side}
use Rattle.setups.specs.Structs.{rows_of}
use Rattle.book.specs.Structs.{time_in}
use Rattle.message_effects.specs.Effects.{only, nullified}
use Rattle.message_effects.proofs.EffectLaws.{place_rule}
use Rattle.message_effects.proofs.blank_slots.Given as goal

abbrev pub invariant-loop-s : goal.invariant-loop-s
invariant-loop-s l =
    (length l.side ≡ length l.initial.side)
    × ((σ : Side) → l.side ≡ map_at (only (λ (j : ℕ). ltb (slot_at (days (time_in l.b)) j) l.s) (place_rule (rows_of l.b.setup.authorisations l.b.setup.rows) (time_in l.b) (nullified l.account l.other l.first) l.held σ)) l.initial.side)
