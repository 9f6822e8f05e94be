-- After k turns the front holds the first k fields, and behind it stands what was there.
use mathlib.Core.Path.{◌≡◌}
use mathlib.Core.List.{map, ◌++◌}
use Prim.Native.Nat.{◌+◌, ◌*◌, ◌≤◌}
use lib.ListN.{length, take, drop}
use Rattle.words.specs.Fields.{total, read_all}
use Rattle.fields.specs.Narrow.{narrow}
use Rattle.fields.proofs.read_fields.Given as goal

abbrev pub invariant-loop-k : goal.invariant-loop-k
invariant-loop-k l =
    (l.p ≡ l.at + total (take l.k (map narrow l.widths))) × (l.p ≤ l.at + 32 * l.k)
    × (l.out ≡ read_all l.src l.at (take l.k (map narrow l.widths)) ++ drop l.k l.initial.out) × (length l.out ≡ length l.initial.out)
