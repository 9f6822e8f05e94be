-- After k turns the first k fields are written.
use mathlib.Core.Path.{◌≡◌}
use mathlib.Core.List.{map}
use Prim.Native.Nat.{◌+◌, ◌*◌, ◌≤◌}
use lib.ListN.{take}
use Rattle.words.specs.Fields.{total, write_all}
use Rattle.fields.specs.Narrow.{narrow}
use Rattle.fields.proofs.write_fields.Given as goal

abbrev pub invariant-loop-k : goal.invariant-loop-k
invariant-loop-k l =
    (l.p ≡ l.at + total (take l.k (map narrow l.widths))) × (l.p ≤ l.at + 32 * l.k)
    × (l.dst ≡ write_all l.initial.dst l.at (take l.k (map narrow l.widths)) (take l.k l.values))
