-- Before byte n the word is the field of the bytes before it.
use mathlib.Core.Path.{◌≡◌}
use Prim.Native.Nat.{◌*◌}
use Rattle.words.specs.Fields.{field_at}
use Rattle.fields.proofs.whole_bytes.joined.Given as goal

abbrev pub invariant-loop-n : goal.invariant-loop-n
invariant-loop-n l = l.word ≡ field_at l.src (l.first * 8) (l.n * 8)
