-- After n turns the first n bytes are those of the word without its last ones.
use mathlib.Core.Path.{◌≡◌}
use Prim.Native.Nat.{◌-◌, ◌*◌, ◌/◌, ◌^◌}
use Rattle.words.specs.Fields.{set_field}
use Rattle.fields.proofs.whole_bytes.put_bytes.Given as goal

abbrev pub invariant-loop-n : goal.invariant-loop-n
invariant-loop-n l = l.dst ≡ set_field l.initial.dst (l.first * 8) (l.n * 8) (l.word / 2 ^ ((l.count - l.n) * 8))
