-- The loop fills the places of the days: each has its code, and those past them are still zero.
use mathlib.Core.List.{List}
use mathlib.Core.Path.{◌≡◌}
use Prim.Native.Nat.{ℕ, ◌+◌, ◌*◌}
use Rattle.std.specs.Prelude.{if◌then◌else◌}
use Rattle.words.specs.Tests.{◌<?◌}
use Rattle.words.specs.Fields.{field_at}
use Rattle.laws.proofs.Builds.{filled}
use Rattle.setup_reading.proofs.codes_in.Given as goal

abbrev pub code_in : List ℕ → ℕ → ℕ → ℕ
code_in s days d = if d <? days then field_at s (34 + 2 * d) 2 else 0

abbrev pub invariant-loop-d : goal.invariant-loop-d
invariant-loop-d l = l.codes ≡ filled 8 (code_in l.bytes l.days) 0 l.d
