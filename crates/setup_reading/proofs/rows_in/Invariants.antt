-- The loop fills the places of the rows: each has its row, and those past them are still all zero.
use mathlib.Core.List.{List}
use mathlib.Core.Path.{◌≡◌}
use Prim.Native.Nat.{ℕ}
use Rattle.std.specs.Prelude.{if◌then◌else◌}
use Rattle.words.specs.Tests.{◌<?◌}
use Rattle.laws.proofs.Builds.{filled}
use Rattle.setups.specs.declared.Authorisation.{Authorisation}
use Rattle.setups.specs.Structs.{no_authorisation}
use Rattle.setup_reading.specs.Parts.{row_in}
use Rattle.setup_reading.proofs.rows_in.Given as goal

abbrev pub row_or_none : List ℕ → ℕ → ℕ → ℕ → Authorisation
row_or_none s days count k = if k <? count then row_in s days k else no_authorisation

abbrev pub invariant-loop-k : goal.invariant-loop-k
invariant-loop-k l = l.rows ≡ filled 64 (row_or_none l.bytes l.days l.count) no_authorisation l.k
