-- The loop fills the eight places: with the code where there is a day, and with nothing past the days.
use Rattle.std.proofs.Common.{◌≡◌, ℕ, ◌+◌}
use Rattle.std.specs.Prelude.{if◌then◌else◌}
use Rattle.words.specs.Tests.{◌<?◌}
use Rattle.laws.proofs.Builds.{filled}
use Rattle.calendar.specs.Calendar.{code_of}
use Rattle.calendar.proofs.proposals.codes_from.Given as goal

abbrev pub code_at : ℕ → ℕ → ℕ → ℕ
code_at first days d = if d <? days then code_of (first + d) else 0

abbrev pub invariant-loop-d : goal.invariant-loop-d
invariant-loop-d l = l.code-items ≡ filled 8 (code_at l.first l.days) 0 l.d
