-- The code of a day that a clock holds, and the length of its array of codes.
use mathlib.Core.Path.{◌≡◌, ◌∙◌}
use Prim.Native.Nat.{ℕ, ◌≤◌, ◌<◌}
use lib.ListN.{length, get_or, get_or-eq_default}
use denote.Laws.{Is}
use denote.Struct.Declared.{row}
use denote.Struct.Laws.{owed, vals}
use Rattle.laws.proofs.Builds.{get_or-build, get_or-build-past}
use Rattle.laws.proofs.Cases.{by-lt}
use Rattle.meaning.specs.Time.{periods_of_code, periods_at}
use Rattle.clock.specs.Structs.{time_of}
use Rattle.clock.specs.declared.Clock.{Clock}
use Rattle.clock.specs.contracts.Clock.{the_type}
use Rattle.clock.proofs.Clock.TheLaws.{the_laws}

pub codes-length : (c : Clock) → Is (row the_type) c (vals the_type the_laws c) → length c.codes ≡ 8
codes-length c g = (owed the_type the_laws c (vals the_type the_laws c) g).1.1.0.1.0.1

module _ (c : Clock) (d : ℕ) where
  -- a day of the book
  pub periods-inside : d < c.days → periods_at (time_of c).codes d ≡ periods_of_code (get_or c.codes d 0)
  unfolding periods_at
  periods-inside h = rw (get_or-build c.days (λ (k : ℕ). get_or c.codes k 0) 0 d h)

  -- a day past the book, or past the array
  pub periods-past : c.days ≤ d → periods_at (time_of c).codes d ≡ periods_of_code 0
  unfolding periods_at
  periods-past h = rw (get_or-build-past c.days (λ (k : ℕ). get_or c.codes k 0) 0 d h)

  pub periods-beyond : length c.codes ≤ d → periods_at (time_of c).codes d ≡ periods_of_code 0
  periods-beyond h =
      by-lt d c.days
      (λ l. periods-inside l ∙ rw (get_or-eq_default c.codes 0 {n = d} h))
      (λ l. periods-past l)
