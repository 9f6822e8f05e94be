-- The time that a clock holds: its first `days` codes.
use Rattle.std.specs.Prelude.{ℕ, get_or}
use Rattle.words.specs.Lists.{build}
use Rattle.meaning.specs.Time.{Time}
use Rattle.clock.specs.declared.Clock.{Clock}

abbrev pub time_of : Clock → Time
time_of c = record { first = c.first; codes = build c.days (λ (k : ℕ). get_or c.codes k 0); closed = c.closed }
