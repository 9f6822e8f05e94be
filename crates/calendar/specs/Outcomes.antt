-- What C is given of an outcome: 0 beside the value, or the refusal's number beside zeros. No two outcomes give the same (proofs/Outcomes.antt).
use Rattle.std.specs.Prelude.{ℕ, List, replicate, Result, Ok, Err}
use Rattle.limits.specs.declared.refusals.Refusal.{Refusal}
use Rattle.limits.specs.Refusals.{number_of}
use Rattle.calendar.specs.declared.Date.{Date}
use Rattle.calendar.specs.declared.Measured.{Measured}
use Rattle.calendar.specs.declared.Coded.{Coded}
use Rattle.calendar.specs.declared.Numbered.{Numbered}
use Rattle.calendar.specs.declared.Dated.{Dated}
use Rattle.calendar.specs.declared.Proposed.{Proposed}

abbrev pub as_measured : Result ℕ Refusal → Measured
as_measured (Ok periods) = record { answer = 0; periods = periods }
as_measured (Err refusal) = record { answer = number_of refusal; periods = 0 }

abbrev pub as_coded : Result ℕ Refusal → Coded
as_coded (Ok code) = record { answer = 0; code = code }
as_coded (Err refusal) = record { answer = number_of refusal; code = 0 }

abbrev pub as_numbered : Result ℕ Refusal → Numbered
as_numbered (Ok day) = record { answer = 0; day = day }
as_numbered (Err refusal) = record { answer = number_of refusal; day = 0 }

abbrev pub as_dated : Result Date Refusal → Dated
as_dated (Ok date) = record { answer = 0; date = date }
as_dated (Err refusal) = record { answer = number_of refusal; date = record { year = 0; month = 0; day = 0 } }

abbrev pub as_proposed : Result (List ℕ) Refusal → Proposed
as_proposed (Ok codes) = record { answer = 0; codes = codes }
as_proposed (Err refusal) = record { answer = number_of refusal; codes = replicate 8 0 }
