-- What C is given of what was written at the front of a buffer: 0 beside the length, or the refusal's number beside 0. No two outcomes give the same
-- (proofs/Fronts.antt).
use Rattle.std.specs.Prelude.{ℕ, Result, Ok, Err}
use Rattle.limits.specs.declared.refusals.Refusal.{Refusal}
use Rattle.limits.specs.Refusals.{number_of}
use Rattle.fields.specs.declared.WrittenBytes.{WrittenBytes}

abbrev pub written_as : Result ℕ Refusal → WrittenBytes
written_as (Ok length) = record { answer = 0; length = length }
written_as (Err refusal) = record { answer = number_of refusal; length = 0 }
