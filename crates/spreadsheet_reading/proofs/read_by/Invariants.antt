-- The loop keeps what is known of the bytes so far (SoFar.antt); each way out is one of the definition's answers (Judging.antt).
use Rattle.std.proofs.Common.{take}
use Rattle.spreadsheet_reading.proofs.SoFar.{SoFar}
use Rattle.spreadsheet_reading.proofs.read_by.Given as goal

abbrev pub invariant-loop-place : goal.invariant-loop-place
invariant-loop-place l = SoFar (take l.place l.bytes) l.state l.begun l.line l.entries
