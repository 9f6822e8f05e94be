-- The lines of the outcomes left, placed from where the loop stands, make the whole.
use Rattle.std.proofs.Common.{◌≡◌, length, drop}
use Rattle.meaning.specs.SheetLines.{message_lines}
use Rattle.sheet_lines.specs.Outcomes.{outcomes_of}
use Rattle.sheet_lines.specs.Places.{all_placed, place_after_all}
use Rattle.sheet_lines.proofs.put_message_lines.Given as goal

abbrev pub invariant-loop-answer : goal.invariant-loop-answer
invariant-loop-answer l =
    let told = outcomes_of l.answers l.places in
    let left = message_lines l.number (drop (length l.yielded) told) in
    let size = length l.initial.out in
    record {
      buffer : all_placed l.out l.next left ≡ all_placed l.initial.out l.at (message_lines l.first told);
      place : place_after_all size l.next left ≡ place_after_all size l.at (message_lines l.first told);
    }
