-- Either line is one of a word and numbers, and never longer than the room.
use Rattle.std.proofs.Common.{◌≡◌, ◌≤◌, true, false, length, sym, ◌∙◌, arith}
use Rattle.words.specs.Rules.{Outcome}
use Rattle.meaning.specs.SheetLines.{carries_place, message_line}
use Rattle.sheet_lines.specs.Places.{most_bytes}
use Rattle.sheet_lines.proofs.Lengths.{message-most}
use Rattle.sheet_lines.proofs.Sequences.{line-with-place, line-without}
use Rattle.sheet_lines.proofs.put_message_line.Goals as goal
use Rattle.sheet_lines.proofs.put_message_line.Goals.{Else-carries_place, Start, Then-carries_place}

abbrev told : Start → Outcome
told s = record { answer = s.args.answer; place = s.args.place }

fits : (s : Start) → length (message_line s.args.number (told s)) ≤ most_bytes
fits s = omega (arith, message-most s.args.number (told s) s.ranges.number.fits s.ranges.answer.fits s.ranges.place.fits)

-- what the test found
carries : (c : Then-carries_place) → carries_place c.args.answer ≡ true
carries c = sym c.carries_place.ensures ∙ c.if-carries_place.true

carries-none : (c : Else-carries_place) → carries_place c.args.answer ≡ false
carries-none c = sym c.carries_place.ensures ∙ c.if-carries_place.false

pub put_line-requires : goal.put_line-requires
put_line-requires c =
    rw (line-with-place c.args.number (told (goal.at.put_line-requires c).Start) (carries (goal.at.put_line-requires c).Then-carries_place)) at (fits (goal.at.put_line-requires c).Start)

pub returns-then-carries_place : goal.returns-then-carries_place
returns-then-carries_place c =
    rw (line-with-place c.args.number (told (goal.at.returns-then-carries_place c).Start) (carries (goal.at.returns-then-carries_place c).Then-carries_place)) c.put_line.ensures

pub put_line-requires-2 : goal.put_line-requires-2
put_line-requires-2 c =
    rw (line-without c.args.number (told (goal.at.put_line-requires-2 c).Start) (carries-none (goal.at.put_line-requires-2 c).Else-carries_place)) at (fits (goal.at.put_line-requires-2 c).Start)

pub returns : goal.returns
returns c =
    rw (line-without c.args.number (told (goal.at.returns c).Start) (carries-none (goal.at.returns c).Else-carries_place)) c.put_line-2.ensures
