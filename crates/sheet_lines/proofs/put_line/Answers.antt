-- Where there is room, the word and the numbers, and the newline after them.
use Rattle.std.proofs.Common.{◌≡◌, ◌+◌, ◌≤◌, true, length, sym, ◌∙◌, arith}
use Rattle.meaning.specs.SheetLines.{beginning, line}
use Rattle.decimals.specs.Texts.{has_room}
use Rattle.decimals.proofs.Texts.{written-put, room-free}
use Rattle.sheet_lines.specs.Places.{most_bytes}
use Rattle.sheet_lines.proofs.Texts.{no_room, with-room, ended-length}
use Rattle.sheet_lines.proofs.put_line.Goals as goal
use Rattle.sheet_lines.proofs.put_line.Goals.{Else-not-has_room}

-- past the test there is room for the line
roomy : (c : Else-not-has_room) → let a = c.args in has_room (length a.out.now) a.at most_bytes ≡ true
roomy c = sym c.has_room.ensures ∙ c.if-not-has_room.false

free : (c : Else-not-has_room) → let a = c.args in a.at + length (line a.word.now a.numbers.now) ≤ length a.out.now
free c = let a = c.args in omega (arith, c.requires, room-free (length a.out.now) a.at most_bytes (roomy c))

pub returns-then-not-has_room : goal.returns-then-not-has_room
returns-then-not-has_room c =
    let a = c.args in
    no_room a.out.now a.at (line a.word.now a.numbers.now) (sym c.has_room.ensures ∙ c.if-not-has_room.true)

pub put_beginning-after_numbers-requires : goal.put_beginning-after_numbers-requires
put_beginning-after_numbers-requires c =
    let a = c.args in
    omega (arith, free (goal.at.put_beginning-after_numbers-requires c).Else-not-has_room, ended-length (beginning a.word.now a.numbers.now))

pub returns : goal.returns
returns c =
    let a = c.args in
    let tested = (goal.at.returns c).Else-not-has_room in
    with-room a.out.now a.at (line a.word.now a.numbers.now) (roomy tested)
    (written-put (free tested) c.put_beginning-after_numbers.ensures c.put_word.ensures)
