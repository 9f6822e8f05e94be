-- Where there is room, the word and three numbers, the volume with its sign, and the newline.
use Rattle.std.proofs.Common.{◌≡◌, ℕ, ◌+◌, ◌≤◌, true, List, [], ◌∷◌, ◌++◌, length, sym, ◌∙◌, arith, length-append, to_z-of_z, w64, to_z, of_z}
use Rattle.meaning.specs.Ascii.{ascii}
use Rattle.meaning.specs.Decimals.{signed}
use Rattle.meaning.specs.SheetLines.{field, beginning, newline, total_line}
use Rattle.decimals.specs.Texts.{has_room}
use Rattle.decimals.proofs.Texts.{written_then, written-put, room-free, room_after}
use Rattle.sheet_lines.specs.Places.{most_bytes}
use Rattle.sheet_lines.proofs.Lengths.{total-most}
use Rattle.sheet_lines.proofs.Texts.{no_room, with-room, ended-length}
use Rattle.sheet_lines.proofs.put_total_line.Goals as goal
use Rattle.sheet_lines.proofs.put_total_line.Goals.{Else-not-has_room, Start}

abbrev begin : Else-not-has_room → Start
begin c = (goal.at.Else-not-has_room c).Start

-- past the test there is room for the line
roomy : (c : Else-not-has_room) → has_room (length (begin c).args.out.now) (begin c).args.at most_bytes ≡ true
roomy c = sym c.has_room.ensures ∙ c.if-not-has_room.false

-- the line's parts: what it begins with, and the volume as the machine hands it over
abbrev begun : Start → List ℕ
begun s = beginning (ascii "t") (s.args.account ∷ s.args.day ∷ s.args.period ∷ [])

abbrev volume : Start → List ℕ
volume s = field (signed (to_z w64 (of_z w64 s.args.kwh)))

whole : (s : Start) → total_line s.args.account s.args.day s.args.period s.args.kwh ≡ begun s ++ volume s ++ newline
unfolding total_line
whole s = rw (to_z-of_z s.ranges.kwh)

free : (c : Else-not-has_room) → let s = begin c in s.args.at + length ((begun s ++ volume s) ++ newline) ≤ length s.args.out.now
free c =
    let s = begin c in
    omega (
      arith,
      room-free (length s.args.out.now) s.args.at most_bytes (roomy c),
      rw (whole s) at (total-most s.args.account s.args.day s.args.period s.args.kwh s.ranges.account.fits s.ranges.day.fits s.ranges.period.fits s.ranges.kwh.sfits),
    )

parts : (s : Start) → length ((begun s ++ volume s) ++ newline) ≡ length (begun s) + (length (volume s) + 1)
parts s = omega (arith, ended-length (begun s ++ volume s), length-append (begun s) (volume s))

pub returns-then-not-has_room : goal.returns-then-not-has_room
returns-then-not-has_room c =
    let a = c.args in
    no_room a.out.now a.at (total_line a.account a.day a.period a.kwh) (sym c.has_room.ensures ∙ c.if-not-has_room.true)

pub put_beginning-after_numbers-requires : goal.put_beginning-after_numbers-requires
put_beginning-after_numbers-requires c =
    let tested = (goal.at.put_beginning-after_numbers-requires c).Else-not-has_room in
    omega (arith, free tested, parts (begin tested))

pub put_signed_field-after_kwh-requires : goal.put_signed_field-after_kwh-requires
put_signed_field-after_kwh-requires c =
    let tested = (goal.at.put_signed_field-after_kwh-requires c).Else-not-has_room in
    room_after (length (volume (begin tested))) c.put_beginning-after_numbers.ensures (omega (arith, free tested, parts (begin tested)))

pub returns : goal.returns
returns c =
    let tested = (goal.at.returns c).Else-not-has_room in
    let s = begin tested in
    with-room s.args.out.now s.args.at (total_line s.args.account s.args.day s.args.period s.args.kwh) (roomy tested)
    (rw (whole s) (written-put (free tested) (written_then c.put_beginning-after_numbers.ensures c.put_signed_field-after_kwh.ensures) c.put_word.ensures))
