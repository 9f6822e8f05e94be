-- The word and the numbers, one after the other.
use Rattle.std.proofs.Common.{◌+◌, ◌≤◌, length, arith, length-append}
use Rattle.meaning.specs.SheetLines.{fields}
use Rattle.decimals.specs.Texts.{Written}
use Rattle.decimals.proofs.Texts.{put_written, written_then, room_after}
use Rattle.sheet_lines.proofs.put_beginning.Goals as goal
use Rattle.sheet_lines.proofs.put_beginning.Goals.{Start, After-put_word-after_word}

-- there is room for both
both : (s : Start) → let a = s.args in a.at + (length a.word.now + length (fields a.numbers.now)) ≤ length a.out.now
both s = let a = s.args in omega (arith, s.requires, length-append a.word.now (fields a.numbers.now))

word : (c : After-put_word-after_word) → let a = c.args in let w = c.put_word-after_word in Written a.out.now a.at a.word.now w.new.out w.result
word c = put_written (omega (arith, both (goal.at.After-put_word-after_word c).Start)) c.put_word-after_word.ensures

pub put_fields-requires : goal.put_fields-requires
put_fields-requires c =
    let at = goal.at.put_fields-requires c in
    room_after (length (fields c.args.numbers.now)) (word at.After-put_word-after_word) (both at.Start)

pub returns : goal.returns
returns c = written_then (word (goal.at.returns c).After-put_word-after_word) c.put_fields.ensures
