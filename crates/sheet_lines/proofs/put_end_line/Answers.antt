-- Its line is one of a word and numbers, and never longer than the room.
use Rattle.meaning.specs.SheetLines.{end_line}
use Rattle.sheet_lines.proofs.Lengths.{end-most}
use Rattle.sheet_lines.proofs.put_end_line.Goals as goal

pub put_line-requires : goal.put_line-requires
unfolding end_line
put_line-requires c =
    end-most c.args.count c.ranges.count.fits

pub returns : goal.returns
unfolding end_line
returns c = c.put_line.ensures
