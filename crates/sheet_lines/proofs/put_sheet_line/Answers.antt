-- Its line is one of a word and numbers, and never longer than the room.
use Rattle.meaning.specs.SheetLines.{sheet_line}
use Rattle.sheet_lines.proofs.Lengths.{sheet-most}
use Rattle.sheet_lines.proofs.put_sheet_line.Goals as goal

pub put_line-requires : goal.put_line-requires
unfolding sheet_line
put_line-requires c =
    sheet-most c.args.first c.args.days c.args.accounts c.ranges.first.fits c.ranges.days.fits c.ranges.accounts.fits

pub returns : goal.returns
unfolding sheet_line
returns c = c.put_line.ensures
