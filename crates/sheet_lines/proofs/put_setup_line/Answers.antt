-- Its line is one of a word and numbers, and never longer than the room.
use Rattle.meaning.specs.SheetLines.{setup_line}
use Rattle.sheet_lines.proofs.Lengths.{setup-most}
use Rattle.sheet_lines.proofs.put_setup_line.Goals as goal

pub put_line-requires : goal.put_line-requires
unfolding setup_line
put_line-requires c =
    setup-most c.args.number c.ranges.number.fits

pub returns : goal.returns
unfolding setup_line
returns c = c.put_line.ensures
