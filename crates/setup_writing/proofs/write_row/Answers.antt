-- The eight fields at their widths.
use Rattle.setup_writing.specs.Writing.{row_into}
use Rattle.fields.specs.Narrow.{write_from}
use Rattle.setup_writing.proofs.write_row.Goals as goal

pub returns : goal.returns
unfolding row_into write_from
returns c = c.write_fields.ensures
