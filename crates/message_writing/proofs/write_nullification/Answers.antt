-- The fields at their widths.
use Rattle.fields.specs.Narrow.{write_from}
use Rattle.message_writing.specs.Writing.{nullification_written}
use Rattle.message_writing.proofs.write_nullification.Goals as goal

pub shape_of-out : goal.shape_of-out
shape_of-out c = c.write_fields.auto.dst

pub returns : goal.returns
unfolding nullification_written write_from
returns c = c.write_fields.ensures
