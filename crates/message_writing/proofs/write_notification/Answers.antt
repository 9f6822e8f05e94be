-- The fields at their widths, and then the entries.
use mathlib.Core.Path.{ap, ◌∙◌}
use Rattle.fields.specs.Narrow.{write_from}
use Rattle.message_writing.specs.Writing.{entries_written, notification_written}
use Rattle.message_writing.proofs.write_notification.Goals as goal

pub shape_of-out : goal.shape_of-out
shape_of-out c = c.write_entries.auto.out ∙ c.write_fields.auto.dst

pub returns : goal.returns
unfolding notification_written write_from
returns c =
    let a = c.args in
    c.write_entries.ensures ∙ ap (entries_written a.n) c.write_fields.ensures
