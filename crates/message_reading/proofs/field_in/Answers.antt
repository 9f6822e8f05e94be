-- The field of a notification, and no field of another kind.
use mathlib.Core.Path.{refl}
use Rattle.laws.proofs.Fields.{field_lt}
use Rattle.fields.specs.Narrow.{narrow}
use Rattle.message_reading.proofs.field_in.Goals as goal

pub returns : goal.returns
returns c =
    let a = c.args in
    rw (c.if-kind-ne1.false, c.read_field.ensures) (refl, field_lt a.bytes.now a.at (narrow a.width))
