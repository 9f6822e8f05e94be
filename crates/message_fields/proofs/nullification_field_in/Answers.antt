-- Each field by its number; the others are zero. A field is read at its place, and keeps its value as an `i64`.
use mathlib.Core.Path.{ap, ◌∙◌}
use mir.Facts.{to_z_pos}
use mir.Syntax.{w64}
use native.Mathlib.Omega.{arith}
use lib.IntN.{pos}
use borrow.Author.Tests.{ne_eqb}
use Rattle.message_reading.specs.Parts.{nullification_in}
use Rattle.message_fields.specs.Questions.{nullification_field}
use Rattle.message_fields.proofs.nullification_field_in.Goals as goal

pub returns-in-6 : goal.returns-in-6
unfolding nullification_field nullification_in
returns-in-6 c = rw c.in-6.is (to_z_pos w64 (omega arith) ∙ ap pos c.read_field.ensures)

pub returns-in-9 : goal.returns-in-9
unfolding nullification_field nullification_in
returns-in-9 c = rw c.in-9.is (to_z_pos w64 (omega arith) ∙ ap pos c.read_field-in-9.ensures)

pub returns-in-10 : goal.returns-in-10
unfolding nullification_field nullification_in
returns-in-10 c = rw c.in-10.is (to_z_pos w64 (omega arith) ∙ ap pos c.read_field-in-10.ensures)

pub returns-in_default : goal.returns-in_default
unfolding nullification_field
returns-in_default c =
    let field = c.args.field in
    rw (
      ne_eqb field 6 (omega arith),
      ne_eqb field 9 (omega arith),
      ne_eqb field 10 (omega arith),
    )
