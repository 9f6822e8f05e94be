-- Each field of the head by its number; past them the entries. A field is read at its place, and keeps its value as an `i64`.
use mathlib.Core.Path.{ap, ◌∙◌}
use mir.Facts.{to_z_pos}
use mir.Syntax.{w64}
use native.Mathlib.Omega.{arith}
use lib.IntN.{pos}
use borrow.Author.Tests.{ne_eqb}
use Rattle.laws.proofs.Machine.{back}
use Rattle.message_reading.specs.Parts.{notification_in}
use Rattle.message_fields.specs.Questions.{notification_field}
use Rattle.message_fields.proofs.notification_field_in.Goals as goal

pub returns-in-1 : goal.returns-in-1
unfolding notification_field notification_in
returns-in-1 c = rw c.in-1.is (to_z_pos w64 (omega arith) ∙ ap pos c.read_field.ensures)

pub returns-in-2 : goal.returns-in-2
unfolding notification_field notification_in
returns-in-2 c = rw c.in-2.is (to_z_pos w64 (omega arith) ∙ ap pos c.read_field-in-2.ensures)

pub returns-in-3 : goal.returns-in-3
unfolding notification_field notification_in
returns-in-3 c = rw c.in-3.is (to_z_pos w64 (omega arith) ∙ ap pos c.read_field-in-3.ensures)

pub returns-in-4 : goal.returns-in-4
unfolding notification_field notification_in
returns-in-4 c = rw c.in-4.is (to_z_pos w64 (omega arith) ∙ ap pos c.read_field-in-4.ensures)

pub returns-in-5 : goal.returns-in-5
unfolding notification_field notification_in
returns-in-5 c = rw c.in-5.is (to_z_pos w64 (omega arith) ∙ ap pos c.read_field-in-5.ensures)

pub returns-in-6 : goal.returns-in-6
unfolding notification_field notification_in
returns-in-6 c = rw c.in-6.is (to_z_pos w64 (omega arith) ∙ ap pos c.read_field-in-6.ensures)

pub returns-in-7 : goal.returns-in-7
unfolding notification_field notification_in
returns-in-7 c = rw c.in-7.is (to_z_pos w64 (omega arith) ∙ ap pos c.read_field-in-7.ensures)

pub returns-in-8 : goal.returns-in-8
unfolding notification_field notification_in
returns-in-8 c = rw c.in-8.is (to_z_pos w64 (omega arith) ∙ ap pos c.read_field-in-8.ensures)

pub returns-in_default : goal.returns-in_default
unfolding notification_field
returns-in_default c =
    let field = c.args.field in
    rw (
      back w64 c.entry_field_in.result c.entry_field_in.type_inv,
      c.entry_field_in.ensures,
      ne_eqb field 1 (omega arith),
      ne_eqb field 2 (omega arith),
      ne_eqb field 3 (omega arith),
      ne_eqb field 4 (omega arith),
      ne_eqb field 5 (omega arith),
      ne_eqb field 6 (omega arith),
      ne_eqb field 7 (omega arith),
      ne_eqb field 8 (omega arith),
    )
