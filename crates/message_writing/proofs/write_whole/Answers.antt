-- The fields by the kind, and the padding as the layouts have it.
use mathlib.Core.Logic.{◌≢◌}
use mathlib.Core.Path.{◌≡◌, ap, ◌∙◌}
use native.Mathlib.Omega.{arith}
use lib.ListN.{length}
use borrow.Author.Tests.{ne_eqb}
use Rattle.words.specs.Fields.{padding}
use Rattle.meaning.specs.PackedMessages.{layout_for}
use Rattle.fields.specs.Narrow.{narrow}
use Rattle.message_writing.specs.Writing.{count_of, fields_written, message_into}
use Rattle.message_writing.proofs.WriteParts.{fields-length}
use Rattle.message_writing.proofs.write_whole.Goals as goal
use Rattle.message_writing.proofs.write_whole.Goals.{Joined-kind, in-1, in-2, in_default}

-- the fields, by the arm that wrote them
written : (c : Joined-kind) → c.match-kind.out ≡ fields_written c.args.m c.args.out.now
unfolding fields_written
written c =
    let kind = c.args.m.kind in
    elim c.match-kind.branch [
      | in-1 w ↦ w.out-is ∙ w.write_notification.ensures ∙ rw w.in-1.is
      | in-2 w ↦ w.out-is ∙ w.write_nullification.ensures ∙ rw w.in-2.is
      | in_default w ↦
          let one : kind ≢ 1 = omega arith in
          let two : kind ≢ 2 = omega arith in
          w.out-is ∙ w.write_field.ensures ∙ rw (ne_eqb kind 1 one, ne_eqb kind 2 two)
    ]

pub shape_of-out : goal.shape_of-out
shape_of-out c =
    let a = c.args in
    c.write_field-2.auto.dst ∙ ap length (written (goal.at.shape_of-out c).Joined-kind) ∙ fields-length a.m a.out.now

pub returns : goal.returns
unfolding message_into
returns c =
    let m = c.args.m in
    let out = c.args.out.now in
    let layout = layout_for m.kind (count_of m) in
    let p : narrow (padding layout) ≡ padding layout = omega arith in
    c.write_field-2.ensures
    ∙ rw (
      written (goal.at.returns c).Joined-kind,
      c.bits_for.ensures,
      c.padding_for.ensures,
      c.count_of-count.ensures,
      p,
    )
