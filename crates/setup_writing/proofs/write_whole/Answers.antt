-- The head, the codes, the rows and the padding, one after the other.
use mathlib.Core.Path.{◌≡◌, ◌∙◌}
use native.Mathlib.Omega.{arith}
use Rattle.words.specs.Fields.{padding}
use Rattle.fields.specs.Narrow.{narrow, write_from}
use Rattle.meaning.specs.PackedSetups.{setup_layout_for}
use Rattle.setup_writing.specs.Writing.{setup_into}
use Rattle.setup_writing.proofs.write_whole.Goals as goal

pub returns : goal.returns
unfolding setup_into write_from
returns c =
    let layout = setup_layout_for c.args.s.days c.args.s.authorisations in
    let p : narrow (padding layout) ≡ padding layout = omega arith in
    c.write_field.ensures
    ∙ rw (c.write_rows.ensures, c.write_codes.ensures, c.write_fields.ensures, c.bits_for-bits.ensures, c.padding_for-padding.ensures, p)

pub shape_of-out : goal.shape_of-out
shape_of-out c = c.write_field.auto.dst ∙ c.write_rows.auto.out ∙ c.write_codes.auto.out ∙ c.write_fields.auto.dst
