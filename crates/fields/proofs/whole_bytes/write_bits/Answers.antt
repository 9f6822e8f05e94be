-- The bytes that hold the field are joined, it is made in them, and they are written again.
use mathlib.Core.Path.{ap, ◌∙◌}
use Prim.Native.Nat.{◌+◌, ◌-◌, ◌*◌, ◌/◌, ◌%◌}
use native.Mathlib.Omega.{arith}
use Rattle.words.specs.Fields.{set_field}
use Rattle.laws.proofs.WideFields.{put_same}
use Rattle.fields.proofs.whole_bytes.write_bits.Goals as goal

pub returns : goal.returns
returns c =
    let a = c.args in
    let count = (a.at % 8 + a.width + 7) / 8 in
    let below = count * 8 - a.at % 8 - a.width in
    c.put_bytes.ensures
    ∙ ap (set_field a.dst.now (a.at / 8 * 8) (count * 8)) (c.made_in.ensures ∙ rw c.joined-word.ensures)
    ∙ put_same a.dst.now (a.at / 8 * 8) (count * 8) a.at a.width below (omega arith) (omega arith) a.value
