-- The bytes that hold the field are joined, and it is cut out of them.
use mathlib.Core.Path.{◌∙◌}
use Prim.Native.Nat.{◌+◌, ◌-◌, ◌*◌, ◌/◌, ◌%◌}
use native.Mathlib.Omega.{arith}
use Rattle.laws.proofs.WideFields.{cut-same}
use Rattle.fields.proofs.whole_bytes.cut_out.Goals as goal

pub returns : goal.returns
returns c =
    let a = c.args in
    let count = (a.at % 8 + a.width + 7) / 8 in
    c.cut.ensures
    ∙ rw c.joined-word.ensures (cut-same a.src.now (a.at / 8 * 8) (count * 8) a.at a.width (count * 8 - a.at % 8 - a.width) (omega arith) (omega arith))
