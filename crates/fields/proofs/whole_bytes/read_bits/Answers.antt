-- A field of at most 32 bits fits the type.
use native.Mathlib.Omega.{arith}
use Rattle.laws.proofs.Fields.{field_fits}
use Rattle.fields.proofs.whole_bytes.read_bits.Goals as goal

pub overflow_cast-result : goal.overflow_cast-result
overflow_cast-result c =
    let a = c.args in
    omega (arith, c.cut_out.ensures, field_fits a.src.now a.at a.width 32 (omega arith))

pub returns : goal.returns
returns c = c.cut_out.ensures
