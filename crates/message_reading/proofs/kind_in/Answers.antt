-- The first two bits, below 4.
use native.Mathlib.Omega.{arith}
use Rattle.laws.proofs.Fields.{field_lt}
use Rattle.message_reading.proofs.kind_in.Goals as goal

pub overflow_cast-result : goal.overflow_cast-result
overflow_cast-result c = omega (arith, c.read_field.ensures, field_lt c.args.bytes.now 0 2)

pub returns : goal.returns
returns c = c.read_field.ensures
