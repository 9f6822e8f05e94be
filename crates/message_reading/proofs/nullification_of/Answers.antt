-- Each field from its own place on; of another kind none.
use native.Mathlib.Omega.{arith}
use borrow.Author.Tests.{ne_eqb}
use Rattle.laws.proofs.Fields.{field_lt}
use Rattle.message_reading.specs.Parts.{nullification_in}
use Rattle.message_reading.proofs.nullification_of.Goals as goal

pub returns-then-kind-ne2 : goal.returns-then-kind-ne2
returns-then-kind-ne2 c =
    rw (ne_eqb c.args.kind 2 c.if-kind-ne2.true)

pub overflow_cast-result : goal.overflow_cast-result
overflow_cast-result c =
    omega (arith, c.read_field.ensures, field_lt c.args.bytes.now 2 6)

pub overflow_cast-result-2 : goal.overflow_cast-result-2
overflow_cast-result-2 c =
    omega (arith, c.read_field-2.ensures, field_lt c.args.bytes.now 8 6)

pub overflow_cast-result-3 : goal.overflow_cast-result-3
overflow_cast-result-3 c =
    omega (arith, c.read_field-3.ensures, field_lt c.args.bytes.now 14 16)

pub returns : goal.returns
unfolding nullification_in
returns c =
    rw (c.if-kind-ne2.false, c.read_field.ensures, c.read_field-2.ensures, c.read_field-3.ensures)
