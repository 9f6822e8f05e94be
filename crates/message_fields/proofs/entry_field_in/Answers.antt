-- The ranges of the code are those of the definition. A period keeps its value as an `i64`, and so does a volume.
use mir.Facts.{to_z_pos}
use mir.Syntax.{w64}
use native.Mathlib.Omega.{arith}
use borrow.Author.Tests.{lt-ltb, le-ltb}
use Rattle.laws.proofs.Machine.{wide-32}
use Rattle.message_fields.specs.Questions.{entry_field}
use Rattle.message_fields.proofs.entry_field_in.Goals as goal

pub returns-in-100-to-149 : goal.returns-in-100-to-149
unfolding entry_field
returns-in-100-to-149 c =
    let field = c.args.field in
    rw (le-ltb field 100 (omega arith), lt-ltb field 150 (omega arith), ← c.entry_of.ensures) (to_z_pos w64 (omega arith))

pub returns-in-200-to-249 : goal.returns-in-200-to-249
unfolding entry_field
returns-in-200-to-249 c =
    let field = c.args.field in
    rw (
      le-ltb field 100 (omega arith),
      le-ltb field 150 (omega arith),
      le-ltb field 200 (omega arith),
      lt-ltb field 250 (omega arith),
      ← c.entry_of-in-200-to-249.ensures,
    )
    (wide-32 _ (record { sfits = search }))

pub returns-in_default : goal.returns-in_default
unfolding entry_field
returns-in_default c = rw (lt-ltb c.args.field 100 (omega arith))

pub returns-in_default-2 : goal.returns-in_default-2
unfolding entry_field
returns-in_default-2 c =
    let field = c.args.field in
    rw (le-ltb field 100 (omega arith), le-ltb field 150 (omega arith), lt-ltb field 200 (omega arith))

pub returns-in_default-3 : goal.returns-in_default-3
unfolding entry_field
returns-in_default-3 c =
    let field = c.args.field in
    rw (
      le-ltb field 100 (omega arith),
      le-ltb field 150 (omega arith),
      le-ltb field 200 (omega arith),
      le-ltb field 250 (omega arith),
    )
