-- The field of four bits is below 16, so nothing overflows.
use Rattle.std.proofs.Common.{◌≡◌, ℕ, ◌*◌, ap, arith}
use Rattle.words.specs.Fields.{field_at}
use Rattle.laws.proofs.Fields.{field_lt}
use Rattle.meaning.specs.Sheet.{lent_for}
use Rattle.sheet_parts.proofs.beginning.lent_for.Goals as goal
use Rattle.sheet_parts.proofs.beginning.lent_for.Goals.{After-read_field}

module _ (c : After-read_field) where
  days : c.read_field.result ≡ field_at c.args.bytes.now 16 4
  days = c.read_field.ensures

pub overflow_mul-result : goal.overflow_mul-result
overflow_mul-result c = omega (arith, days (goal.at.overflow_mul-result c).After-read_field, field_lt c.args.bytes.now 16 4)

pub overflow_mul-result-2 : goal.overflow_mul-result-2
overflow_mul-result-2 c = omega (arith, days (goal.at.overflow_mul-result-2 c).After-read_field, field_lt c.args.bytes.now 16 4)

pub returns : goal.returns
unfolding lent_for
returns c = (ap (λ (n : ℕ). 16 * n * 50) (days (goal.at.returns c).After-read_field), omega (arith, days (goal.at.returns c).After-read_field, field_lt c.args.bytes.now 16 4))
