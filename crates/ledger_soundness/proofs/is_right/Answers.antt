-- The mark by its bits, and the range as the size.
use mathlib.Core.Bool.{Bool, ◌||◌}
use mathlib.Core.Path.{sym, ap}
use mir.Facts.{to_z-of_z}
use mir.Syntax.{w32}
use Rattle.words.specs.Tests.{sameℤ, within}
use Rattle.laws.proofs.Cases.{not-not}
use Rattle.laws.proofs.Machine.{eqb-least}
use Rattle.laws.proofs.Whole.{range-within}
use Rattle.meaning.specs.Ledgers.{the_mark}
use Rattle.ledger_soundness.specs.Parts.{right}
use Rattle.ledger_soundness.proofs.is_right.Goals as goal

pub returns : goal.returns
unfolding right
returns c = simp (eqb-least c.args.v c.ranges.v, to_z-of_z {w = w32} c.ranges.v, range-within 99999999 c.args.v)
    (ap (λ (b : Bool). b || within 99999999 c.args.v) (sym (not-not (sameℤ c.args.v the_mark))))
