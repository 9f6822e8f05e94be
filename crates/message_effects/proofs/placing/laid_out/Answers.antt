-- Each row is stored over what the one before left, as `laid_out` has them.
use mathlib.Core.Path.{◌∙◌}
use Rattle.message_effects.specs.Placing.{laid_out}
use Rattle.message_effects.proofs.placing.laid_out.Goals as goal

pub returns : goal.returns
unfolding laid_out
returns c =
    c.lay_row-3.ensures ∙ rw (c.lay_row-2.ensures, c.lay_row.ensures)
