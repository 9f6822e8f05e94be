-- Its tests are those of `laid_from`, in the same order.
use borrow.Author.Tests.{eq-eqb, ne_eqb}
use Rattle.message_effects.specs.Placing.{laid_from}
use Rattle.message_effects.proofs.placing.laid_from.Goals as goal

pub returns-then-periods-eq-SHORT_DAY : goal.returns-then-periods-eq-SHORT_DAY
unfolding laid_from
returns-then-periods-eq-SHORT_DAY c =
    rw (eq-eqb c.args.periods 46 c.if-periods-eq-SHORT_DAY.true)

pub returns-then-periods-eq-PLAIN_DAY : goal.returns-then-periods-eq-PLAIN_DAY
unfolding laid_from
returns-then-periods-eq-PLAIN_DAY c =
    let periods = c.args.periods in
    rw (ne_eqb periods 46 c.if-periods-eq-SHORT_DAY.false, eq-eqb periods 48 c.if-periods-eq-PLAIN_DAY.true)

pub returns : goal.returns
unfolding laid_from
returns c =
    let periods = c.args.periods in
    rw (ne_eqb periods 46 c.if-periods-eq-SHORT_DAY.false, ne_eqb periods 48 c.if-periods-eq-PLAIN_DAY.false)
