-- Its tests are those of `periods_kept`, in the same order.
use borrow.Author.Rules.{rules}
use borrow.Author.Tests.{eq-eqb, ne_eqb}
use Rattle.message_effects.specs.Placing.{periods_kept}
use Rattle.message_effects.proofs.placing.periods_kept.Goals as goal

pub returns-then-single : goal.returns-then-single
unfolding periods_kept
returns-then-single c = search rules

pub returns-then-periods-eq-SHORT_DAY : goal.returns-then-periods-eq-SHORT_DAY
unfolding periods_kept
returns-then-periods-eq-SHORT_DAY c =
    rw (c.if-single.false, eq-eqb c.args.periods 46 c.if-periods-eq-SHORT_DAY.true)

pub returns-then-periods-eq-LONG_DAY : goal.returns-then-periods-eq-LONG_DAY
unfolding periods_kept
returns-then-periods-eq-LONG_DAY c =
    let periods = c.args.periods in
    rw (c.if-single.false, ne_eqb periods 46 c.if-periods-eq-SHORT_DAY.false, eq-eqb periods 50 c.if-periods-eq-LONG_DAY.true)

pub returns : goal.returns
unfolding periods_kept
returns c =
    let periods = c.args.periods in
    rw (c.if-single.false, ne_eqb periods 46 c.if-periods-eq-SHORT_DAY.false, ne_eqb periods 50 c.if-periods-eq-LONG_DAY.false)
