-- Each way out rewrites the tests with the branches that led there; the volume is widened before it is negated.
use Rattle.std.proofs.Common.{◌∙◌, w32, eq-eqb, ne_eqb}
use Rattle.laws.proofs.Machine.{wide, wide-neg}
use Rattle.meaning.specs.Totals.{seen_by}
use Rattle.figures.proofs.seen_by.Goals as goal

pub returns-then-account-row : goal.returns-then-account-row
unfolding seen_by
returns-then-account-row c =
    let a = c.args in
    wide w32 a.v tt c.ranges.v ∙ rw (eq-eqb a.account a.row.account1 c.if-account-row.true)

pub returns-then-account-row-2 : goal.returns-then-account-row-2
unfolding seen_by
returns-then-account-row-2 c =
    let a = c.args in
    wide-neg w32 a.v tt tt c.ranges.v
    ∙ rw (ne_eqb a.account a.row.account1 c.if-account-row.false, eq-eqb a.account a.row.account2 c.if-account-row-2.true)

pub returns : goal.returns
unfolding seen_by
returns c =
    let a = c.args in
    rw (ne_eqb a.account a.row.account1 c.if-account-row.false, ne_eqb a.account a.row.account2 c.if-account-row-2.false)
