-- An answer that is not there reads as 0, as past the end of a list.
use Rattle.std.proofs.Common.{rules, eq-eqb, ne_eqb}
use Rattle.sheet_turns.specs.Turns.{last_in}
use Rattle.sheet_parts.proofs.turns.last_of.Goals as goal

pub returns-then-count-eq0 : goal.returns-then-count-eq0
unfolding last_in
returns-then-count-eq0 c = rw (eq-eqb c.args.count 0 c.if-count-eq0.true)

pub returns : goal.returns
unfolding last_in
returns c =
    let a = c.args in
    rw (ne_eqb a.count 0 c.if-count-eq0.false) (search rules)
