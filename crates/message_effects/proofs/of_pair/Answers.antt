-- An unheld slot has no pair, a held one that of its originating authorisation.
use mathlib.Core.Path.{sym, ap, ◌∙◌}
use Rattle.meaning.specs.Authorisations.{Authorisation, is_pair}
use Rattle.setups.specs.Structs.{rows_of}
use Rattle.message_effects.proofs.PairRows.{pair-unheld, pair_held}
use Rattle.message_effects.proofs.of_pair.Goals as goal

pub returns-then-entry-eq0 : goal.returns-then-entry-eq0
returns-then-entry-eq0 c =
    let a = c.args in
    sym (pair-unheld (rows_of a.b.setup.authorisations a.b.setup.rows) a.account a.other a.entry c.if-entry-eq0.true)

pub returns : goal.returns
unfolding is_pair
returns c =
    let a = c.args in
    let rows = rows_of a.b.setup.authorisations a.b.setup.rows in
    sym (pair_held rows a.account a.other a.entry c.if-entry-eq0.false c.originator_of.ensures ∙ ap (λ (r : Authorisation). is_pair r a.account a.other) (sym c.row_of-row.ensures))
