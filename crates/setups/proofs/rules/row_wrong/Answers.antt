-- The tests one by one; the type by its refusal.
use mathlib.Core.Path.{◌≡◌, ◌∙◌}
use Rattle.words.specs.Tests.{◌<?◌}
use Rattle.limits.specs.declared.refusals.Refusal.TheVariants.{RowWrong}
use Rattle.meaning.specs.Authorisations.{row_wrong}
use Rattle.setups.proofs.SetupHeld.{fourth-refused}
use Rattle.setups.proofs.rules.row_wrong.Goals as goal

pub returns : goal.returns
unfolding row_wrong
returns c =
    let n = c.args.a.amendment in
    let e : c.is_err.result ≡ 2 <? n = c.is_err.ensures.value ∙ fourth-refused n RowWrong c.amendment_refusal.result c.amendment_refusal.ensures in
    rw e
