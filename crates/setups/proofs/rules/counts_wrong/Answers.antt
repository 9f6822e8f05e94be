-- The struct's counts are the lengths of what is its own.
use Rattle.laws.proofs.Ranges.{contained}
use mathlib.Core.Path.{◌∙◌}
use Rattle.meaning.specs.Books.{counts_wrong}
use Rattle.setups.specs.Structs.{setup_of}
use Rattle.setups.proofs.SetupHeld.{codes-own, rows-own}
use Rattle.setups.proofs.rules.counts_wrong.Goals as goal

pub returns : goal.returns
unfolding counts_wrong setup_of
returns c =
    let s = c.args.s in
    let d = c.new.ensures in
    let a = c.new-2.ensures in
    let r = c.new-3.ensures in
    rw (
      codes-own,
      rows-own,
      c.contains-days.ensures.value ∙ contained c.new.result _ _ s.days d.start d.end d.exhausted,
      c.contains-accounts.ensures.value ∙ contained c.new-2.result _ _ s.accounts a.start a.end a.exhausted,
      c.contains-rows.ensures.value ∙ contained c.new-3.result _ _ s.authorisations r.start r.end r.exhausted,
    )
