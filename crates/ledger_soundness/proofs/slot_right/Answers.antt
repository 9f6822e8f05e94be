-- An unheld slot is right; of a held one the originator and the slots before are tested.
use mathlib.Core.Path.{refl, sym, ◌∙◌}
use lib.ListN.{get_or}
use Rattle.ledger_soundness.specs.Parts.{below}
use Rattle.ledger_soundness.proofs.Slots.{slot-unheld, slot_held, found_here, part-before}
use Rattle.ledger_soundness.proofs.slot_right.Goals as goal

pub returns-then-entry-eq0 : goal.returns-then-entry-eq0
returns-then-entry-eq0 c =
    let a = c.args in
    let held = a.held.now in
    sym (slot-unheld (below a.known) held a.k (get_or held a.k 0) c.if-entry-eq0.true)

pub returns : goal.returns
returns c =
    let a = c.args in
    let held = a.held.now in
    let entry = get_or held a.k 0 in
    let inside = c.requires in
    let before = c.none_holds.ensures ∙ part-before held a.k entry inside ∙ sym (found_here held a.k entry inside refl) in
    rw before (sym (slot_held a.known held a.k entry c.if-entry-eq0.false c.originator_of-originator.ensures))
