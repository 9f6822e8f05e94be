-- The slot that holds it, and where none does the first unheld one.
use mathlib.Core.Path.{◌∙◌}
use native.Mathlib.Omega.{arith}
use Rattle.meaning.specs.Ledgers.{identifier_of}
use Rattle.ledger.proofs.SlotLaws.{slot-own, slot-new}
use Rattle.ledger.proofs.slots.slot_for.Goals as goal

pub returns-then-own-held : goal.returns-then-own-held
returns-then-own-held c =
    let a = c.args in
    c.slot_of-own.ensures ∙ slot-own a.held.now (identifier_of a.originator a.reference) (omega (arith, c.slot_of-own.ensures, c.if-own-held.true))

pub returns : goal.returns
returns c =
    let a = c.args in
    c.slot_with.ensures ∙ slot-new a.held.now (identifier_of a.originator a.reference) (omega (arith, c.slot_of-own.ensures, c.if-own-held.false))
