-- More slots than a book has stay; few are blanked.
use mathlib.Core.Path.{sym, ◌∙◌}
use Rattle.message_effects.proofs.EffectLaws.{blanked-few, blanked-many}
use Rattle.message_effects.proofs.blank_pair.Goals as goal

pub returns-then-held-gt-MOST_SLOTS : goal.returns-then-held-gt-MOST_SLOTS
returns-then-held-gt-MOST_SLOTS c = λ σ.
    let a = c.args in
    sym (blanked-many a.b a.account a.other a.first a.held.now σ a.side.now c.if-held-gt-MOST_SLOTS.true)

pub blank_slots-requires : goal.blank_slots-requires
blank_slots-requires c = c.if-held-gt-MOST_SLOTS.false

pub returns : goal.returns
returns c = λ σ.
    let a = c.args in
    c.blank_slots.ensures σ ∙ sym (blanked-few a.b a.account a.other a.first a.held.now σ a.side.now c.if-held-gt-MOST_SLOTS.false)
