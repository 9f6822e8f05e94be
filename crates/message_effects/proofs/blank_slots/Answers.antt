-- After s turns the places of the slots before s are what the nullification makes of them, and the others as they were.
use mathlib.Core.Path.{◌≡◌, refl, ap, ◌∙◌}
use native.Mathlib.Omega.{arith}
use lib.IntN.{pos}
use lib.ListN.{replicate}
use Rattle.words.specs.Lists.{map_at}
use Rattle.meaning.specs.Time.{Time}
use Rattle.meaning.specs.Messages.{Nullification}
use Rattle.setups.specs.Structs.{rows_of}
use Rattle.book.specs.Structs.{time_in}
use Rattle.message_effects.specs.Placing.{laid_volume}
use Rattle.message_effects.specs.Effects.{slot_rule}
use Rattle.book.proofs.StateLaws.{clock-time}
use Rattle.message_effects.proofs.EffectLaws.{pairs-none, pair-blanked, pair-other, pairs-all}
use Rattle.message_effects.proofs.blank_slots.Goals as goal
use Rattle.message_effects.proofs.blank_slots.Goals.{then-of_pair, else-of_pair}

pub loop-s-init : goal.loop-s-init
loop-s-init c =
    let a = c.args in
    (refl, λ σ. pairs-none (rows_of a.b.setup.authorisations a.b.setup.rows) (time_in a.b) (record { account = a.account; other = a.other; first = a.first }) a.held.now σ a.side.now)

pub loop-s-preserved : goal.loop-s-preserved
loop-s-preserved c =
    let a = c.args in
    let l = c.loop-s in
    let rows = rows_of a.b.setup.authorisations a.b.setup.rows in
    let t = time_in a.b in
    let x : Nullification = record { account = a.account; other = a.other; first = a.first } in
    let pair = c.of_pair in
    let zeros = laid_volume (replicate 150 (pos 0)) in
    elim c.if-of_pair.branch [
      | then-of_pair w ↦
          let blanked : w.write_days.new.side ≡ map_at (slot_rule t l.s a.first 0 zeros) l.side =
          w.write_days.ensures ∙ ap (λ (t' : Time). map_at (slot_rule t' l.s a.first 0 zeros) l.side) (clock-time a.b c.clock_of-c.ensures) in (
            c.if-of_pair.auto.side ∙ l.invariant.0,
            λ σ. w.side-is ∙ pair-blanked rows t x a.held.now σ a.side.now l.s zeros l.side w.write_days.new.side pair.result (l.invariant.1 σ) pair.ensures w.if-of_pair.true blanked,
          )
      | else-of_pair w ↦ (
        c.if-of_pair.auto.side ∙ l.invariant.0,
        λ σ. pair-other rows t x a.held.now σ a.side.now l.s l.side c.if-of_pair.side pair.result (l.invariant.1 σ) pair.ensures w.if-of_pair.false w.side-is,
      )
    ]

pub shape_of-side : goal.shape_of-side
shape_of-side c = c.loop-s.invariant.0

pub returns : goal.returns
returns c = λ σ.
    let a = c.args in
    let l = c.loop-s in
    pairs-all (rows_of a.b.setup.authorisations a.b.setup.rows) (time_in a.b) (record { account = a.account; other = a.other; first = a.first }) a.held.now σ a.side.now l.s l.side (l.invariant.1 σ) (omega arith)
