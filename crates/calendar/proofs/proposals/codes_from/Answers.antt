-- The loop fills the eight places: with the code where there is a day, and with nothing past the days.
use Rattle.std.proofs.Common.{ℕ, ◌∙◌, arith, lt-ltb, le-ltb}
use Rattle.std.proofs.lemmas.List.{set-get_or}
use Rattle.laws.proofs.Builds.{filled_none, filled_more, filled-kept, filled-all}
use Rattle.calendar.specs.Answers.{codes_from}
use Rattle.calendar.proofs.proposals.codes_from.Invariants.{code_at}
use Rattle.calendar.proofs.proposals.codes_from.Goals as goal
use Rattle.calendar.proofs.proposals.codes_from.Goals.{then-d-days, else-d-days}

pub loop-d-init : goal.loop-d-init
loop-d-init c = filled_none 8 (code_at c.args.first c.args.days) 0

pub loop-d-preserved : goal.loop-d-preserved
loop-d-preserved c =
    let l = c.loop-d in
    let a = c.args in
    let f : ℕ → ℕ = code_at a.first a.days in
    elim c.if-d-days.branch [
      | then-d-days w ↦
          w.code-items-is ∙ rw (l.invariant, w.code_on.ensures) (rw (lt-ltb l.d a.days w.if-d-days.true) at (filled_more 8 f 0 l.d (omega arith)))
      | else-d-days w ↦
          w.code-items-is ∙ set-get_or l.code-items l.d 0 ∙ l.invariant ∙ filled-kept 8 f 0 l.d (rw (le-ltb l.d a.days w.if-d-days.false))
    ]

pub returns : goal.returns
unfolding codes_from
returns c =
    let l = c.loop-d in
    l.invariant ∙ filled-all 8 (code_at c.args.first c.args.days) 0 l.d (omega arith)
