-- After p turns the first p places of each buffer are written.
use borrow.Author.Rules.{sfits_of}
use mathlib.Core.Path.{◌≡◌, ap, ap₂, ◌∙◌}
use Prim.Native.Nat.{ℕ}
use native.Mathlib.Omega.{arith}
use lib.Ieee.{Float}
use mir.Facts.{to_z-of_z}
use mir.Syntax.{w32}
use Rattle.laws.proofs.Fronts.{front-none, front-more}
use Rattle.setups.specs.Structs.{row_of}
use Rattle.bar.specs.Figures.{case_of, first_of, second_of, no_figure, bar_seen}
use Rattle.marks.specs.Marks.{bar_from}
use Rattle.bar.specs.declared.Bar.{Bar}
use Rattle.marks.proofs.periods.write_marks.Goals as goal
use Rattle.marks.proofs.periods.write_marks.Goals.{After-bar_of-bar, Start}

-- the marks to write
abbrev bars : Start → ℕ → Bar
bars s = bar_from (row_of s.args.row) s.args.account s.args.side1.now s.args.side2.now s.args.start

-- the turn's bar is its place's
here : (c : After-bar_of-bar) → c.bar_of-bar.result ≡ bars (goal.at.After-bar_of-bar c).Start c.loop-p.p
unfolding bar_from
here c =
    let a = c.args in
    c.bar_of-bar.ensures
    ∙ ap₂ (bar_seen (row_of a.row) a.account)
    (to_z-of_z {w = w32} (sfits_of c.volume_at-v.type_inv) ∙ c.volume_at-v.ensures)
    (to_z-of_z {w = w32} (sfits_of c.volume_at-w.type_inv) ∙ c.volume_at-w.ensures)

pub loop-p-init : goal.loop-p-init
loop-p-init c =
    let a = c.args in
    let bar = bars (goal.at.loop-p-init c).Start in
    record {
      cases_so_far = front-none (λ (k : ℕ) (old : ℕ). case_of (bar k)) a.cases.now 0;
      firsts_so_far = front-none (λ (k : ℕ) (old : Float). first_of (bar k)) a.firsts.now no_figure;
      seconds_so_far = front-none (λ (k : ℕ) (old : Float). second_of (bar k)) a.seconds.now no_figure;
    }

pub loop-p-preserved : goal.loop-p-preserved
loop-p-preserved c =
    let l = c.loop-p in
    let a = c.args in
    let at = goal.at.loop-p-preserved c in
    let bar = bars at.Start in
    let is = here at.After-bar_of-bar in
    record {
      cases_so_far = front-more (λ (j : ℕ) (old : ℕ). case_of (bar j)) a.cases.now 0 l.p l.cases c.case_of.result (omega arith) l.invariant.cases_so_far (c.case_of.ensures ∙ ap case_of is);
      firsts_so_far = front-more (λ (j : ℕ) (old : Float). first_of (bar j)) a.firsts.now no_figure l.p l.firsts c.first_of.result (omega arith) l.invariant.firsts_so_far (c.first_of.ensures ∙ ap first_of is);
      seconds_so_far = front-more (λ (j : ℕ) (old : Float). second_of (bar j)) a.seconds.now no_figure l.p l.seconds c.second_of.result (omega arith) l.invariant.seconds_so_far (c.second_of.ensures ∙ ap second_of is);
    }
