-- The lines of the totals so far stand in the buffer.
use Rattle.std.proofs.Common.{◌≡◌, ◌+◌, length, get_or, pos, refl, rules, ap, ◌∙◌, add-one, arith, to_z-of_z, w64, to_z, of_z}
use Rattle.sheet_lines.specs.Places.{all_placed, place_after_all}
use Rattle.meaning.specs.Sheet.{period_lines}
use Rattle.sheet_parts.specs.Parts.{kwh_lines}
use Rattle.sheet_parts.proofs.LineLaws.{stands-none, stands-more}
use Rattle.sheet_parts.proofs.totals.put_totals.Invariants.{lines_for}
use Rattle.sheet_parts.proofs.totals.put_totals.Goals as goal

pub loop-p-init : goal.loop-p-init
loop-p-init c = stands-none _ _

pub loop-p-preserved : goal.loop-p-preserved
loop-p-preserved c =
    let w = c.put_total-place in
    let l = c.loop-p in
    let a = c.args in
    let kwh = a.kwh.now in
    let one : period_lines a.account a.day (l.p + 1) (to_z w64 (of_z w64 (get_or kwh l.p (pos 0)))) ≡ lines_for a.account a.day kwh l.p =
    rw (add-one l.p, to_z-of_z {w = w64} {z = get_or kwh l.p (pos 0)} (record { sfits = search rules })) refl in
    stands-more _ w.result l.invariant (w.ensures.0 ∙ ap (all_placed l.out l.place) one) (w.ensures.1 ∙ ap (place_after_all (length l.out) l.place) one)

pub returns : goal.returns
unfolding kwh_lines
returns c =
    let l = c.loop-p in
    let a = c.args in
    let e : l.p ≡ length a.kwh.now = omega arith in
    (rw e at l.invariant.buffer, rw e at l.invariant.next)
