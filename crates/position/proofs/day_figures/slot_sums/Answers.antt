-- After some turns the two locals hold the sums of the first periods' parts.
use mathlib.Core.Bool.{Bool, true, false}
use mathlib.Core.Path.{◌≡◌, sym, ap, ◌∙◌}
use Prim.Native.Nat.{◌+◌, ◌≤◌}
use native.Mathlib.Omega.{arith}
use lib.IntN.{ℤ, pos, nat_abs, ◌-ℤ◌}
use native.Mathlib.Nat.{le_trans}
use mir.Facts.{to_z-of_z}
use Rattle.std.specs.Int.{int_max}
use Rattle.meaning.specs.Totals.{above_zero}
use mir.Syntax.{w64}
use mir.Val.{to_z, of_z}
use Rattle.laws.proofs.Machine.{back}
use Rattle.position.proofs.Gathering.{gathered_none, gathered-more}
use Rattle.meaning.specs.Authorisations.{in_pair}
use Rattle.setups.specs.Structs.{row_of}
use Rattle.position.specs.Counting.{counted_at, part_of, slot_part}
use Rattle.position.proofs.FigureLaws.{foreign-parts, above-max, below-max, part_small, negated_fits}
use Rattle.position.proofs.day_figures.slot_sums.Goals as goal
use Rattle.position.proofs.day_figures.slot_sums.Goals.{After-max-bought}

pub loop-p-init : goal.loop-p-init
loop-p-init c = record { sold_so_far = gathered_none _ _; bought_so_far = gathered_none _ _ }

-- a turn: what the place counts is sold or bought
module _ (c : After-max-bought) where
  abbrev counts : ℤ
  counts =
      let a = c.args in
      counted_at (row_of a.origin) a.account a.side1.now a.side2.now (a.first + c.loop-p.p)

  kwh-is : to_z w64 (of_z w64 c.counted_at-kwh.result) ≡ counts
  kwh-is = back w64 c.counted_at-kwh.result c.counted_at-kwh.type_inv ∙ c.counted_at-kwh.ensures.0

  counts-small : nat_abs counts ≤ 2147483648
  counts-small = rw (← c.counted_at-kwh.ensures.0) c.counted_at-kwh.ensures.1

  sold-term : c.max-sold.result ≡ part_of false counts
  unfolding part_of
  sold-term = c.max-sold.ensures.value ∙ above-max _ ∙ ap above_zero kwh-is

  bought-term : c.max-bought.result ≡ part_of true counts
  unfolding part_of
  bought-term =
      c.max-bought.ensures.value
      ∙ ap (λ (z : ℤ). int_max (to_z w64 (of_z w64 (pos 0 -ℤ z))) (pos 0)) kwh-is
      ∙ ap (λ (z : ℤ). int_max z (pos 0)) (to_z-of_z {w = w64} (negated_fits counts counts-small))
      ∙ below-max counts

  part-small : (below : Bool) → nat_abs (part_of below counts) ≤ 2147483648
  part-small below = le_trans (part_small below counts) counts-small

pub loop-p-preserved : goal.loop-p-preserved
loop-p-preserved c =
    let l = c.loop-p.invariant in
    let at = (goal.at.loop-p-preserved c).After-max-bought in
    record {
      sold_so_far = gathered-more c.max-sold.result l.sold_so_far (sold-term at) (part-small at false) (omega arith);
      bought_so_far = gathered-more c.max-bought.result l.bought_so_far (bought-term at) (part-small at true) (omega arith);
    }

pub returns-after-loop-p : goal.returns-after-loop-p
unfolding slot_part
returns-after-loop-p c =
    let l = c.loop-p in
    let e : l.p ≡ c.args.periods = omega arith in
    let sold = l.invariant.sold_so_far in
    let bought = l.invariant.bought_so_far in
    record {
      sold-is = sold.is ∙ rw e;
      bought-is = bought.is ∙ rw e;
      sold-fits = rw sold.is (omega (arith, sold.bound));
      bought-fits = rw bought.is (omega (arith, bought.bound));
    }

pub returns-else-in_pair : goal.returns-else-in_pair
returns-else-in_pair c =
    let a = c.args in
    let foreign : in_pair (row_of a.origin) a.account ≡ false = sym c.in_pair.ensures ∙ c.if-in_pair.false in
    record {
      sold-is = foreign-parts (row_of a.origin) a.account a.side1.now a.side2.now a.first a.periods false foreign;
      bought-is = foreign-parts (row_of a.origin) a.account a.side1.now a.side2.now a.first a.periods true foreign;
      sold-fits = omega arith;
      bought-fits = omega arith;
    }
