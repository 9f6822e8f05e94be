-- The tests are those of meaning's `bar_of`, in its order.
use mathlib.Core.Bool.{Bool, true, false, ◌&&◌}
use mathlib.Core.Path.{◌≡◌, sym, ap, ap₂, ◌∙◌}
use lib.Ieee.{Float}
use lib.IntN.{ℤ}
use mir.Facts.{to_z-of_z}
use mir.Syntax.{w32}
use mir.Val.{to_z, of_z}
use Rattle.meaning.specs.Ledgers.{contracts, stands}
use Rattle.meaning.specs.Totals.{matches, seen_by, mwh}
use Rattle.setups.specs.Structs.{row_of}
use Rattle.bar.specs.declared.Bar.TheVariants.{OneSide, Agreed, Disagreed}
use Rattle.bar.proofs.BarLaws.{seen-agreed, seen-disagreed, seen-first-alone, seen-second-alone, seen-blank}
use Rattle.bar.proofs.bar_of.Goals as goal
use Rattle.bar.proofs.bar_of.Goals.{After-is_matched, Start}

module _ (s : Start) where
  -- a figure, of an argument read back from its bits
  abbrev shown : ℤ → Float
  shown z = mwh (seen_by (row_of s.args.row) s.args.account z)

  shown1 : shown (to_z w32 (of_z w32 s.args.v)) ≡ shown s.args.v
  shown1 = ap shown (to_z-of_z s.ranges.v)

  shown2 : shown (to_z w32 (of_z w32 s.args.w)) ≡ shown s.args.w
  shown2 = ap shown (to_z-of_z s.ranges.w)

  -- and the two tests
  one : (t : Bool) → t ≡ stands contracts (to_z w32 (of_z w32 s.args.v)) → stands contracts s.args.v ≡ t
  one t e = sym (e ∙ ap (stands contracts) (to_z-of_z s.ranges.v))

  two : (t : Bool) → t ≡ stands contracts (to_z w32 (of_z w32 s.args.w)) → stands contracts s.args.w ≡ t
  two t e = sym (e ∙ ap (stands contracts) (to_z-of_z s.ranges.w))

same : (p : After-is_matched) → p.is_matched.result ≡ matches p.args.v p.args.w
same p = p.is_matched.ensures ∙ ap₂ matches (to_z-of_z p.ranges.v) (to_z-of_z p.ranges.w)

pub returns-then-is_matched : goal.returns-then-is_matched
returns-then-is_matched c =
    let a = c.args in
    let at = goal.at.returns-then-is_matched c in
    ap Agreed (c.figure.ensures ∙ shown1 at.Start) ∙ sym (seen-agreed (row_of a.row) a.account a.v a.w (sym (same at.After-is_matched) ∙ c.if-is_matched.true))

pub returns-in-true-true : goal.returns-in-true-true
returns-in-true-true c =
    let a = c.args in
    let at = goal.at.returns-in-true-true c in
    let arm = c.in-true-true in
    let both : stands contracts a.v && stands contracts a.w ≡ true = ap₂ ◌&&◌ (one at.Start true arm.ensures) (two at.Start true arm.ensures') in
    ap₂ Disagreed (c.figure-in-true-true.ensures ∙ shown1 at.Start) (c.figure-in-true-true-2.ensures ∙ shown2 at.Start)
    ∙ sym (seen-disagreed (row_of a.row) a.account a.v a.w (sym (same at.After-is_matched) ∙ c.if-is_matched.false) both)

pub returns-in-true-false : goal.returns-in-true-false
returns-in-true-false c =
    let a = c.args in
    let start = (goal.at.returns-in-true-false c).Start in
    let arm = c.in-true-false in
    ap OneSide (c.figure-in-true-false.ensures ∙ shown1 start)
    ∙ sym (seen-first-alone (row_of a.row) a.account a.v a.w (one start true arm.ensures) (two start false arm.ensures'))

pub returns-in-false-true : goal.returns-in-false-true
returns-in-false-true c =
    let a = c.args in
    let start = (goal.at.returns-in-false-true c).Start in
    let arm = c.in-false-true in
    ap OneSide (c.figure-in-false-true.ensures ∙ shown2 start)
    ∙ sym (seen-second-alone (row_of a.row) a.account a.v a.w (one start false arm.ensures) (two start true arm.ensures'))

pub returns-in-false-false : goal.returns-in-false-false
returns-in-false-false c =
    let a = c.args in
    let start = (goal.at.returns-in-false-false c).Start in
    let arm = c.in-false-false in
    sym (seen-blank (row_of a.row) a.account a.v a.w (one start false arm.ensures) (two start false arm.ensures'))
