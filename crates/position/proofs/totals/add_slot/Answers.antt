-- After p turns the first p places have what the slot counts added.
use mathlib.Core.List.{List}
use mathlib.Core.Path.{◌≡◌, sym, ap, ap₂, ◌∙◌}
use Prim.Native.Nat.{ℕ, ◌+◌}
use native.Mathlib.Omega.{arith}
use lib.IntN.{ℤ, pos, ◌+ℤ◌}
use lib.ListN.{get_or}
use mir.Facts.{to_z-of_z}
use mir.Syntax.{w64}
use mir.Val.{SFits, to_z, of_z}
use Rattle.laws.proofs.Fronts.{front-past, front-none, front-more}
use Rattle.laws.proofs.Machine.{back, abs-fits}
use Rattle.setups.specs.Structs.{row_of}
use Rattle.position.specs.Counting.{counted_at}
use Rattle.position.proofs.DayLaws.{foreign_kept, added-fits}
use Rattle.position.proofs.totals.add_slot.Goals as goal
use Rattle.position.proofs.totals.add_slot.Goals.{After-counted_at}

pub returns-then-not-in_pair : goal.returns-then-not-in_pair
returns-then-not-in_pair c =
    let a = c.args in
    foreign_kept (row_of a.origin) a.account a.side1.now a.side2.now a.first a.periods a.out.now (sym c.in_pair.ensures ∙ c.if-not-in_pair.true)

pub loop-p-init : goal.loop-p-init
loop-p-init c = front-none _ c.args.out.now (pos 0)

-- a turn: the place still holds what came, and the slot's volume is added
module _ (c : After-counted_at) where
  abbrev adds : ℕ → ℤ → ℤ
  adds p old =
      let a = c.args in
      old +ℤ counted_at (row_of a.origin) a.account a.side1.now a.side2.now (a.first + p)

  abbrev came : ℤ
  came = get_or c.args.out.now c.loop-p.p (pos 0)

  kept : get_or c.loop-p.out c.loop-p.p (pos 0) ≡ came
  kept =
      ap (λ (l : List ℤ). get_or l c.loop-p.p (pos 0)) c.loop-p.invariant
      ∙ front-past c.loop-p.p adds c.args.out.now (pos 0) c.loop-p.p (omega arith) (omega arith)

  fits : SFits w64 (adds c.loop-p.p came)
  fits = added-fits came _ (c.requires.2 c.loop-p.p (omega arith)) (rw (← c.counted_at.ensures.0) c.counted_at.ensures.1)

  came-back : to_z w64 (of_z w64 came) ≡ came
  came-back = to_z-of_z {w = w64} (abs-fits (omega (arith, c.requires.2 c.loop-p.p (omega arith))))

  added : to_z w64 (of_z w64 (get_or c.loop-p.out c.loop-p.p (pos 0))) +ℤ to_z w64 (of_z w64 c.counted_at.result) ≡ adds c.loop-p.p came
  added =
      ap₂ (λ (y z : ℤ). y +ℤ z)
      (ap (λ (z : ℤ). to_z w64 (of_z w64 z)) kept ∙ came-back)
      (back w64 c.counted_at.result c.counted_at.type_inv ∙ c.counted_at.ensures.0)

pub overflow_add-out : goal.overflow_add-out
overflow_add-out c = let at = (goal.at.overflow_add-out c).After-counted_at in rw (added at) (fits at)

pub loop-p-preserved : goal.loop-p-preserved
loop-p-preserved c =
    let at = (goal.at.loop-p-preserved c).After-counted_at in
    front-more (adds at) c.args.out.now (pos 0) c.loop-p.p c.loop-p.out _ (omega arith) c.loop-p.invariant (rw (added at) (to_z-of_z {w = w64} (fits at)))
