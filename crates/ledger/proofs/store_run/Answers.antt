-- After k turns the first k values are stored.
use borrow.Author.Rules.{sfits_of}
use mathlib.Core.Path.{refl, sym, ◌∙◌}
use Prim.Native.Nat.{◌+◌}
use native.Mathlib.Omega.{arith}
use lib.IntN.{pos}
use lib.ListN.{length, get_or, length-set}
use lib.Seq.{take_all}
use mir.Facts.{to_z-of_z}
use Rattle.laws.proofs.Cases.{by-lt}
use Rattle.laws.proofs.Stores.{sets_more, sets-inside}
use Rattle.ledger.proofs.store_run.Goals as goal

pub loop-k-init : goal.loop-k-init
loop-k-init c = (c.inside-n.ensures, refl, refl)

pub loop-k-preserved : goal.loop-k-preserved
loop-k-preserved c =
    let a = c.args in
    let l = c.loop-k in
    let values = a.values.now in
    let v = get_or values l.k (pos 0) in (
      l.invariant.0,
      rw (to_z-of_z (sfits_of c.v-1.given), l.invariant.1) (sym (sets_more a.side.now a.at values l.k (pos 0) (omega arith))),
      length-set l.side (a.at + l.k) _ ∙ l.invariant.2,
    )

pub returns : goal.returns
returns c =
    let a = c.args in
    let l = c.loop-k in
    let values = a.values.now in
    l.invariant.1
    ∙ by-lt l.k (length values)
    (λ h. sym (sets-inside a.side.now a.at values l.k (omega (arith, l.invariant.0))))
    (λ h. rw (take_all l.k values h))
