-- The loop fills the places of the rows: each has its row, and those past them are still all zero.
use borrow.Author.Tests.{lt-ltb, le-ltb}
use mathlib.Core.Path.{◌≡◌, ap, ◌∙◌}
use Prim.Native.Nat.{ℕ, min}
use native.Mathlib.Omega.{arith}
use Rattle.laws.proofs.Builds.{filled, filled_none, filled_more}
use Rattle.laws.proofs.FilledFront.{filled-front}
use Rattle.setups.specs.declared.Authorisation.{Authorisation}
use Rattle.setups.specs.Structs.{no_authorisation}
use Rattle.setup_reading.specs.Parts.{rows_in}
use Rattle.setup_reading.proofs.rows_in.Invariants.{row_or_none}
use Rattle.setup_reading.proofs.rows_in.Goals as goal

pub loop-k-init : goal.loop-k-init
loop-k-init c =
    let a = c.args in
    filled_none 64 (row_or_none a.bytes.now a.days a.count) no_authorisation

pub loop-k-preserved : goal.loop-k-preserved
loop-k-preserved c =
    let a = c.args in
    let l = c.loop-k in
    let f : ℕ → Authorisation = row_or_none a.bytes.now a.days a.count in
    let v : c.row_in.result ≡ f l.k = c.row_in.ensures ∙ rw (lt-ltb l.k a.count (omega arith)) in
    rw (l.invariant, v) (filled_more 64 f no_authorisation l.k (omega arith))

pub returns : goal.returns
unfolding rows_in
returns c =
    let a = c.args in
    let l = c.loop-k in
    let f : ℕ → Authorisation = row_or_none a.bytes.now a.days a.count in
    let e : l.k ≡ min a.count 64 = omega arith in
    l.invariant ∙ ap (filled 64 f no_authorisation) e ∙ filled-front 64 f no_authorisation a.count (λ k h. rw (le-ltb k a.count h))
