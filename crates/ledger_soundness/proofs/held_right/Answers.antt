-- After k turns the flag says that the first k slots are right.
use mathlib.Core.Bool.{◌&&◌}
use mathlib.Core.Path.{◌≡◌, sym, ap₂, ◌∙◌}
use Prim.Native.Nat.{ℕ}
use native.Mathlib.Omega.{arith}
use lib.ListN.{length, get_or}
use Rattle.laws.proofs.Below.{every-none, every_more}
use Rattle.meaning.specs.Soundness.{slot_right}
use Rattle.ledger_soundness.specs.Parts.{below}
use Rattle.ledger_soundness.proofs.Slots.{held_below}
use Rattle.ledger_soundness.proofs.held_right.Goals as goal

pub loop-k-init : goal.loop-k-init
loop-k-init c = sym (every-none _)

pub loop-k-preserved : goal.loop-k-preserved
loop-k-preserved c =
    let a = c.args in
    let l = c.loop-k in
    let held = a.held.now in
    ap₂ ◌&&◌ l.invariant c.slot_right-ok.ensures ∙ sym (every_more l.k (λ (j : ℕ). slot_right (below a.known) held j (get_or held j 0)))

pub returns : goal.returns
returns c =
    let a = c.args in
    let l = c.loop-k in
    let e : l.k ≡ length a.held.now = omega arith in
    l.invariant ∙ rw e (sym (held_below (below a.known) a.held.now))
