-- After d turns the flag says that the first d days of the slot are right.
use mathlib.Core.Bool.{◌&&◌}
use mathlib.Core.Path.{◌≡◌, sym, ap, ap₂, ◌∙◌}
use Prim.Native.Nat.{ℕ}
use native.Mathlib.Omega.{arith}
use Rattle.words.specs.Below.{every_below}
use Rattle.laws.proofs.Below.{every-none, every_more}
use Rattle.meaning.specs.Time.{periods_at}
use Rattle.meaning.specs.Ledgers.{index}
use Rattle.clock.specs.Structs.{time_of}
use Rattle.clock.proofs.Codes.{periods-inside}
use Rattle.ledger_soundness.specs.Parts.{row_right, days_right}
use Rattle.ledger_soundness.proofs.Tables.{day-length}
use Rattle.ledger_soundness.proofs.days_right.Goals as goal

pub loop-d-init : goal.loop-d-init
loop-d-init c = sym (every-none _)

pub row_right-ok-requires : goal.row_right-ok-requires
unfolding index
row_right-ok-requires c =
    let a = c.args in
    let e = c.periods_of-periods.ensures ∙ sym (periods-inside a.c c.loop-d.d c.loop-d-test.true) in
    (rw e (day-length (time_of a.c).codes c.loop-d.d), omega (arith, c.place_of-base.ensures))

pub loop-d-preserved : goal.loop-d-preserved
loop-d-preserved c =
    let a = c.args in
    let l = c.loop-d in
    let e = c.periods_of-periods.ensures ∙ sym (periods-inside a.c l.d c.loop-d-test.true) in
    ap₂ ◌&&◌ l.invariant (c.row_right-ok.ensures ∙ rw (e, c.place_of-base.ensures))
    ∙ sym (every_more l.d (λ (k : ℕ). row_right a.side.now (index a.c.days a.slot k 1) (periods_at (time_of a.c).codes k) a.held))

pub returns : goal.returns
unfolding days_right
returns c =
    let a = c.args in
    let l = c.loop-d in
    let e : l.d ≡ a.c.days = omega arith in
    l.invariant ∙ ap (λ (n : ℕ). every_below n (λ (k : ℕ). row_right a.side.now (index a.c.days a.slot k 1) (periods_at (time_of a.c).codes k) a.held)) e
