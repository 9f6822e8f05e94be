-- The loop fills the places of the days: each has its code, and those past them are still zero.
use borrow.Author.Tests.{lt-ltb, le-ltb}
use mathlib.Core.Path.{◌≡◌, ap, ◌∙◌}
use Prim.Native.Nat.{ℕ, ◌+◌, ◌*◌, min}
use native.Mathlib.Omega.{arith}
use Rattle.laws.proofs.Builds.{filled, filled_none, filled_more}
use Rattle.laws.proofs.FilledFront.{filled-front}
use Rattle.laws.proofs.Fields.{field_lt}
use Rattle.setup_reading.specs.Parts.{codes_in}
use Rattle.setup_reading.proofs.codes_in.Invariants.{code_in}
use Rattle.setup_reading.proofs.codes_in.Goals as goal

pub loop-d-init : goal.loop-d-init
loop-d-init c = filled_none 8 (code_in c.args.bytes.now c.args.days) 0

pub overflow_cast-codes : goal.overflow_cast-codes
overflow_cast-codes c =
    omega (arith, c.read_field.ensures, field_lt c.args.bytes.now (34 + 2 * c.loop-d.d) 2)

pub loop-d-preserved : goal.loop-d-preserved
loop-d-preserved c =
    let a = c.args in
    let l = c.loop-d in
    let f : ℕ → ℕ = code_in a.bytes.now a.days in
    let v : c.read_field.result ≡ f l.d = c.read_field.ensures ∙ rw (lt-ltb l.d a.days (omega arith)) in
    rw (l.invariant, v) (filled_more 8 f 0 l.d (omega arith))

pub returns : goal.returns
unfolding codes_in
returns c =
    let a = c.args in
    let l = c.loop-d in
    let f : ℕ → ℕ = code_in a.bytes.now a.days in
    let e : l.d ≡ min a.days 8 = omega arith in
    l.invariant ∙ ap (filled 8 f 0) e ∙ filled-front 8 f 0 a.days (λ k h. rw (le-ltb k a.days h))
