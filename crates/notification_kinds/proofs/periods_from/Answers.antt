-- The day by its number, against the first.
use mathlib.Core.List.{List}
use mathlib.Core.Path.{sym, ap, ◌∙◌}
use Prim.Native.Nat.{ℕ}
use native.Mathlib.Omega.{arith}
use Rattle.meaning.specs.Time.{Time, periods_at}
use Rattle.clock.specs.declared.Clock.{Clock}
use Rattle.book.specs.Structs.{time_in}
use Rattle.notification_kinds.proofs.KindLaws.{from-before, from_on}
use Rattle.book.proofs.StateLaws.{clock-time}
use Rattle.notification_kinds.proofs.periods_from.Goals as goal

pub returns-then-c-d : goal.returns-then-c-d
returns-then-c-d c =
    let a = c.args in
    let e = ap (λ (x : Clock). x.first) c.clock_of-c.ensures in
    sym (from-before (time_in a.b) a.first a.d (omega (arith, c.if-c-d.true, e)))

pub returns : goal.returns
returns c =
    let a = c.args in
    let e = ap (λ (x : Clock). x.first) c.clock_of-c.ensures in
    c.periods_at-periods.ensures
    ∙ ap (λ (codes : List ℕ). periods_at codes a.d) (ap (λ (t : Time). t.codes) (clock-time a.b c.clock_of-c.ensures))
    ∙ sym (from_on (time_in a.b) a.first a.d (omega (arith, c.if-c-d.false, e)))
