-- The gates closed less those of the days before; none where the day is to come.
use mathlib.Core.List.{List}
use mathlib.Core.Path.{ap, ap₂, ◌∙◌}
use Prim.Native.Nat.{ℕ, ◌-◌}
use Rattle.meaning.specs.Time.{Time, gates_before}
use Rattle.clock.specs.declared.Clock.{Clock}
use Rattle.book.proofs.StateLaws.{clock-time}
use Rattle.notification_kinds.proofs.first_open.Goals as goal

pub returns : goal.returns
returns c =
    let a = c.args in
    c.saturating_sub.ensures
    ∙ ap₂ ◌-◌ (ap (λ (x : Clock). x.closed) c.clock_of-c.ensures)
    (c.gates_before.ensures ∙ ap (λ (codes : List ℕ). gates_before codes a.d) (ap (λ (t : Time). t.codes) (clock-time a.b c.clock_of-c.ensures)))
