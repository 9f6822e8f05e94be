-- Every gate is closed, or the next one's number fits.
use mathlib.Core.Path.{◌≡◌, sym, ap, ◌∙◌}
use native.Mathlib.Omega.{arith}
use Rattle.meaning.specs.Time.{every_gate_closed}
use Rattle.calls.specs.Answers.{one_closed, gated}
use Rattle.book.specs.Structs.{time_in}
use Rattle.book.proofs.StateLaws.{clock-time, days-few}
use Rattle.calls.proofs.GateLaws.{next-late, next-open, few-gates}
use Rattle.calls.proofs.gates.close_next.Goals as goal
use Rattle.calls.proofs.gates.close_next.Goals.{After-every_gate_closed}

every-closed : (c : After-every_gate_closed) → c.every_gate_closed.result ≡ every_gate_closed (time_in c.args.b)
every-closed c = c.every_gate_closed.ensures ∙ ap every_gate_closed (clock-time c.args.b c.clock_of-c.ensures)

pub returns-then-every_gate_closed : goal.returns-then-every_gate_closed
unfolding gated
returns-then-every_gate_closed c =
    let b = c.args.b in
    ap (gated b) (sym (next-late b (sym (every-closed (goal.at.returns-then-every_gate_closed c).After-every_gate_closed) ∙ c.if-every_gate_closed.true)))

pub overflow_add-result : goal.overflow_add-result
overflow_add-result c =
    let few = few-gates c.args.b (days-few c.args.b c.well_formed.0) (sym (every-closed (goal.at.overflow_add-result c).After-every_gate_closed) ∙ c.if-every_gate_closed.false) in
    omega arith

pub returns : goal.returns
unfolding gated one_closed
returns c =
    let b = c.args.b in
    ap (gated b) (sym (next-open b (sym (every-closed (goal.at.returns c).After-every_gate_closed) ∙ c.if-every_gate_closed.false)))
