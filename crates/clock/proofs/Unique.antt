-- No two different results keep one promise of `clock`: each promise is one equation for the result.
use Rattle.laws.proofs.Cases.{one-outcome}
use Rattle.laws.proofs.Promises.{OneResult}
use Rattle.clock.proofs.periods_of.Reads as periods-of
use Rattle.clock.proofs.periods_at.Reads as periods-at
use Rattle.clock.proofs.gates_before.Reads as gates-before
use Rattle.clock.proofs.is_open_at.Reads as is-open-at
use Rattle.clock.proofs.is_period_at.Reads as is-period-at
use Rattle.clock.proofs.every_gate_closed.Reads as every-gate-closed
use Rattle.clock.proofs.current_day.Reads as current-day
use Rattle.clock.proofs.has_day.Reads as has-day

pub unique-periods-of : OneResult periods-of.Post
unique-periods-of κs a r r' s s' = one-outcome

pub unique-periods-at : OneResult periods-at.Post
unique-periods-at κs a r r' s s' = one-outcome

pub unique-gates-before : OneResult gates-before.Post
unique-gates-before κs a r r' s s' = one-outcome

pub unique-is-open-at : OneResult is-open-at.Post
unique-is-open-at κs a r r' s s' = one-outcome

pub unique-is-period-at : OneResult is-period-at.Post
unique-is-period-at κs a r r' s s' = one-outcome

pub unique-every-gate-closed : OneResult every-gate-closed.Post
unique-every-gate-closed κs a r r' s s' = one-outcome

pub unique-current-day : OneResult current-day.Post
unique-current-day κs a r r' s s' = one-outcome

pub unique-has-day : OneResult has-day.Post
unique-has-day κs a r r' s s' = one-outcome
