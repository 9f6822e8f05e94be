-- No two different outcomes keep what a packed message or a run of them promises: the result, the three tables, the answers and the places left.
use Rattle.laws.proofs.Cases.{one-outcome}
use Rattle.laws.proofs.Promises.{OneOutcome, OneResult}
use Rattle.calls.proofs.Seen.{same-applied, same-ran}
use Rattle.calls.proofs.packed.apply.Reads as apply
use Rattle.calls.proofs.packed.apply_all.Reads as apply-all

pub unique-apply : OneResult apply.Post
    × OneOutcome apply.Post (λ κs r s. s.1.1.0.now)
    × OneOutcome apply.Post (λ κs r s. s.1.1.1.0.now)
    × OneOutcome apply.Post (λ κs r s. s.1.1.1.1.0.now)
unique-apply = (
  λ κs a r r' s s' p q. same-applied a.0 r r' (one-outcome p.0 q.0),
  λ κs a r r' s s' p q. one-outcome p.1 q.1,
  λ κs a r r' s s' p q. one-outcome p.2 q.2,
  λ κs a r r' s s' p q. one-outcome p.3 q.3,
)

pub unique-apply-all : OneResult apply-all.Post
    × OneOutcome apply-all.Post (λ κs r s. s.1.1.0.now)
    × OneOutcome apply-all.Post (λ κs r s. s.1.1.1.0.now)
    × OneOutcome apply-all.Post (λ κs r s. s.1.1.1.1.0.now)
    × OneOutcome apply-all.Post (λ κs r s. s.1.1.1.1.1.0.now)
    × OneOutcome apply-all.Post (λ κs r s. s.1.1.1.1.1.1.0.now)
unique-apply-all = (
  λ κs a r r' s s' p q. same-ran a.0 r r' (one-outcome p.0 q.0),
  λ κs a r r' s s' p q. one-outcome p.1 q.1,
  λ κs a r r' s s' p q. one-outcome p.2 q.2,
  λ κs a r r' s s' p q. one-outcome p.3 q.3,
  λ κs a r r' s s' p q. one-outcome p.4 q.4,
  λ κs a r r' s s' p q. one-outcome p.5 q.5,
)
