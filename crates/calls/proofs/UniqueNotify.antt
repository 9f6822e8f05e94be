-- No two different outcomes keep what a notification promises: its answer with kind and slot, and the three tables left.
use Rattle.laws.proofs.Cases.{one-outcome}
use Rattle.laws.proofs.Promises.{OneOutcome, OneResult}
use Rattle.calls.proofs.Seen.{same-notified}
use Rattle.calls.proofs.notifications.notification_answer.Reads as notification-answer
use Rattle.calls.proofs.notifications.notify.Reads as notify

pub unique-notification-answer : OneResult notification-answer.Post
unique-notification-answer κs a r r' s s' p q = same-notified r r' (one-outcome p q)

pub unique-notify : OneResult notify.Post
    × OneOutcome notify.Post (λ κs r s. s.1.1.0.now)
    × OneOutcome notify.Post (λ κs r s. s.1.1.1.0.now)
    × OneOutcome notify.Post (λ κs r s. s.1.1.1.1.0.now)
unique-notify = (
  λ κs a r r' s s' p q. same-notified r r' (one-outcome p.0 q.0),
  λ κs a r r' s s' p q. one-outcome p.1 q.1,
  λ κs a r r' s s' p q. one-outcome p.2 q.2,
  λ κs a r r' s s' p q. one-outcome p.3 q.3,
)
