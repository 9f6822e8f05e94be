-- No two different outcomes keep what a nullification promises: its answer, and both tables left.
use Rattle.laws.proofs.Cases.{one-outcome}
use Rattle.laws.proofs.Promises.{OneOutcome, OneResult}
use Rattle.limits.proofs.AnswerNumbers.{same-answer}
use Rattle.calls.proofs.nullifications.nullification_refusal.Reads as nullification-refusal
use Rattle.calls.proofs.nullifications.nullify.Reads as nullify

pub unique-nullification-refusal : OneResult nullification-refusal.Post
unique-nullification-refusal κs a r r' s s' p q = same-answer r r' (one-outcome p q)

pub unique-nullify : OneResult nullify.Post
    × OneOutcome nullify.Post (λ κs r s. s.1.1.1.0.now)
    × OneOutcome nullify.Post (λ κs r s. s.1.1.1.1.0.now)
unique-nullify = (
  λ κs a r r' s s' p q. same-answer r r' (one-outcome p.0 q.0),
  λ κs a r r' s s' p q. one-outcome p.1 q.1,
  λ κs a r r' s s' p q. one-outcome p.2 q.2,
)
