-- No two different outcomes keep one promise: the result, and of `day_totals` what is lent.
use Rattle.limits.proofs.AnswerNumbers.{same-answer}
use Rattle.laws.proofs.Cases.{one-outcome}
use Rattle.laws.proofs.Promises.{OneOutcome, OneResult}
use Rattle.position.proofs.SameOutcomes.{same_total, same_figures}
use Rattle.position.proofs.totals.total.Reads as total
use Rattle.position.proofs.totals.day_totals.Reads as day-totals
use Rattle.position.proofs.day_figures.figures.Reads as figures

pub unique-total : OneResult total.Post
unique-total κs a r r' s s' p q = same_total r r' (one-outcome p q)

pub unique-day-totals : OneResult day-totals.Post × OneOutcome day-totals.Post (λ κs r s. s.1.1.1.0.now)
unique-day-totals = (
  λ κs a r r' s s' p q. same-answer r r' (one-outcome p.0 q.0),
  λ κs a r r' s s' p q. one-outcome p.1 q.1,
)

pub unique-figures : OneResult figures.Post
unique-figures κs a r r' s s' p q = same_figures r r' (one-outcome p q)
