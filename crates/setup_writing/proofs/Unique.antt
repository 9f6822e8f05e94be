-- No two different outcomes keep one promise of writing: of `write_setup` the result and the buffer left.
use Rattle.limits.proofs.AnswerNumbers.{same-answer}
use Rattle.laws.proofs.Cases.{one-outcome}
use Rattle.laws.proofs.Promises.{OneOutcome, OneResult}
use Rattle.fields.proofs.Fronts.{written-tells}
use Rattle.setup_writing.proofs.writing_refusal.Reads as writing-refusal
use Rattle.setup_writing.proofs.write_setup.Reads as write-setup

pub unique-writing-refusal : OneResult writing-refusal.Post
unique-writing-refusal κs a r r' s s' p q = same-answer r r' (one-outcome p q)

pub unique-write-setup : OneResult write-setup.Post × OneOutcome write-setup.Post (λ κs r s. s.1.0.now)
unique-write-setup = (
  λ κs a r r' s s' p q. written-tells r r' (one-outcome p.0 q.0),
  λ κs a r r' s s' p q. one-outcome p.1 q.1,
)
