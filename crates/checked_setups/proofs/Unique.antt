-- No two different outcomes keep one promise of checked setups: the result, and of opening each table left.
use Rattle.laws.proofs.Cases.{one-outcome}
use Rattle.laws.proofs.Promises.{OneOutcome, OneResult}
use Rattle.limits.proofs.AnswerNumbers.{same-answer}
use Rattle.setup_reading.proofs.Outcomes.{setup-read-tells}
use Rattle.book.proofs.OpeningLaws.{same-opened, same-opened-packed}
use Rattle.checked_setups.proofs.opening.checked_opening_refusal.Reads as checked-opening-refusal
use Rattle.checked_setups.proofs.opening.open_checked.Reads as open-checked
use Rattle.checked_setups.proofs.reading.checked_reading_refusal.Reads as checked-reading-refusal
use Rattle.checked_setups.proofs.reading.read_setup_checked.Reads as read-setup-checked
use Rattle.checked_setups.proofs.reading.open_packed_checked.Reads as open-packed-checked

pub unique-checked-opening-refusal : OneResult checked-opening-refusal.Post
unique-checked-opening-refusal κs a r r' s s' p q = same-answer r r' (one-outcome p q)

pub unique-checked-reading-refusal : OneResult checked-reading-refusal.Post
unique-checked-reading-refusal κs a r r' s s' p q = same-answer r r' (one-outcome p q)

pub unique-read-setup-checked : OneResult read-setup-checked.Post
unique-read-setup-checked κs a r r' s s' p q = setup-read-tells r r' (one-outcome p q)

pub unique-open-checked : OneResult open-checked.Post
    × OneOutcome open-checked.Post (λ κs r s. s.1.0.now)
    × OneOutcome open-checked.Post (λ κs r s. s.1.1.0.now)
    × OneOutcome open-checked.Post (λ κs r s. s.1.1.1.0.now)
unique-open-checked = (
  λ κs a r r' s s' p q. same-opened r r' (one-outcome p.0 q.0),
  λ κs a r r' s s' p q. one-outcome p.1 q.1,
  λ κs a r r' s s' p q. one-outcome p.2 q.2,
  λ κs a r r' s s' p q. one-outcome p.3 q.3,
)

pub unique-open-packed-checked : OneResult open-packed-checked.Post
    × OneOutcome open-packed-checked.Post (λ κs r s. s.1.0.now)
    × OneOutcome open-packed-checked.Post (λ κs r s. s.1.1.0.now)
    × OneOutcome open-packed-checked.Post (λ κs r s. s.1.1.1.0.now)
unique-open-packed-checked = (
  λ κs a r r' s s' p q. same-opened-packed r r' (one-outcome p.0 q.0),
  λ κs a r r' s s' p q. one-outcome p.1 q.1,
  λ κs a r r' s s' p q. one-outcome p.2 q.2,
  λ κs a r r' s s' p q. one-outcome p.3 q.3,
)
