-- No two different outcomes keep one promise: the result, and of `day_marks` the three buffers left.
use Rattle.limits.proofs.AnswerNumbers.{same-answer}
use Rattle.laws.proofs.Cases.{one-outcome}
use Rattle.laws.proofs.Promises.{OneOutcome, OneResult}
use Rattle.marks.proofs.SameOutcomes.{same_mark, same_part}
use Rattle.marks.proofs.rows.row_refusal.Reads as row-refusal
use Rattle.marks.proofs.rows.row.Reads as row
use Rattle.marks.proofs.rows.row_place.Reads as row-place
use Rattle.marks.proofs.periods.mark.Reads as mark
use Rattle.marks.proofs.periods.day_marks.Reads as day-marks

-- ---- rows

pub unique-row-refusal : OneResult row-refusal.Post
unique-row-refusal κs a r r' s s' p q = same-answer r r' (one-outcome p q)

-- What the part holds. Where it lies no promise says: that it is the table's own part, and no copy, its lifetime says.
pub unique-row : OneOutcome row.Post (λ κs r s. r.now)
unique-row κs a r r' s s' = one-outcome

pub unique-row-place : OneResult row-place.Post
unique-row-place κs a r r' s s' p q = same_part r r' (one-outcome p.0.0 q.0.0)

-- ---- marks

pub unique-mark : OneResult mark.Post
unique-mark κs a r r' s s' p q = same_mark r r' (one-outcome p q)

pub unique-day-marks : OneResult day-marks.Post
    × OneOutcome day-marks.Post (λ κs r s. s.1.1.1.1.1.0.now)
    × OneOutcome day-marks.Post (λ κs r s. s.1.1.1.1.1.1.0.now)
    × OneOutcome day-marks.Post (λ κs r s. s.1.1.1.1.1.1.1.0.now)
unique-day-marks = (
  λ κs a r r' s s' p q. same-answer r r' (one-outcome p.0 q.0),
  λ κs a r r' s s' p q. one-outcome p.1 q.1,
  λ κs a r r' s s' p q. one-outcome p.2 q.2,
  λ κs a r r' s s' p q. one-outcome p.3 q.3,
)
