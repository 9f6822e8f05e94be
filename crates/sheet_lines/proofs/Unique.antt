-- No two different outcomes keep one promise of `sheet_lines`: each promise is one equation for the buffer left and one for the result.
use Rattle.laws.proofs.Cases.{one-outcome}
use Rattle.laws.proofs.Promises.{OneOutcome, OneResult}
use Rattle.sheet_lines.proofs.put_sheet_line.Reads as put-sheet-line
use Rattle.sheet_lines.proofs.put_message_line.Reads as put-message-line
use Rattle.sheet_lines.proofs.put_message_lines.Reads as put-message-lines
use Rattle.sheet_lines.proofs.put_total_line.Reads as put-total-line
use Rattle.sheet_lines.proofs.put_end_line.Reads as put-end-line
use Rattle.sheet_lines.proofs.put_setup_line.Reads as put-setup-line

pub unique-put-sheet-line : OneOutcome put-sheet-line.Post (λ κs r s. s.0.now) × OneResult put-sheet-line.Post
unique-put-sheet-line = (
  λ κs a r r' s s' p q. one-outcome p.0 q.0,
  λ κs a r r' s s' p q. one-outcome p.1 q.1,
)

pub unique-put-message-line : OneOutcome put-message-line.Post (λ κs r s. s.0.now) × OneResult put-message-line.Post
unique-put-message-line = (
  λ κs a r r' s s' p q. one-outcome p.0 q.0,
  λ κs a r r' s s' p q. one-outcome p.1 q.1,
)

pub unique-put-message-lines : OneOutcome put-message-lines.Post (λ κs r s. s.0.now) × OneResult put-message-lines.Post
unique-put-message-lines = (
  λ κs a r r' s s' p q. one-outcome p.0 q.0,
  λ κs a r r' s s' p q. one-outcome p.1 q.1,
)

pub unique-put-total-line : OneOutcome put-total-line.Post (λ κs r s. s.0.now) × OneResult put-total-line.Post
unique-put-total-line = (
  λ κs a r r' s s' p q. one-outcome p.0 q.0,
  λ κs a r r' s s' p q. one-outcome p.1 q.1,
)

pub unique-put-end-line : OneOutcome put-end-line.Post (λ κs r s. s.0.now) × OneResult put-end-line.Post
unique-put-end-line = (
  λ κs a r r' s s' p q. one-outcome p.0 q.0,
  λ κs a r r' s s' p q. one-outcome p.1 q.1,
)

pub unique-put-setup-line : OneOutcome put-setup-line.Post (λ κs r s. s.0.now) × OneResult put-setup-line.Post
unique-put-setup-line = (
  λ κs a r r' s s' p q. one-outcome p.0 q.0,
  λ κs a r r' s s' p q. one-outcome p.1 q.1,
)
