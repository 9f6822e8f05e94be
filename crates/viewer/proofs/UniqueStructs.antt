-- What these exports promise leaves no choice: of the struct that C is given and of each table and buffer left. Their functions promise the outcome
-- that the struct tells, so the uniqueness of those is of the outcome; here it is of what C is given.
use Rattle.laws.proofs.Cases.{one-outcome}
use Rattle.laws.proofs.Promises.{OneOutcome, OneResult}
use Rattle.spreadsheet_reading.proofs.Unique.{one-reading}
use Rattle.viewer.proofs.books.ghendufika_read_setup.Reads as read-setup
use Rattle.viewer.proofs.books.ghendufika_open.Reads as opening
use Rattle.viewer.proofs.books.ghendufika_close_gate.Reads as close-gate
use Rattle.viewer.proofs.books.ghendufika_notify.Reads as notify
use Rattle.viewer.proofs.books.ghendufika_apply.Reads as apply
use Rattle.viewer.proofs.books.ghendufika_apply_all.Reads as apply-all
use Rattle.viewer.proofs.days.ghendufika_day_length.Reads as day-length
use Rattle.viewer.proofs.days.ghendufika_code_of_day.Reads as code-of-day
use Rattle.viewer.proofs.days.ghendufika_day_of_date.Reads as day-of-date
use Rattle.viewer.proofs.days.ghendufika_date_of_day.Reads as date-of-day
use Rattle.viewer.proofs.days.ghendufika_propose_codes.Reads as propose-codes
use Rattle.viewer.proofs.checked.ghendufika_read_setup_checked.Reads as read-setup-checked
use Rattle.viewer.proofs.checked.ghendufika_open_checked.Reads as open-checked
use Rattle.viewer.proofs.checked.ghendufika_open_packed_checked.Reads as open-packed-checked
use Rattle.viewer.proofs.volumes.ghendufika_read_spreadsheet.Reads as read-spreadsheet
use Rattle.viewer.proofs.volumes.ghendufika_write_spreadsheet.Reads as write-spreadsheet

-- ---- a setup read, a book opened

pub unique-read-setup : OneResult read-setup.Post
unique-read-setup κs a r r' s s' = one-outcome

pub unique-read-setup-checked : OneResult read-setup-checked.Post
unique-read-setup-checked κs a r r' s s' = one-outcome

pub unique-open : OneResult opening.Post
    × OneOutcome opening.Post (λ κs r s. s.1.0.now)
    × OneOutcome opening.Post (λ κs r s. s.1.1.0.now)
    × OneOutcome opening.Post (λ κs r s. s.1.1.1.0.now)
unique-open = (
  λ κs a r r' s s' p q. one-outcome p.0 q.0,
  λ κs a r r' s s' p q. one-outcome p.1 q.1,
  λ κs a r r' s s' p q. one-outcome p.2 q.2,
  λ κs a r r' s s' p q. one-outcome p.3 q.3,
)

pub unique-open-checked : OneResult open-checked.Post
    × OneOutcome open-checked.Post (λ κs r s. s.1.0.now)
    × OneOutcome open-checked.Post (λ κs r s. s.1.1.0.now)
    × OneOutcome open-checked.Post (λ κs r s. s.1.1.1.0.now)
unique-open-checked = (
  λ κs a r r' s s' p q. one-outcome p.0 q.0,
  λ κs a r r' s s' p q. one-outcome p.1 q.1,
  λ κs a r r' s s' p q. one-outcome p.2 q.2,
  λ κs a r r' s s' p q. one-outcome p.3 q.3,
)

pub unique-open-packed-checked : OneResult open-packed-checked.Post
    × OneOutcome open-packed-checked.Post (λ κs r s. s.1.0.now)
    × OneOutcome open-packed-checked.Post (λ κs r s. s.1.1.0.now)
    × OneOutcome open-packed-checked.Post (λ κs r s. s.1.1.1.0.now)
unique-open-packed-checked = (
  λ κs a r r' s s' p q. one-outcome p.0 q.0,
  λ κs a r r' s s' p q. one-outcome p.1 q.1,
  λ κs a r r' s s' p q. one-outcome p.2 q.2,
  λ κs a r r' s s' p q. one-outcome p.3 q.3,
)

-- ---- calls on a book

pub unique-close-gate : OneResult close-gate.Post
unique-close-gate κs a r r' s s' = one-outcome

pub unique-notify : OneResult notify.Post
    × OneOutcome notify.Post (λ κs r s. s.1.1.0.now)
    × OneOutcome notify.Post (λ κs r s. s.1.1.1.0.now)
    × OneOutcome notify.Post (λ κs r s. s.1.1.1.1.0.now)
unique-notify = (
  λ κs a r r' s s' p q. one-outcome p.0 q.0,
  λ κs a r r' s s' p q. one-outcome p.1 q.1,
  λ κs a r r' s s' p q. one-outcome p.2 q.2,
  λ κs a r r' s s' p q. one-outcome p.3 q.3,
)

pub unique-apply : OneResult apply.Post
    × OneOutcome apply.Post (λ κs r s. s.1.1.0.now)
    × OneOutcome apply.Post (λ κs r s. s.1.1.1.0.now)
    × OneOutcome apply.Post (λ κs r s. s.1.1.1.1.0.now)
unique-apply = (
  λ κs a r r' s s' p q. one-outcome p.0 q.0,
  λ κs a r r' s s' p q. one-outcome p.1 q.1,
  λ κs a r r' s s' p q. one-outcome p.2 q.2,
  λ κs a r r' s s' p q. one-outcome p.3 q.3,
)

pub unique-apply-all : OneResult apply-all.Post
    × OneOutcome apply-all.Post (λ κs r s. s.1.1.0.now)
    × OneOutcome apply-all.Post (λ κs r s. s.1.1.1.0.now)
    × OneOutcome apply-all.Post (λ κs r s. s.1.1.1.1.0.now)
    × OneOutcome apply-all.Post (λ κs r s. s.1.1.1.1.1.0.now)
    × OneOutcome apply-all.Post (λ κs r s. s.1.1.1.1.1.1.0.now)
unique-apply-all = (
  λ κs a r r' s s' p q. one-outcome p.0 q.0,
  λ κs a r r' s s' p q. one-outcome p.1 q.1,
  λ κs a r r' s s' p q. one-outcome p.2 q.2,
  λ κs a r r' s s' p q. one-outcome p.3 q.3,
  λ κs a r r' s s' p q. one-outcome p.4 q.4,
  λ κs a r r' s s' p q. one-outcome p.5 q.5,
)

-- ---- the calendar

pub unique-day-length : OneResult day-length.Post
unique-day-length κs a r r' s s' = one-outcome

pub unique-code-of-day : OneResult code-of-day.Post
unique-code-of-day κs a r r' s s' = one-outcome

pub unique-day-of-date : OneResult day-of-date.Post
unique-day-of-date κs a r r' s s' = one-outcome

pub unique-date-of-day : OneResult date-of-day.Post
unique-date-of-day κs a r r' s s' = one-outcome

pub unique-propose-codes : OneResult propose-codes.Post
unique-propose-codes κs a r r' s s' = one-outcome

-- ---- spreadsheets

pub unique-read-spreadsheet : OneResult read-spreadsheet.Post
unique-read-spreadsheet κs a r r' s s' = one-reading _ r r'

pub unique-write-spreadsheet : OneResult write-spreadsheet.Post × OneOutcome write-spreadsheet.Post (λ κs r s. s.1.0.now)
unique-write-spreadsheet = (λ κs a r r' s s' p q. one-outcome p.0 q.0, λ κs a r r' s s' p q. one-outcome p.1 q.1)
