-- No two different outcomes keep the promise of `write_spreadsheet`: the result, of which what C is given tells all, and the buffer left.
use Rattle.laws.proofs.Cases.{one-outcome}
use Rattle.laws.proofs.Promises.{OneOutcome, OneResult}
use Rattle.fields.proofs.Fronts.{written-tells}
use Rattle.spreadsheet_writing.proofs.write_spreadsheet.Reads as write-spreadsheet

pub unique-write-spreadsheet : OneResult write-spreadsheet.Post × OneOutcome write-spreadsheet.Post (λ κs r s. s.1.0.now)
unique-write-spreadsheet = (
  λ κs a r r' s s' p q. written-tells r r' (one-outcome p.0 q.0),
  λ κs a r r' s s' p q. one-outcome p.1 q.1,
)
