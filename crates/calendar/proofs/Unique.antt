-- No two different results keep one promise of the calendar.
use Rattle.laws.proofs.Cases.{one-outcome}
use Rattle.laws.proofs.Promises.{OneResult}
use Rattle.calendar.proofs.Outcomes.{measured-tells, coded-tells, numbered-tells, dated-tells, proposed-tells}
use Rattle.calendar.proofs.lengths.day_length.Reads as day-length
use Rattle.calendar.proofs.lengths.code_of_day.Reads as code-of-day
use Rattle.calendar.proofs.dates.day_of_date.Reads as day-of-date
use Rattle.calendar.proofs.dates.date_of_day.Reads as date-of-day
use Rattle.calendar.proofs.proposals.propose_codes.Reads as propose-codes

pub unique-day-length : OneResult day-length.Post
unique-day-length κs a r r' s s' p q = measured-tells r r' (one-outcome p q)

pub unique-code-of-day : OneResult code-of-day.Post
unique-code-of-day κs a r r' s s' p q = coded-tells r r' (one-outcome p q)

pub unique-day-of-date : OneResult day-of-date.Post
unique-day-of-date κs a r r' s s' p q = numbered-tells r r' (one-outcome p q)

pub unique-date-of-day : OneResult date-of-day.Post
unique-date-of-day κs a r r' s s' p q = dated-tells r r' (one-outcome p q)

pub unique-propose-codes : OneResult propose-codes.Post
unique-propose-codes κs a r r' s s' p q = proposed-tells r r' (one-outcome p q)
