-- No two different outcomes keep one promise of `decimals`: of a writer the buffer left and the result.
use Rattle.laws.proofs.Cases.{one-outcome}
use Rattle.laws.proofs.Promises.{OneOutcome, OneResult}
use Rattle.decimals.proofs.has_room.Reads as has_room
use Rattle.decimals.proofs.put_word.Reads as put_word
use Rattle.decimals.proofs.last_digit.Reads as last-digit
use Rattle.decimals.proofs.put_decimal.Reads as put-decimal
use Rattle.decimals.proofs.size.Reads as size

pub unique-has-room : OneResult has_room.Post
unique-has-room κs a r r' s s' = one-outcome

pub unique-put-word : OneOutcome put_word.Post (λ κs r s. s.0.now) × OneResult put_word.Post
unique-put-word = (
  λ κs a r r' s s' p q. one-outcome p.buffer q.buffer,
  λ κs a r r' s s' p q. one-outcome p.place q.place,
)

pub unique-last-digit : OneResult last-digit.Post
unique-last-digit κs a r r' s s' = one-outcome

pub unique-put-decimal : OneOutcome put-decimal.Post (λ κs r s. s.0.now) × OneResult put-decimal.Post
unique-put-decimal = (
  λ κs a r r' s s' p q. one-outcome p.buffer q.buffer,
  λ κs a r r' s s' p q. one-outcome p.place q.place,
)

pub unique-size : OneResult size.Post
unique-size κs a r r' s s' = one-outcome
