-- No two different results keep one promise of reading.
use Rattle.laws.proofs.Cases.{one-outcome}
use Rattle.laws.proofs.Promises.{OneResult}
use Rattle.limits.proofs.AnswerNumbers.{same-answer}
use Rattle.message_reading.proofs.Tells.{tells}
use Rattle.message_reading.proofs.read_message.Reads as read-message
use Rattle.message_reading.proofs.reading_refusal.Reads as reading-refusal
use Rattle.message_reading.proofs.message_length.Reads as message-length
use Rattle.message_reading.proofs.kind_in.Reads as kind-in
use Rattle.message_reading.proofs.entry_in.Reads as entry-in

pub unique-read-message : OneResult read-message.Post
unique-read-message κs a r r' s s' p q = tells r r' (one-outcome p q)

pub unique-reading-refusal : OneResult reading-refusal.Post
unique-reading-refusal κs a r r' s s' p q = same-answer r r' (one-outcome p q)

pub unique-message-length : OneResult message-length.Post
unique-message-length κs a r r' s s' = one-outcome

pub unique-kind-in : OneResult kind-in.Post
unique-kind-in κs a r r' s s' = one-outcome

pub unique-entry-in : OneResult entry-in.Post
unique-entry-in κs a r r' s s' = one-outcome
