-- No two different results keep one promise of `messages`.
use Rattle.laws.proofs.Cases.{one-outcome}
use Rattle.laws.proofs.Promises.{OneResult}
use Rattle.limits.proofs.AnswerNumbers.{same-answer}
use Rattle.messages.proofs.layouts.kind_refusal.Reads as kind-refusal
use Rattle.messages.proofs.entries_inside.Reads as entries-inside
use Rattle.messages.proofs.layouts.bits_for.Reads as bits-for
use Rattle.messages.proofs.layouts.bytes_for.Reads as bytes-for
use Rattle.messages.proofs.layouts.padding_for.Reads as padding-for

pub unique-kind-refusal : OneResult kind-refusal.Post
unique-kind-refusal κs a r r' s s' p q = same-answer r r' (one-outcome p q)

pub unique-entries-inside : OneResult entries-inside.Post
unique-entries-inside κs a r r' s s' = one-outcome

pub unique-bits-for : OneResult bits-for.Post
unique-bits-for κs a r r' s s' = one-outcome

pub unique-bytes-for : OneResult bytes-for.Post
unique-bytes-for κs a r r' s s' = one-outcome

pub unique-padding-for : OneResult padding-for.Post
unique-padding-for κs a r r' s s' = one-outcome
