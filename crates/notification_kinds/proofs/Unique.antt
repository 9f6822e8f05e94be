-- No two different results keep the promise of `notification_kinds`.
use Rattle.laws.proofs.Cases.{one-outcome}
use Rattle.laws.proofs.Promises.{OneResult}
use Rattle.limits.proofs.KindNumbers.{same-found}
use Rattle.notification_kinds.proofs.kind_of.Reads as kind-of

pub unique-kind-of : OneResult kind-of.Post
unique-kind-of κs a r r' s s' p q = same-found r r' (one-outcome p q)
