-- No two different outcomes keep one promise of `message_effects`: of `volumes_of` and `laid_out` the volumes, of the others the tables left.
use Rattle.laws.proofs.Cases.{one-outcome}
use Rattle.laws.proofs.Promises.{OneOutcome, OneResult}
use Rattle.meaning.specs.Ledgers.{one}
use Rattle.message_effects.proofs.volumes_of.Reads as volumes-of
use Rattle.message_effects.proofs.placing.laid_out.Reads as laid_out
use Rattle.message_effects.proofs.write_slot.Reads as write-slot
use Rattle.message_effects.proofs.blank_pair.Reads as blank-pair

pub unique-volumes-of : OneResult volumes-of.Post
unique-volumes-of κs a r r' s s' = one-outcome

pub unique-laid-out : OneResult laid_out.Post
unique-laid-out κs a r r' s s' = one-outcome

pub unique-write-slot : OneOutcome write-slot.Post (λ κs r s. s.0.now) × OneOutcome write-slot.Post (λ κs r s. s.1.0.now)
unique-write-slot = (
  λ κs a r r' s s' p q. one-outcome p.0 q.0,
  λ κs a r r' s s' p q. one-outcome p.1 q.1,
)

pub unique-blank-pair : OneOutcome blank-pair.Post (λ κs r s. s.0.now)
unique-blank-pair κs a r r' s s' p q = one-outcome (p one) (q one)
