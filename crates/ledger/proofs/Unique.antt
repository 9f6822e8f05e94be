-- No two different outcomes keep one promise of `ledger`: each is one equation for the result, and of a run of stores for the table left.
use Rattle.laws.proofs.Cases.{one-outcome}
use Rattle.laws.proofs.Promises.{OneOutcome, OneResult}
use Rattle.ledger.proofs.place_of.Reads as place_of
use Rattle.ledger.proofs.states.Reads as states
use Rattle.ledger.proofs.volume_at.Reads as volume-at
use Rattle.ledger.proofs.store_run.Reads as store-run
use Rattle.ledger.proofs.blank_run.Reads as blank-run
use Rattle.ledger.proofs.slots.entry_of.Reads as entry_of
use Rattle.ledger.proofs.slots.originator_of.Reads as originator-of
use Rattle.ledger.proofs.slots.slot_of.Reads as slot_of
use Rattle.ledger.proofs.slots.slot_for.Reads as slot-for

pub unique-place-of : OneResult place_of.Post
unique-place-of κs a r r' s s' = one-outcome

pub unique-states : OneResult states.Post
unique-states κs a r r' s s' = one-outcome

pub unique-volume-at : OneResult volume-at.Post
unique-volume-at κs a r r' s s' = one-outcome

pub unique-store-run : OneOutcome store-run.Post (λ κs r s. s.0.now)
unique-store-run κs a r r' s s' = one-outcome

pub unique-blank-run : OneOutcome blank-run.Post (λ κs r s. s.0.now)
unique-blank-run κs a r r' s s' = one-outcome

pub unique-entry-of : OneResult entry_of.Post
unique-entry-of κs a r r' s s' = one-outcome

pub unique-originator-of : OneResult originator-of.Post
unique-originator-of κs a r r' s s' = one-outcome

pub unique-slot-of : OneResult slot_of.Post
unique-slot-of κs a r r' s s' = one-outcome

pub unique-slot-for : OneResult slot-for.Post
unique-slot-for κs a r r' s s' = one-outcome
