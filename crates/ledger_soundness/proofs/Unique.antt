-- No two different results keep one promise of `ledger_soundness`.
use Rattle.laws.proofs.Cases.{one-outcome}
use Rattle.laws.proofs.Promises.{OneResult}
use Rattle.ledger_soundness.proofs.all_blank.Reads as all-blank
use Rattle.ledger_soundness.proofs.all_right.Reads as all-right
use Rattle.ledger_soundness.proofs.held_right.Reads as held-right
use Rattle.ledger_soundness.proofs.side_right.Reads as side_right

pub unique-all-blank : OneResult all-blank.Post
unique-all-blank κs a r r' s s' = one-outcome

pub unique-all-right : OneResult all-right.Post
unique-all-right κs a r r' s s' = one-outcome

pub unique-held-right : OneResult held-right.Post
unique-held-right κs a r r' s s' = one-outcome

pub unique-side-right : OneResult side_right.Post
unique-side-right κs a r r' s s' = one-outcome
