-- No two different results keep one promise of `figures`.
use Rattle.laws.proofs.Cases.{one-outcome}
use Rattle.laws.proofs.Promises.{OneResult}
use Rattle.figures.proofs.is_matched.Reads as is-matched
use Rattle.figures.proofs.in_pair.Reads as in_pair
use Rattle.figures.proofs.seen_by.Reads as seen_by
use Rattle.figures.proofs.mwh.Reads as mwh

pub unique-is-matched : OneResult is-matched.Post
unique-is-matched κs a r r' s s' = one-outcome

pub unique-in-pair : OneResult in_pair.Post
unique-in-pair κs a r r' s s' = one-outcome

pub unique-seen-by : OneResult seen_by.Post
unique-seen-by κs a r r' s s' = one-outcome

pub unique-mwh : OneResult mwh.Post
unique-mwh κs a r r' s s' = one-outcome
