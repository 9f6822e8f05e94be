-- No two different results keep one promise of `bar`.
use Rattle.laws.proofs.Cases.{one-outcome}
use Rattle.laws.proofs.Promises.{OneResult}
use Rattle.bar.proofs.bar_of.Reads as bar-of
use Rattle.bar.proofs.case_of.Reads as case-of
use Rattle.bar.proofs.first_of.Reads as first_of
use Rattle.bar.proofs.second_of.Reads as second-of

pub unique-bar-of : OneResult bar-of.Post
unique-bar-of κs a r r' s s' = one-outcome

pub unique-case-of : OneResult case-of.Post
unique-case-of κs a r r' s s' = one-outcome

pub unique-first-of : OneResult first_of.Post
unique-first-of κs a r r' s s' = one-outcome

pub unique-second-of : OneResult second-of.Post
unique-second-of κs a r r' s s' = one-outcome
