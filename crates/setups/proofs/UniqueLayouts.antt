-- No two different results keep one promise of the sizes.
use Rattle.laws.proofs.Cases.{one-outcome}
use Rattle.laws.proofs.Promises.{OneResult}
use Rattle.setups.proofs.layouts.bits_for.Reads as bits-for
use Rattle.setups.proofs.layouts.bytes_for.Reads as bytes-for
use Rattle.setups.proofs.layouts.padding_for.Reads as padding-for

pub unique-bits-for : OneResult bits-for.Post
unique-bits-for κs a r r' s s' = one-outcome

pub unique-bytes-for : OneResult bytes-for.Post
unique-bytes-for κs a r r' s s' = one-outcome

pub unique-padding-for : OneResult padding-for.Post
unique-padding-for κs a r r' s s' = one-outcome
